use Rattle.std.proofs.Common.{sym}
use Rattle.noise_tool.proofs.Common.{err_from_is_err_and}
use Rattle.noise_tool.proofs.FillingLemmas.{fill-known, unread-known}
use Rattle.noise_tool.proofs.filling.fill_template.Goals as goal

pub returns-in_err-pattern-clause-fault : goal.returns-in_err-pattern-clause-fault
returns-in_err-pattern-clause-fault g c =
    let q = err_from_is_err_and c.from_residual-in_err-pattern.result c.from_residual-in_err-pattern.ensures.1 in
    rw (q.1, q.2) (rw c.as_str-word.ensures.value at c.in_err-pattern.ensures.fault)

pub returns-in-Ok-clause-made : goal.returns-in-Ok-clause-made
returns-in-Ok-clause-made g c =
    fill-known c.args.names.now (g.F.FilesByName.bytes_at c.args.files.now) (g.F.FilesByName.unreadable c.args.files.now) _
    (rw c.as_str-word.ensures.value at c.in_ok-pattern.ensures.named) c.deref.result.now c.fill.result
    (rw (sym c.deref.ensures.value, c.as_str-keys.ensures.value) at c.in-Ok.ensures.bytes)
    (rw c.as_str-keys.ensures.value at c.fill.ensures.made)

pub returns-in-Err-clause-made : goal.returns-in-Err-clause-made
returns-in-Err-clause-made g c =
    unread-known c.args.names.now (g.F.FilesByName.bytes_at c.args.files.now) (g.F.FilesByName.unreadable c.args.files.now) _
    (rw c.as_str-word.ensures.value at c.in_ok-pattern.ensures.named) c.in-Err.fault c.refuse_keys.result
    (rw c.as_str-keys.ensures.value at c.in-Err.ensures.fault) (rw c.as_str-keys.ensures.value at c.in-Err.ensures.failed)
    (rw c.as_str-keys.ensures.value at c.refuse_keys.ensures.refused)
