use Rattle.std.proofs.Common.{sym}
use Rattle.noise_tool.proofs.AskedLemmas.{named-asked}
use Rattle.noise_tool.proofs.performing.asked_text.Goals as goal

pub returns-in-Err-Unreadable-clause-text : goal.returns-in-Err-Unreadable-clause-text
returns-in-Err-Unreadable-clause-text g c =
    named-asked (g.F.FilesByName.bytes_at c.args.files.now) (g.F.FilesByName.unreadable c.args.files.now) c.args.chosen.now c.in-Some.name.now
    (sym (rw c.in-Some.is at c.asked_file.ensures)) (c.in-Err-Unreadable.ensures.failed c.in-Err-Unreadable.field-0-is)
    c.named_text.result c.named_text.ensures.text
