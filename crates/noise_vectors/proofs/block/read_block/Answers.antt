use Rattle.std.proofs.Common.{◌∙◌, inl, inr, refl, sym}
use Rattle.noise_vectors.proofs.Common.{last_number}
use Rattle.noise_vectors.proofs.BlockLemmas.{block-cut, block-lines, lined-pattern}
use Rattle.noise_vectors.proofs.PartLemmas.{block-wrong}
use Rattle.noise_vectors.proofs.Results.{err-is}
use Rattle.noise_vectors.proofs.block.read_block.Goals as goal

pub returns-in_err-text-clause-every : goal.returns-in_err-text-clause-every
returns-in_err-text-clause-every c = λ pattern rest h named e.
    let l = lined-pattern pattern h in
    absurd (c.in_err-text.ensures.every l.before rest l.inner (block-lines pattern h rest c.args.lines.now.rest.now e))

pub returns-in_err-end-in-Ok-clause-every : goal.returns-in_err-end-in-Ok-clause-every
returns-in_err-end-in-Ok-clause-every c = λ pattern rest h named e.
    let l = lined-pattern pattern h in
    let read = c.in_ok-text.ensures.every l.before rest l.inner (block-lines pattern h rest c.args.lines.now.rest.now e) in
    let ended = c.in_err-end-in-Ok.ensures.ended.1 read.2 in
    cc (ended)

pub returns-in_ok-end-in-Ok-clause-every : goal.returns-in_ok-end-in-Ok-clause-every
returns-in_ok-end-in-Ok-clause-every c = λ pattern rest h named e.
    let l = lined-pattern pattern h in
    let read = c.in_ok-text.ensures.every l.before rest l.inner (block-lines pattern h rest c.args.lines.now.rest.now e) in
    let parsed = c.in-Ok.ensures.every pattern h named (read.0 ∙ sym l.lines_are) in
    (cc (parsed), read.1)

pub returns-in-Err-clause-every : goal.returns-in-Err-clause-every
returns-in-Err-clause-every c = λ pattern rest h named e.
    let l = lined-pattern pattern h in
    let read = c.in_ok-text.ensures.every l.before rest l.inner (block-lines pattern h rest c.args.lines.now.rest.now e) in
    let parsed = c.in-Err.ensures.every pattern h named (read.0 ∙ sym l.lines_are) in
    cc (parsed)

pub returns-in_ok-end-in-Ok-clause-counted : goal.returns-in_ok-end-in-Ok-clause-counted
returns-in_ok-end-in-Ok-clause-counted c = c.in_ok-text.ensures.counted (c.in_ok-end-in-Ok.ensures.ended.0 refl)

pub returns-in_err-end-in-Ok-clause-reported : goal.returns-in_err-end-in-Ok-clause-reported
returns-in_err-end-in-Ok-clause-reported c =
    λ right.
    rw (err-is c.from_residual-in_err-end-in-Ok.result c.from_residual-in_err-end-in-Ok.ensures.1) (inr (inl (block-cut c.args.protocol.now c.args.lines.now.rest.now c.in_ok-text.text.now (last_number c.args.lines.now)
    c.take_block.new.lines.number _ c.in-Ok.pattern c.in-Ok.ensures.right c.in-Ok.ensures.named c.in-Ok.ensures.spelled c.in_ok-text.ensures.block
    (λ before rest h e.
    let read = c.in_ok-text.ensures.every before rest h e in
    let ended = c.in_err-end-in-Ok.ensures.ended.1 read.2 in
    cc (ended))
    c.in_err-end-in-Ok.ensures.fault.1 (c.in_ok-text.ensures.last c.in_err-end-in-Ok.ensures.fault.0))))

pub returns-in-Err-clause-reported : goal.returns-in-Err-clause-reported
returns-in-Err-clause-reported c = λ right.
    inr (inr (block-wrong c.args.protocol.now c.args.lines.now c.in_ok-text.text.now c.in-Err.number c.saturating_add.result
    c.args.lines.now.few c.saturating_add.ensures c.in_ok-text.ensures.block (c.in-Err.ensures.reported right)))
