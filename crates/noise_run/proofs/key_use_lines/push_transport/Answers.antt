use Rattle.std.proofs.Common.{◌≡◌, ◌+◌, arith}
use Rattle.noise_run.proofs.Common.{bytes_of}
use Rattle.noise_run.proofs.SelectionLemmas.{counted-some, transport-rekeyed}
use Rattle.noise_run.proofs.RunningLemmas.{on_ok}
use Rattle.noise_run.proofs.key_use_lines.push_transport.Goals as goal

pub returns-in-Some : goal.returns-in-Some
returns-in-Some c = λ counted.
    let more = counted-some c.args.nonce c.args.key.now c.in-Some.key c.args.renewed.now c.in-Some.is counted in
    let later : c.saturating_add.result ≡ c.args.nonce + 1 = omega (arith, c.saturating_add.ensures, c.ranges.nonce.fits, more) in
    on_ok c.push_transport_line-in-Some.result _ _ (λ pushed.
    transport-rekeyed c.args.selection c.args.about c.args.nonce c.saturating_add.result c.args.key.now c.in-Some.key c.act_word-name.result.now
    c.transport_call_word-call.result.now c.args.renewed.now c.selects_transport.result (bytes_of c.args.lines.now.items)
    (bytes_of c.push_transport_line.new.lines.items) _ c.if-not-selects_transport.false c.selects_transport.ensures c.in-Some.is c.act_word-name.ensures.text
    c.transport_call_word-call.ensures.text later c.in_ok-push_transport_line.ensures.lines pushed)
    c.push_transport_line-in-Some.ensures.lines
