use Rattle.noise_duel.proofs.Common.{on_ok_weaker}
use Rattle.noise_duel.proofs.Received.{received-all}
use Rattle.noise_duel.proofs.delivery.receive.Goals as goal

pub returns : goal.returns
returns g c s matches =
    on_ok_weaker c.report_partial.result
    (λ partial.
    received-all g.K.Keys.pairs s c.args.role c.args.bytes.now c.in_ok-left.left c.receive_chunks.new.end c.held.result
    c.args.entries.now.items c.receive_chunks.new.entries.items c.report_left.new.entries.items c.report_partial.new.entries.items
    (c.in_ok-left.ensures s matches) c.held.ensures.partial c.held.ensures.count c.in_ok-report_left.ensures partial)
    c.report_partial.ensures
