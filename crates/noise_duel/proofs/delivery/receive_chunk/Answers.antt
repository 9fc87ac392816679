use Rattle.std.proofs.Common.{length, arith}
use Rattle.noise_duel.proofs.Common.{step_value}
use Rattle.noise_duel.proofs.Received.{is-some, left_of-most, received-more, stopped-idle}
use Rattle.noise_duel.proofs.delivery.receive_chunk.Goals as goal

pub returns-then-count-eq0-clause-most : goal.returns-then-count-eq0-clause-most
returns-then-count-eq0-clause-most g c =
    left_of-most (step_value c.take.result.1) c.left_at.result (length c.loop-rest.rest.now) (length c.args.piece.now) c.left_at.ensures c.loop-rest.invariant.most

pub returns-then-count-eq0-clause-left : goal.returns-then-count-eq0-clause-left
returns-then-count-eq0-clause-left g c s matches =
    stopped-idle g.K.Keys.pairs s c.args.role c.args.piece.now c.loop-rest.rest.now c.loop-rest.end c.take.follows.lender-at-none
    c.args.entries.now.items c.loop-rest.entries.items c.take.result.0 (step_value c.take.result.1) c.left_at.result (c.loop-rest.invariant.some s matches)
    c.take.follows.holds-at-none c.if-count-eq0.true
    (is-some c.is_empty.result (length c.loop-rest.rest.now) c.is_empty.ensures c.loop-rest-test.true) c.take.ensures.partial c.left_at.ensures

pub loop-rest-preserved : goal.loop-rest-preserved
loop-rest-preserved g c = record {
  most = omega (arith, c.split_at.ensures.back_len, c.loop-rest.invariant.most);
  some = λ s matches.
      received-more g.K.Keys.pairs s c.args.role c.args.piece.now c.loop-rest.rest.now c.split_at.result.1.now
      c.loop-rest.end c.take.follows.lender-at-none c.args.entries.now.items c.loop-rest.entries.items c.report_step.new.entries.items
      c.take.result.0 (step_value c.take.result.1) (c.loop-rest.invariant.some s matches) c.split_at.ensures.back c.take.follows.holds-at-none c.in_ok-report_step.ensures;
}
