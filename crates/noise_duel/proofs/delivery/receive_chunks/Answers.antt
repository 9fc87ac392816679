use Rattle.std.proofs.Common.{length, arith}
use Rattle.noise_duel.proofs.Received.{is-some, index-on, received-piece, stopped-piece}
use Rattle.noise_duel.proofs.delivery.receive_chunks.Goals as goal

pub returns-in-Some : goal.returns-in-Some
returns-in-Some g c s matches =
    stopped-piece g.K.Keys.pairs s c.args.role c.args.bytes.now c.loop-rest.rest.now c.split_at.result.0.now c.split_at.result.1.now
    c.loop-rest.end c.receive_chunk.new.end c.args.entries.now.items c.loop-rest.entries.items c.receive_chunk.new.entries.items c.in_ok-why.field-0
    c.in-Some.why c.in-Some.left (c.loop-rest.invariant.some s matches) c.split_at.ensures.by_index.0 c.in-Some.is c.in_ok-why.ensures.left

pub loop-rest-preserved : goal.loop-rest-preserved
loop-rest-preserved g c =
    let some = is-some c.is_empty.result (length c.loop-rest.rest.now) c.is_empty.ensures c.loop-rest-test.true in
    record {
      most = omega (arith, c.split_at.ensures.back_len, c.loop-rest.invariant.most);
      index = index-on c.loop-rest.index c.piece_len.result (length c.loop-rest.rest.now) (length c.split_at.result.1.now) (length c.args.bytes.now)
          (λ late. c.piece_len.ensures.some late some) c.split_at.ensures.back_len c.loop-rest.invariant.index c.loop-rest.invariant.most;
      some = λ s matches.
          received-piece g.K.Keys.pairs s c.args.role c.args.bytes.now
          c.loop-rest.rest.now c.split_at.result.0.now c.split_at.result.1.now c.loop-rest.end c.receive_chunk.new.end
          c.args.entries.now.items c.loop-rest.entries.items c.receive_chunk.new.entries.items c.in_ok-why.field-0
          (c.loop-rest.invariant.some s matches) c.split_at.ensures.by_index.0 c.in_default.is c.in_ok-why.ensures.left;
    }
