use Rattle.std.proofs.Common.{arith, ◌∙◌}
use Rattle.noise_explain.specs.FramePieces.IsPieceAt.{in_length}
use Rattle.noise_explain.proofs.FrameLemmas.{key-at, payload-at}
use Rattle.noise_explain.proofs.frame_piece.piece_at.Goals as goal

pub returns-then-at-lt2 : goal.returns-then-at-lt2
returns-then-at-lt2 c = record {
  value = in_length c.if-at-lt2.true;
}

pub returns-then-offset-next : goal.returns-then-offset-next
returns-then-offset-next c = record {
  value = key-at c.args.pattern.now c.args.message c.args.len c.args.at c.loop-index.index c.tokens_of-tokens.result.now _
      c.from-begin.result c.from-next.result c.has_key_before-has_key.result c.key_piece.result c.tokens_of-tokens.ensures.value
      c.loop-index-test.true (c.from-begin.ensures ∙ c.bytes_before-then-offset-next.ensures.value) (c.from-next.ensures ∙ c.bytes_before.ensures.value)
      c.has_key_before-has_key.ensures.value c.loop-index.invariant c.if-offset-next.true c.key_piece.ensures;
}

pub returns : goal.returns
returns c = record {
  value = payload-at c.args.pattern.now c.args.message c.args.len c.args.at c.loop-index.index c.tokens_of-tokens.result.now
      c.has_key_before-has_key-2.result c.saturating_sub.result c.payload_piece.result c.tokens_of-tokens.ensures.value
      (omega (arith, c.loop-index-test.false, c.loop-index.auto.index-end)) c.has_key_before-has_key-2.ensures.value c.saturating_sub.ensures c.loop-index.invariant c.payload_piece.ensures;
}
