use Rattle.std.proofs.Common.{arith, ◌≡◌, inl, length}
use Rattle.noise_explain.proofs.WalkLemmas.{Walked-over, Walked-step, Walked-wrong}
use Rattle.noise_explain.proofs.line_column.wrong_at.Goals as goal

pub returns-then-not-has_shape-clause-value : goal.returns-then-not-has_shape-clause-value
returns-then-not-has_shape-clause-value c =
    inl (Walked-wrong c.args.shapes.now c.args.line.now c.loop-shape.shape-index c.loop-shape.at c.loop-shape.invariant c.loop-shape-test.true
    (omega arith) (λ has. let yes = c.has_shape.ensures.1 (rw c.word_from.ensures.value has) in cc (yes, c.if-not-has_shape.true)))

pub loop-shape-preserved : goal.loop-shape-preserved
loop-shape-preserved c =
    let word = c.word_from.ensures.value in
    let again = c.word_from-in-loop-shape.ensures.value in
    rw again (Walked-step c.args.shapes.now c.args.line.now c.loop-shape.shape-index c.loop-shape.at c.loop-shape.invariant c.loop-shape-test.true
    (omega arith) (rw word at (c.has_shape.ensures.0 c.if-not-has_shape.false)) (rw word at c.word_from.ensures.few))

pub returns-else-at-len-2-clause-value : goal.returns-else-at-len-2-clause-value
returns-else-at-len-2-clause-value c =
    let all : c.loop-shape.shape-index ≡ length c.args.shapes.now = omega (arith, c.loop-shape-test.false, c.loop-shape.auto.shape-index-end) in
    inl (Walked-over c.args.shapes.now c.args.line.now c.loop-shape.shape-index c.loop-shape.at c.loop-shape.invariant all (omega arith))
