use Rattle.std.proofs.Common.{◌∙◌, ◌++◌, ap, List, ℕ}
use Rattle.noise_explain.proofs.FixLemmas.{fixed-none, fixed-step}
use Rattle.noise_explain.proofs.fixing.fixed_text.Goals as goal

pub loop-step-init : goal.loop-step-init
loop-step-init c =
    fixed-none c.args.text.now _ (c.in_ok-extend_from_slice.ensures.items ∙ ap (λ (t : List ℕ). t ++ c.args.text.now) c.new-made.ensures.items)

pub loop-step-preserved : goal.loop-step-preserved
loop-step-preserved c =
    fixed-step c.args.text.now _ _ _ c.loop-step.invariant c.deref.ensures.value (rw c.in-Some.is at c.in_ok-next.ensures)
