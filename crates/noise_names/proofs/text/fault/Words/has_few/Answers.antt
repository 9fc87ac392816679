use Rattle.std.proofs.Common.{◌≡◌, ◌∙◌, sym, false, not, ◌&&◌, refl, Bool}
use Rattle.noise_names.proofs.WordLists.{cut-few}
use Rattle.noise_names.proofs.text.fault.Words.has_few.Goals as goal

few : (empty full x y : Bool) → empty ≡ false → empty ≡ x → full ≡ y → not full ≡ not x && not y
few empty full x y e f g = let none : x ≡ false = sym f ∙ e in rw (none, ← g) refl

pub returns-then-not-is_empty-clause-few : goal.returns-then-not-is_empty-clause-few
returns-then-not-is_empty-clause-few c = λ tokens h.
    cut-few c.args.self.now tokens _ h (few _ _ _ _ c.if-not-is_empty.true c.is_empty.ensures c.is_full.ensures.value)
