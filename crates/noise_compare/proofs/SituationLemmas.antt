-- The text of a step's bytes, by equal values.
use Rattle.std.proofs.Common.{◌≡◌, ℕ, List, subst, sym}
use Rattle.noise_compare.specs.Situations.{IsTextOf}
use Rattle.noise_compare.specs.declared.state.State.{State}

pub same-text : (before : State) (bytes text other : List ℕ) → text ≡ other → IsTextOf before bytes other → IsTextOf before bytes text
same-text before bytes text other same is = subst (λ (t : List ℕ). IsTextOf before bytes t) (sym same) is

pub same-step : (before other : State) (bytes more text : List ℕ) → other ≡ before → more ≡ bytes → IsTextOf other more text
    → IsTextOf before bytes text
same-step before other bytes more text step same is =
    subst (λ (s : State). IsTextOf s bytes text) step (subst (λ (b : List ℕ). IsTextOf other b text) same is)
