-- The places of a name are those of its messages, and what is wrong with a pattern isn't wrong with a valid one.
use Rattle.std.proofs.Common.{◌≡◌, ◌∙◌, ap, sym, ℕ, List, [], ◌∷◌, Option, Some, None}
use Rattle.noise_transcript.proofs.Common.{Plan, IsFirstFault, IsValid}
use Rattle.noise_names.specs.declared.faults.RuleFault.{RuleFault}
use Rattle.noise_names.specs.Fundamental.{fundamental_of}
use Rattle.noise_names.specs.Limits.{first_beyond}
use Rattle.noise_names.specs.Names.{Section}
use Rattle.noise_lines.specs.Named.{IsNamed}
use Rattle.std.proofs.lemmas.Option.{same_Some}
use Rattle.noise_names.specs.Placing.{none-beyond}

-- the places of its name are those of its messages
pub no-place-beyond : (name : Section) (p plain : Plan) (n : ℕ) → IsNamed name p → fundamental_of name.base ≡ Some plain
    → first_beyond plain name.places ≡ Some n → ⊥
no-place-beyond name p plain n h known beyond =
    let same : plain ≡ h.plain = same_Some plain h.plain (sym known ∙ h.known) in
    none-beyond h.plain name.places p n h.placed (ap (λ (z : Plan). first_beyond z name.places) (sym same) ∙ beyond)

pub no-name-without : (name : Section) (p : Plan) → IsNamed name p → fundamental_of name.base ≡ None → ⊥
no-name-without name p h none = let bad : ◌≡◌ {A = Option Plan} None (Some h.plain) = sym none ∙ h.known in cc bad

none-cons : (n : ℕ) (ns : List ℕ) → [] ≡ n ∷ ns → ⊥
none-cons n ns e = cc

pub no-rule-broken : (p : Plan) (fault : RuleFault) → IsValid p → IsFirstFault p fault → ⊥
no-rule-broken p fault valid h = none-cons fault.rule h.higher (sym (valid h.earlier h.at h.later h.places) ∙ h.lowest)
