-- A vector file has one pattern.
use Rattle.std.proofs.Common.{◌≡◌, ◌∙◌, sym, subst, Option, Some, None}
use Rattle.std.proofs.lemmas.Option.{same_Some}
use Rattle.noise_names.specs.Limits.{Placed}
use Rattle.noise_names.specs.Names.{Section}
use Rattle.noise_names.specs.Placing.{placed-once}
use Rattle.noise_names.specs.Plan.{Plan}
use Rattle.noise_lines.specs.Named.{IsNamed}
use Rattle.noise_run.specs.Ends.{IsFilePattern}

named-once : (name : Section) (p q : Plan) → IsNamed name p → IsNamed name q → p ≡ q
named-once name p q h k =
    let same : h.plain ≡ k.plain = same_Some h.plain k.plain (sym h.known ∙ k.known) in
    placed-once h.plain name.places p q h.placed (subst (λ (z : Plan). Placed z name.places q) (sym same) k.placed)

pub pattern-once : (block : Option Plan) (name : Section) (p q : Plan) → IsFilePattern block name p
    → IsFilePattern block name q → p ≡ q
pattern-once (Some pattern) name p q h k = h ∙ sym k
pattern-once None name p q h k = named-once name p q h k
