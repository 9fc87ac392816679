use Rattle.std.proofs.Common.{◌≡◌, ℕ, List, Option, Some, None, sym, ◌∙◌}
use Rattle.noise_names.proofs.Common.{IfSome, IsFalse, Plan, has_psk}
use Rattle.noise_names.specs.Fundamental.{fundamental_of}
use Rattle.noise_names.proofs.Reading.{known-plain}
use Rattle.noise_names.proofs.table.fundamental.Goals as goal

plain-found : (base : List ℕ) (found : Option Plan) → found ≡ fundamental_of base → IfSome found (λ p. IsFalse (has_psk p))
plain-found base None e = tt
plain-found base (Some p) e = known-plain base p (sym e)

pub returns-clause-plain : goal.returns-clause-plain
returns-clause-plain c =
    plain-found c.args.base.now c.fundamental_at.result (c.fundamental_at.ensures ∙ c.in_ok-place_of.ensures)
