use Rattle.std.proofs.Common.{ℕ, List, ◌≤◌, length, sym, subst}
use Rattle.noise_names.proofs.TextLengths.{few-name}
use Rattle.noise_names.proofs.laws.names_are_short.Goals as goal

pub returns : goal.returns
returns c = λ bytes s h. subst (λ (z : List ℕ). length z ≤ 82) (sym h.spelled) (few-name s h.is_section)
