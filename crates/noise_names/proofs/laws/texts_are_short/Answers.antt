use Rattle.std.proofs.Common.{ℕ, List, ◌≤◌, length, sym, subst}
use Rattle.noise_names.proofs.TextLengths.{few-text}
use Rattle.noise_names.proofs.laws.texts_are_short.Goals as goal

pub returns : goal.returns
returns c = λ text p h. subst (λ (z : List ℕ). length z ≤ 413) (sym h.spelled) (few-text p h.is_pattern)
