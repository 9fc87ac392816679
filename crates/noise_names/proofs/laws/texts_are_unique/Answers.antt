use Rattle.std.proofs.Common.{sym, ◌∙◌}
use Rattle.noise_names.proofs.OneText.{one_text}
use Rattle.noise_names.proofs.laws.texts_are_unique.Goals as goal

pub returns : goal.returns
returns c = λ text p q h k. one_text p q h.is_pattern k.is_pattern (sym h.spelled ∙ k.spelled)
