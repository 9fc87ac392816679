use Rattle.std.proofs.Common.{ℕ, eqb, rules, tests}
use Rattle.std.proofs.lemmas.Iterator.{YieldsList-from_slice}
use Rattle.std.proofs.lemmas.Iterator.Search.{all_from_yields_List}
use Rattle.noise_session.proofs.window.are_zeros.Goals as goal

pub returns : goal.returns
returns c = all_from_yields_List (λ (word : ℕ). eqb word 0) _ _ _ c.all.ensures.ran (YieldsList-from_slice c.args.words.now cc) (λ x b q k. search (rules, tests))
