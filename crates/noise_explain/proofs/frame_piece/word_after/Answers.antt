use Rattle.std.proofs.Common.{ℕ, None, Some}
use Rattle.std.proofs.lemmas.Bool.Decides.{Decides-eqb}
use Rattle.std.proofs.lemmas.Slice.Eq.{strip_prefix_is}
use Rattle.noise_explain.proofs.FrameLemmas.{none-any}
use Rattle.noise_explain.proofs.frame_piece.word_after.Goals as goal

pub returns-in_err-word-clause-none : goal.returns-in_err-word-clause-none
returns-in_err-word-clause-none c =
    none-any _ _ (strip_prefix_is {A = ℕ} Decides-eqb c.args.line.now c.args.front.now None c.in_err-word.ensures.cases)

pub returns-clause-some : goal.returns-clause-some
returns-clause-some c = strip_prefix_is Decides-eqb c.args.line.now c.args.front.now (Some c.in_ok-word.word) c.in_ok-word.ensures.cases
