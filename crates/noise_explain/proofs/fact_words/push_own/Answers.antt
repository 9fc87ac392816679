use Rattle.noise_explain.specs.FactWords.{own_text}
use Rattle.noise_explain.proofs.fact_words.push_own.Goals as goal

pub returns : goal.returns
unfolding own_text
returns c = rw (← c.role_word.ensures.text, ← c.if_psks.ensures, ← c.word.ensures) c.push.ensures
