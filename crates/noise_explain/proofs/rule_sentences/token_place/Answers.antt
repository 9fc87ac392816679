use Rattle.std.proofs.Common.{append_assoc, string_bytes}
use Rattle.noise_explain.specs.RuleWords.{token_place}
use Rattle.noise_explain.proofs.PushLemmas.{same-text}
use Rattle.noise_explain.proofs.rule_sentences.token_place.Goals as goal

pub returns : goal.returns
returns c = same-text string_bytes c.format.result _ (token_place c.args.fault c.args.token) c.format.ensures.ok (rw c.token_word-word.ensures.text (simp append_assoc))
