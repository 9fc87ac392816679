use Rattle.std.proofs.Common.{append_assoc, string_bytes}
use Rattle.noise_explain.specs.RuleWords.{key_missing}
use Rattle.noise_explain.proofs.PushLemmas.{same-text}
use Rattle.noise_explain.proofs.rule_sentences.key_missing.Goals as goal

pub returns : goal.returns
returns c = same-text string_bytes c.format.result _ (key_missing c.args.dh c.args.missing) c.format.ensures.ok (rw (c.token_word-token.ensures.text, c.token_word-key.ensures.text, c.role_word-owner.ensures.text) (simp append_assoc))
