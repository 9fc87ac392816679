use Rattle.std.proofs.Common.{append_assoc, string_bytes}
use Rattle.noise_explain.specs.RuleWords.{transport_place}
use Rattle.noise_explain.proofs.PushLemmas.{same-text}
use Rattle.noise_explain.proofs.rule_sentences.transport_place.Goals as goal

pub returns : goal.returns
returns c = same-text string_bytes c.format.result _ (transport_place c.args.fault c.args.role) c.format.ensures.ok (rw c.role_word-sender.ensures.text (simp append_assoc))
