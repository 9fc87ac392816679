use Rattle.std.proofs.Common.{◌∙◌, ap, ap₂}
use Rattle.noise_compare.specs.Steps.{last_state}
use Rattle.noise_compare.specs.Values.{word_bytes}
use Rattle.noise_compare.proofs.SituationLemmas.{same-step}
use Rattle.noise_compare.proofs.parts.Parts.of.Goals as goal

pub returns-clause-text : goal.returns-clause-text
returns-clause-text c = same-step _ _ _ _ _
    (c.last_state-before.ensures ∙ ap₂ last_state (c.deref.ensures.value ∙ c.in_ok-earlier.ensures) c.state_in-after.ensures)
    (c.deref-3.ensures.value ∙ c.in_ok-bytes.ensures ∙ ap word_bytes c.word.ensures) c.in_ok-text.ensures.text
