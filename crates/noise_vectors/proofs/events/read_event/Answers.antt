use Rattle.std.proofs.Common.{◌∙◌}
use Rattle.noise_vectors.proofs.EventLemmas.{event_words-parts, kind_of, operands_of, role_of}
use Rattle.noise_vectors.proofs.events.read_event.Goals as goal

pub returns-in_default-clause-every : goal.returns-in_default-clause-every
returns-in_default-clause-every c = λ event h allowed e.
    absurd (c.in_default.ensures.every (kind_of event) (role_of event) (operands_of event) (e ∙ event_words-parts event) tt)
