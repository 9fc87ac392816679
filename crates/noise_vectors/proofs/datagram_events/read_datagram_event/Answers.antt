use Rattle.std.proofs.Common.{◌∙◌}
use Rattle.noise_vectors.proofs.AdditionLemmas.{datagram_event_words-parts, datagram_kind_of, datagram_operand_of, datagram_role_of}
use Rattle.noise_vectors.proofs.datagram_events.read_datagram_event.Goals as goal

pub returns-in_default-clause-every : goal.returns-in_default-clause-every
returns-in_default-clause-every c = λ event h e.
    absurd (c.in_default.ensures.every (datagram_kind_of event) (datagram_role_of event) (datagram_operand_of event) (e ∙ datagram_event_words-parts event) tt)
