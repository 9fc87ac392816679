-- What is printed of the datagrams of two parties.
use Rattle.std.specs.Prelude.{ℕ, List, [], ◌∷◌, codes, decimal}
use Rattle.noise_names.specs.declared.token.Role.{Role}
use Rattle.noise_names.specs.declared.token.Role.TheVariants.{Initiator, Responder}
use Rattle.noise_session.specs.declared.datagram_fault.DatagramFault.{DatagramFault}
use Rattle.noise_session.specs.declared.datagram_fault.DatagramFault.TheVariants as fault
use Rattle.noise_session.specs.Datagrams.{DatagramState}
use Rattle.noise_duel.specs.DatagramNotes.{DatagramNote, Sealed, SealFault, Payload, Rejected, Missing}
use Rattle.noise_duel.specs.DatagramSides.{DatagramSides}
use Rattle.noise_vectors.specs.HexWord.{hex_of}
use Rattle.noise_vectors.specs.VectorText.{role_word}
use Rattle.noise_lines.specs.Lines.{line_of}
use Rattle.noise_run.specs.Printed.{send_fault_words}

-- why a datagram isn't opened
abbrev pub rejection_word : DatagramFault → List ℕ
rejection_word fault.OneWay = codes "one-way"
rejection_word fault.Short = codes "short"
rejection_word fault.TooLong = codes "too-long"
rejection_word fault.Reserved = codes "reserved"
rejection_word fault.Old = codes "old"
rejection_word fault.Repeated = codes "repeated"
rejection_word fault.Tag = codes "tag"

-- the words of a note of this role
abbrev pub datagram_words : Role → DatagramNote → List (List ℕ)
datagram_words role (Sealed n datagram) = codes "sealed" ∷ role_word role ∷ decimal n ∷ hex_of datagram ∷ []
datagram_words role (SealFault why) = codes "unsealed" ∷ role_word role ∷ send_fault_words why
datagram_words role (Payload bytes) = codes "payload" ∷ role_word role ∷ hex_of bytes ∷ []
datagram_words role (Rejected why) = codes "rejected" ∷ role_word role ∷ rejection_word why ∷ []
datagram_words role (Missing n) = codes "missing" ∷ role_word role ∷ decimal n ∷ []

abbrev pub datagram_line : Role × DatagramNote → List ℕ
datagram_line (role, note) = line_of (datagram_words role note)

-- the sending nonce
abbrev pub datagram_state_line : Role → DatagramState → List ℕ
datagram_state_line role v = line_of (codes "state" ∷ role_word role ∷ codes "datagrams" ∷ decimal v.sent ∷ [])

-- where both parties stand
abbrev pub datagram_state_lines : DatagramSides → List (List ℕ)
datagram_state_lines d =
    datagram_state_line Initiator d.initiator.state ∷ datagram_state_line Responder d.responder.state ∷ []
