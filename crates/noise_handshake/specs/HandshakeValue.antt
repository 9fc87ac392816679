-- What a handshake holds, and why it doesn't read or write now.
use Rattle.std.specs.Prelude.{ℕ, ◌+◌, ◌≤◌, ◌==◌, nat_lt, List, length, drop, Bool, true, not, Option, count_by, Some, None, if◌then◌else◌}
use Rattle.noise_names.specs.declared.token.Role.{Role}
use Rattle.noise_names.specs.declared.token.Role.TheVariants.{Initiator}
use Rattle.noise_names.specs.Tokens.{is_psk, same_role, turn_from}
use Rattle.noise_names.specs.declared.token.Token.{Token}
use Rattle.noise_names.specs.Plan.{Plan, has_psk}
use Rattle.noise_names.specs.Overhead.{overhead_of}
use Rattle.noise_state.specs.declared.symmetric.SymmetricState.{SymmetricState}
use Rattle.noise_handshake.specs.Message.{after_payload}
use Rattle.noise_handshake.specs.Party.{remote_after, tokens_at}
use Rattle.noise_handshake.specs.declared.remote.Remote.{Remote}
use Rattle.noise_handshake.specs.declared.faults.ReadFault.{ReadFault}
use Rattle.noise_handshake.specs.declared.faults.ReadFault.TheVariants as read
use Rattle.noise_handshake.specs.declared.faults.Unread.{Unread}
use Rattle.noise_handshake.specs.declared.faults.Unread.TheVariants as unread
use Rattle.noise_handshake.specs.declared.faults.WriteFault.{WriteFault}
use Rattle.noise_handshake.specs.declared.faults.WriteFault.TheVariants as write

-- a handshake as contracts see it
pub record HandshakeValue (K : Type 0) : Type 0 where
  pub pattern : Plan
  pub role : Role
  pub keys : K
  pub remote : Remote  -- as far as the pre-message and the messages that passed show it
  pub psks : List (List ℕ)  -- of the psk tokens that are still to come, as far as they were handed in
  pub passed : ℕ  -- messages
  pub ended : Bool
  pub state : SymmetricState

-- the tokens of the next message
abbrev pub tokens_due : {K : Type 0} → HandshakeValue K → List Token
tokens_due h = tokens_at h.pattern.messages h.passed

-- a psk is there for each psk token of the next message
abbrev pub HasPsks : {K : Type 0} → HandshakeValue K → Type 0
HasPsks h = count_by is_psk (tokens_due h) ≤ length h.psks

-- whether the party writes the message after so many
abbrev pub is_turn : Role → ℕ → Bool
is_turn role passed = same_role (turn_from Initiator passed) role

-- why no message is read now, whatever it is; none if one is due
abbrev pub read_fault : {K : Type 0} → HandshakeValue K → Option ReadFault
read_fault h =
    if h.ended then Some read.Ended
    else if h.passed == length h.pattern.messages then Some read.Done
    else if is_turn h.role h.passed then Some read.NotYourTurn
    else None

-- the length of the message that would be written now
abbrev pub length_now : {K : Type 0} → HandshakeValue K → ℕ → ℕ
length_now h payload = overhead_of h.pattern (h.passed + 1) + payload

-- why no message with a payload of this length is written now, whatever the keys agree on; none if one is due
abbrev pub write_fault : {K : Type 0} → HandshakeValue K → ℕ → Option WriteFault
write_fault h payload =
    if h.ended then Some write.Ended
    else if h.passed == length h.pattern.messages then Some write.Done
    else if not (is_turn h.role h.passed) then Some write.NotYourTurn
    else if nat_lt 65535 (length_now h payload) then Some write.TooLong
    else None

abbrev pub length_unless : Option WriteFault → ℕ → Option ℕ
length_unless None n = Some n
length_unless (Some fault) n = None

-- that length, unless there is such a fault
abbrev pub message_len_of : {K : Type 0} → HandshakeValue K → ℕ → Option ℕ
message_len_of h payload = length_unless (write_fault h payload) (length_now h payload)

-- the handshake that has ended, and is otherwise as it was
abbrev pub ended_as : {K : Type 0} → HandshakeValue K → HandshakeValue K
ended_as h = record h { ended = true }

-- the handshake after its next message, which leaves this state and these keys of the other party: its psk tokens have
-- taken their psks from the front
abbrev pub gone_on : {K : Type 0} → HandshakeValue K → SymmetricState → Remote → HandshakeValue K
gone_on h state remote = record h {
  remote = remote;
  psks = drop (count_by is_psk (tokens_due h)) h.psks;
  passed = h.passed + 1;
  state = state;
}

-- after a message of the other party, whose tokens carry these texts, with this payload
abbrev pub after_read : {K : Type 0} → HandshakeValue K → List (List ℕ) → List ℕ → HandshakeValue K
after_read h xs payload =
    gone_on h (after_payload (has_psk h.pattern) h.state (tokens_due h) xs payload)
    (remote_after h.remote (tokens_due h) xs)

-- after such a message of its own
abbrev pub after_written : {K : Type 0} → HandshakeValue K → List (List ℕ) → List ℕ → HandshakeValue K
after_written h xs payload = gone_on h (after_payload (has_psk h.pattern) h.state (tokens_due h) xs payload) h.remote

-- what a fault of reading leaves
abbrev pub after_read_fault : {K : Type 0} → HandshakeValue K → ReadFault → HandshakeValue K
after_read_fault h (read.Refused token cause) = ended_as h
after_read_fault h _ = h

-- what a message leaves that isn't read, where what is lacking is asked for
abbrev pub after_unread : {K : Type 0} → HandshakeValue K → Unread → HandshakeValue K
after_unread h (unread.Wants want) = h
after_unread h (unread.Declined fault) = after_read_fault h fault

-- what a fault of writing leaves
abbrev pub after_write_fault : {K : Type 0} → HandshakeValue K → WriteFault → HandshakeValue K
after_write_fault h (write.Agreement token) = ended_as h
after_write_fault h _ = h

-- a DH result is lacking
abbrev pub IsAgreement : WriteFault → Type 0
IsAgreement (write.Agreement token) = Unit {0}
IsAgreement _ = ⊥
