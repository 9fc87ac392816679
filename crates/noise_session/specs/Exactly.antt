-- Which messages an end accepts, and which it refuses: each exactly one way.
use Rattle.std.specs.Prelude.{◌≡◌, ◌≢◌, ◌↔◌, ℕ, List, MatchBool}
use Rattle.noise_names.specs.Tokens.{other}
use Rattle.noise_handshake.specs.declared.faults.Cause.{Cause}
use Rattle.noise_handshake.specs.Party.{Accepts, Refuses}
use Rattle.noise_session.specs.Transport.{transport_message, last_nonce}
use Rattle.noise_session.specs.Steps.{StepValue}
use Rattle.noise_session.specs.Steps.StepValue.{Payload, Refused}
use Rattle.noise_session.specs.Progress.{is_open}
use Rattle.noise_session.specs.Ends.{EndState, progress_of}
use Rattle.noise_session.specs.Taking.{Judges}

-- The message is one of this payload, at the place where the end stands: once open the transport message at the
-- receiving nonce, and before that the message of the message that is due, with some public keys that the sender may
-- have (Noise 5.3).
abbrev pub Encodes : EndState → List ℕ → List ℕ → Type 0
Encodes v message payload =
    MatchBool (is_open (progress_of v))
    ((v.received ≢ last_nonce)
    × (message ≡ transport_message v.party.state (other v.party.role) v.interval v.received payload))
    ((xs : List (List ℕ)) × Accepts v.party message xs payload)

-- What is reported of a whole message that comes to an end that listens.
pub record IsReportedExactly (v : EndState) (message : List ℕ) (reported : StepValue) : Type 0 where
  -- a payload exactly where the message is one of it
  pub payload : (payload : List ℕ) → reported ≡ Payload payload ↔ Encodes v message payload
  -- a refusal, at a token for a cause, exactly where some sender's tokens lead there and none's lead further
  pub refused : (token : ℕ) (cause : Cause) → reported ≡ Refused token cause ↔ Refuses v.party message token cause

abbrev pub AcceptedExactly : Type 0
AcceptedExactly = (v next : EndState) (message : List ℕ) (reported : StepValue) → Judges v message reported next
    → IsReportedExactly v message reported
