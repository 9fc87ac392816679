-- What an end makes of bytes, and a handshake of a message, and whether that gives a certain payload.
use Rattle.std.specs.Prelude.{◌≡◌, ◌≤◌, ◌↔◌, ◌⊎◌, ℕ, List, ◌++◌, length, slice_range, Bool, true, false, Option, None, Result, Ok, MatchResult}
use Rattle.noise_keys.specs.declared.keys.Own.{Own}
use Rattle.noise_handshake.specs.declared.faults.ReadFault.{ReadFault}
use Rattle.noise_handshake.specs.Calls.{HasNotRead, HasRead, IsPayloadIn}
use Rattle.noise_handshake.specs.HandshakeValue.{HandshakeValue}
use Rattle.noise_handshake.specs.Matching.{party_of}
use Rattle.noise_session.specs.Ends.{EndState, EndValue, EndMatches, progress_of}
use Rattle.noise_session.specs.Exactly.{Encodes}
use Rattle.noise_session.specs.Frames.{frame}
use Rattle.noise_session.specs.Progress.{idle_step}
use Rattle.noise_session.specs.Steps.{StepValue}
use Rattle.noise_session.specs.Steps.StepValue.{Payload}
use Rattle.noise_session.specs.Taking.{Takes}
use Rattle.noise_keys.specs.Keys.{KeyPairs}

-- What reading leaves of a message. It is as it was; or a payload stands in its place there, the bytes around it are
-- unchanged, and the result is whether it is this payload.
abbrev pub LeavesMessage : List ℕ → List ℕ → List ℕ → Bool → Type 0
LeavesMessage old new payload returned =
    ((new ≡ old) × (returned ≡ false))
    ⊎ ((place : ℕ × ℕ) × IsPayloadIn old new place
    × (returned ≡ true ↔ slice_range new place.0 place.1 ≡ payload))

module _ {K : Type 0} (pairs : K → KeyPairs) where
  -- The end takes so many of the bytes, once, and matches the state after them; the result is whether the step is
  -- this payload.
  pub record IsReceivedAs (v : EndState) (bytes payload : List ℕ) (end : EndValue K) (returned : Bool) : Type 0 where
    pub taken : ℕ
    pub step : StepValue
    pub next : EndState
    pub takes : Takes v bytes taken step next
    pub matches : EndMatches pairs end next
    pub is : returned ≡ true ↔ step ≡ Payload payload

  -- Where the end listens, and the bytes end the frame of a message of at most 65535 bytes, the result is whether the
  -- message is one of this payload there.
  abbrev pub ComesExactly : EndValue K → List ℕ → List ℕ → Bool → Type 0
  ComesExactly end bytes payload returned = (v : EndState) (message : List ℕ) → EndMatches pairs end v
      → idle_step (progress_of v) ≡ None → v.partial ++ bytes ≡ frame message → length message ≤ 65535
      → (returned ≡ true ↔ Encodes v message payload)

  -- The handshake reads the message or doesn't, and this is left; the result is whether it gives this payload.
  pub record IsReadAs (h : HandshakeValue K) (message payload : List ℕ) (next : HandshakeValue K)
      (returned : Bool) : Type 0 where
    pub read : Result (List ℕ) ReadFault
    pub reads : MatchResult read (λ given. HasRead (party_of pairs h) h message given next)
        (λ fault. HasNotRead pairs h message fault next)
    pub is : returned ≡ true ↔ read ≡ Ok payload
