-- How far a session has come, and what an end does then, whatever its keys are.
use Rattle.std.specs.Prelude.{ℕ, ◌+◌, ◌==◌, nat_lt, Bool, true, false, not, ◌&&◌, Option, Some, None, is_none, if◌then◌else◌}
use Rattle.noise_names.specs.declared.token.Role.{Role}
use Rattle.noise_names.specs.declared.token.Role.TheVariants.{Initiator, Responder}
use Rattle.noise_names.specs.Tokens.{same_role}
use Rattle.noise_names.specs.Plan.{Plan}
use Rattle.noise_names.specs.Overhead.{overhead_of}
use Rattle.noise_handshake.specs.HandshakeValue.{is_turn}
use Rattle.noise_session.specs.declared.stage.Stage.{Stage}
use Rattle.noise_session.specs.declared.stage.Stage.TheVariants as stage
use Rattle.noise_session.specs.declared.faults.SendFault.{SendFault}
use Rattle.noise_session.specs.declared.faults.SendFault.TheVariants as fault
use Rattle.noise_session.specs.Steps.{StepValue}
use Rattle.noise_session.specs.Steps.StepValue.{Ended, YourTurn, Silent}
use Rattle.noise_session.specs.Transport.{last_nonce}

pub data Progress : Type 0 where
  Handshaking : Plan → Role → ℕ → Progress  -- so many handshake messages have passed, and more are to come
  Open : Role → Bool → ℕ → ℕ → Progress  -- one-way or not; so many transport messages were sent, and so many received
  HasEnded : Role → Progress  -- the session has ended

abbrev pub role_of : Progress → Role
role_of (Handshaking pattern role passed) = role
role_of (Open role one_way sent received) = role
role_of (HasEnded role) = role

-- whether transport messages may pass
abbrev pub is_open : Progress → Bool
is_open (Open role one_way sent received) = true
is_open _ = false

-- where the session stands
abbrev pub stage_of : Progress → Stage
stage_of (Handshaking pattern role passed) = stage.Handshake passed (is_turn role passed)
stage_of (Open role one_way sent received) = stage.Transport sent received
stage_of (HasEnded role) = stage.Ended

-- the step of an end that takes no bytes now, whatever they are; none where it listens
abbrev pub idle_step : Progress → Option StepValue
idle_step (Handshaking pattern role passed) = if is_turn role passed then Some YourTurn else None
idle_step (Open role one_way sent received) = if one_way && same_role role Initiator then Some Silent else None
idle_step (HasEnded role) = Some Ended

-- the length of the message that would be written now
abbrev pub message_length : Progress → ℕ → ℕ
message_length (Handshaking pattern role passed) payload = overhead_of pattern (passed + 1) + payload
message_length _ payload = payload + 16

-- why an end writes no payload of this length now, whatever its keys agree on: the first of these
abbrev pub refusal : Progress → ℕ → Option SendFault
refusal (Handshaking pattern role passed) payload =
    if not (is_turn role passed) then Some fault.NotYourTurn
    else if nat_lt 65535 (overhead_of pattern (passed + 1) + payload) then Some fault.TooLong
    else None
refusal (Open role one_way sent received) payload =
    if one_way && same_role role Responder then Some fault.OneWay
    else if nat_lt 65535 (payload + 16) then Some fault.TooLong
    else if sent == last_nonce then Some fault.Exhausted
    else None
refusal (HasEnded role) payload = Some fault.Ended

-- the length of the frame that would be written now, unless there is such a fault
abbrev pub frame_len_of : Progress → ℕ → Option ℕ
frame_len_of p payload = if is_none (refusal p payload) then Some (2 + message_length p payload) else None
