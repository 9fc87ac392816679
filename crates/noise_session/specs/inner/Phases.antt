-- What the private functions say of what an end goes through.
use Rattle.std.specs.Prelude.{◌≡◌, length, Bool, true, false, not, ◌&&◌, ◌==◌}
use Rattle.noise_handshake.specs.Matching.{Matches}
use Rattle.noise_session.specs.declared.phase.Phase.{Phase}
use Rattle.noise_session.specs.declared.phase.Phase.TheVariants as phase
use Rattle.noise_session.specs.Progress.{role_of}
use Rattle.noise_session.specs.Ends.{EndState, progress_in, hash_in}
use Rattle.noise_keys.specs.Keys.{KeyPairs}

-- whether messages are to come, where it is a handshake, and it hasn't ended
abbrev pub is_due : {K : Type 0} → Phase K → Bool
is_due (phase.Handshaking h interval) = not h.ended && not (h.passed == length h.pattern.messages)
is_due _ = true

-- what is left of it where the session ends
abbrev pub ended_in : {K : Type 0} → Phase K → Phase K
ended_in p = phase.Ended (role_of (progress_in p)) (hash_in p)

-- a handshake that hasn't ended
abbrev pub IsHandshake : {K : Type 0} → Phase K → Type 0
IsHandshake (phase.Handshaking h interval) = h.ended ≡ false
IsHandshake _ = ⊥

-- The handshake matches the state, whether messages are to come or not.
module _ {K : Type 0} (pairs : K → KeyPairs) where
  abbrev pub GoesOnAs : Phase K → EndState → Type 0
  GoesOnAs (phase.Handshaking h interval) v = Matches pairs h v.party × (interval ≡ v.interval)
      × (v.sent ≡ 0) × (v.received ≡ 0)
  GoesOnAs _ v = ⊥
