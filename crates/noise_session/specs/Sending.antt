-- What an end makes of a payload (Noise 5.3, 11.3 and 13).
use Rattle.std.specs.Prelude.{◌≡◌, ℕ, ◌+◌, ◌≤◌, ⊤, List, length, take, drop, Some, None, Result, Ok, Err, IsTrue, IfOk, MatchOption, if◌then◌else◌}
use Rattle.noise_handshake.specs.Writing.{Writes, LacksDhResult}
use Rattle.noise_handshake.specs.Matching.{after_own}
use Rattle.noise_session.specs.declared.faults.SendFault.{SendFault}
use Rattle.noise_session.specs.declared.faults.SendFault.TheVariants as fault
use Rattle.noise_session.specs.Frames.{frame}
use Rattle.noise_session.specs.Transport.{transport_message}
use Rattle.noise_session.specs.Progress.{Progress, is_open, refusal, frame_len_of}
use Rattle.noise_session.specs.Faults.{ends}
use Rattle.noise_session.specs.Ends.{EndValue, EndState, EndMatches, progress, progress_of, ended_session}
use Rattle.noise_keys.specs.Keys.{KeyPairs}

-- what a fault leaves: some end the session, the others change nothing
abbrev pub after_fault : EndState → SendFault → EndState
after_fault v why = if ends why then ended_session v else v

-- An end writes a payload as a frame, or refuses to.
pub data Sends : EndState → List ℕ → Result (List ℕ) SendFault → EndState → Type 0 where
  refuses : (v : EndState) (payload : List ℕ) (why : SendFault) → refusal (progress_of v) (length payload) ≡ Some why
      → Sends v payload (Err why) (after_fault v why)
  lacks_dh_result : (v : EndState) (payload : List ℕ) (token : ℕ) → refusal (progress_of v) (length payload) ≡ None
      → LacksDhResult v.party token
      → Sends v payload (Err (fault.Agreement token)) (ended_session v)
  sends_handshake : (v : EndState) (payload message : List ℕ) (xs : List (List ℕ))
      → refusal (progress_of v) (length payload) ≡ None
      → Writes v.party payload xs message
      → Sends v payload (Ok (frame message)) (record v { party = after_own v.party xs payload })
  sends_transport : (v : EndState) (payload : List ℕ) → refusal (progress_of v) (length payload) ≡ None
      → IsTrue (is_open (progress_of v))
      → Sends v payload (Ok (frame (transport_message v.party.state v.party.role v.interval v.sent payload)))
      (record v { sent = v.sent + 1 })

-- the frame that a call left in the first bytes of a buffer, or its fault
abbrev pub frame_in : List ℕ → Result ℕ SendFault → Result (List ℕ) SendFault
frame_in out (Ok n) = Ok (take n out)
frame_in out (Err why) = Err why

-- a payload is refused as it must be so far, and the buffer is unchanged then
abbrev pub IsRefused : Progress → List ℕ → List ℕ → Result ℕ SendFault → List ℕ → Type 0
IsRefused p payload out result written =
    MatchOption (refusal p (length payload)) ⊤ (λ why. (result ≡ Err why) × (written ≡ out))

module _ {K : Type 0} (pairs : K → KeyPairs) where
  -- An end makes a frame of a payload, or a fault: as every state does that the end matches, and then it matches
  -- the state after it.
  abbrev pub EndSends : EndValue K → List ℕ → Result (List ℕ) SendFault → EndValue K → Type 0
  EndSends old payload (Ok frame) new = (v : EndState) → EndMatches pairs old v
      → (next : EndState) × Sends v payload (Ok frame) next × EndMatches pairs new next
  EndSends old payload (Err why) new = (v : EndState) → EndMatches pairs old v
      → Sends v payload (Err why) (after_fault v why) × EndMatches pairs new (after_fault v why)

  -- An end writes a payload as a frame into the first bytes of a buffer `out`, which is `written` after it.
  pub record WritesInto (old : EndValue K) (payload out : List ℕ) (result : Result ℕ SendFault) (written : List ℕ)
      (new : EndValue K) : Type 0 where
    pub len : IfOk result (λ n. (frame_len_of (progress old) (length payload) ≡ Some n) × (n ≤ length written))
    pub beyond : IfOk result (λ n. drop n written ≡ drop n out)
    pub refused : IsRefused (progress old) payload out result written
    pub sends : EndSends old payload (frame_in written result) new
