-- The key schedule beside an end.
use Rattle.std.specs.Prelude.{◌≡◌, ◌≢◌, ℕ, List, [], length, Option, Some, None, if◌then◌else◌}
use Rattle.noise_names.specs.Tokens.{other}
use Rattle.noise_handshake.specs.Matching.{after_message, after_own}
use Rattle.noise_trace.specs.Following.{Follows, is_complete}
use Rattle.noise_session.specs.Ends.{EndState}
use Rattle.noise_trace.specs.declared.directions.Directions.{Directions}
use Rattle.noise_trace.specs.declared.key_use.KeyUse.{KeyUse}
use Rattle.noise_trace.specs.declared.end_trace.EndTrace.{EndTrace}
use Rattle.noise_trace.specs.Directions.{direction}
use Rattle.noise_trace.specs.KeyUses.{KeyUseValue, use_value}
use Rattle.noise_keys.specs.Keys.{KeyPairs}

-- the directions of an end: that of the messages that it writes, and that of those that it opens
abbrev pub directions_of : EndState → Directions
directions_of v = record {
  sending = direction v.party.state v.party.role v.interval v.sent;
  receiving = direction v.party.state (other v.party.role) v.interval v.received;
}

-- those of a session whose handshake messages have all passed
abbrev pub directions_in : EndState → Option Directions
directions_in v = if is_complete v.party then Some (directions_of v) else None

-- the party after a handshake message that the end writes, and after one that it accepts
abbrev pub written_view : EndState → List (List ℕ) → List ℕ → EndState
written_view v xs payload = record v { party = after_own v.party xs payload }

abbrev pub accepted_view : EndState → List (List ℕ) → List ℕ → EndState
accepted_view v xs payload = record v { party = after_message v.party xs payload; partial = [] }

-- It is that of the end of this party, by the meaning of its keys. The bytes of the next frame don't matter, nor
-- whether the session has ended.
module _ {K : Type 0} (pairs : K → KeyPairs) where
  pub record EndFollows (t : EndTrace K) (v : EndState) : Type 0 where
    pub party : Follows pairs t.following v.party
    pub interval : t.interval ≡ v.interval
    pub directions : t.directions ≡ directions_in v
    -- no transport message passes before the opening
    pub first : v.party.passed ≢ length v.party.pattern.messages → (v.sent ≡ 0) × (v.received ≡ 0)

  -- A call used these keys, and the key schedule is then that of this party.
  abbrev pub IsShown : EndTrace K → KeyUse → KeyUseValue → EndState → Type 0
  IsShown t key_use used next = (use_value key_use ≡ used) × EndFollows t next
