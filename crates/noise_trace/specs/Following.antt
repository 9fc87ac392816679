-- Which party a key schedule matches that follows a handshake.
use Rattle.std.specs.Prelude.{◌≡◌, ◌==◌, Bool, false, Some, length}
use Rattle.noise_keys.specs.Keys.{KeyPairs}
use Rattle.noise_handshake.specs.HandshakeValue.{HandshakeValue}
use Rattle.noise_handshake.specs.Matching.{Matches}
use Rattle.noise_handshake.specs.Party.{Party}
use Rattle.noise_trace.specs.declared.schedule.Following.{Following}

-- all handshake messages have passed
abbrev pub is_complete : Party → Bool
is_complete v = v.passed == length v.pattern.messages

-- the party, as if it hadn't ended
abbrev pub going : Party → Party
going v = record v { ended = false }

-- Its handshake matches the party, by the meaning of its keys; whether the party has ended it doesn't say.
module _ {K : Type 0} (pairs : K → KeyPairs) where
  pub record Follows (f : Following K) (v : Party) : Type 0 where
    pub handshake : HandshakeValue K
    pub there : f.handshake ≡ Some handshake
    pub matches : Matches pairs handshake (going v)
