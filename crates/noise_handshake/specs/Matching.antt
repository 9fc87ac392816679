-- Which party a handshake matches, the parties after its messages, and why it doesn't read or write.
use Rattle.std.specs.Prelude.{◌≡◌, ℕ, ◌+◌, ◌<◌, ◌≤◌, List, length, drop, count_by, true, false, is_some}
use Rattle.noise_names.specs.Tokens.{is_psk}
use Rattle.noise_names.specs.Plan.{Plan, has_psk}
use Rattle.noise_names.specs.Overhead.{has_key, overhead_of}
use Rattle.noise_state.specs.declared.symmetric.SymmetricState.{SymmetricState}
use Rattle.noise_handshake.specs.declared.faults.ReadFault.{ReadFault}
use Rattle.noise_handshake.specs.declared.faults.ReadFault.TheVariants as read
use Rattle.noise_handshake.specs.declared.faults.WriteFault.{WriteFault}
use Rattle.noise_handshake.specs.declared.faults.WriteFault.TheVariants as write
use Rattle.noise_handshake.specs.Message.{after_payload}
use Rattle.noise_handshake.specs.Passed.{passed_places}
use Rattle.noise_handshake.specs.Party.{Party, Listens, Refuses, Speaks, remote_after, tokens_now}
use Rattle.noise_handshake.specs.Setup.{psks_of}
use Rattle.noise_handshake.specs.Writing.{LacksDhResult}
use Rattle.noise_handshake.specs.HandshakeValue.{HandshakeValue}
use Rattle.noise_keys.specs.Keys.{KeyPairs}

-- the party after a message that was accepted
abbrev pub after_message : Party → List (List ℕ) → List ℕ → Party
after_message v xs payload = record v {
  psks = drop (count_by is_psk (tokens_now v)) v.psks;
  remote = remote_after v.remote (tokens_now v) xs;
  passed = v.passed + 1;
  state = after_payload (has_psk v.pattern) v.state (tokens_now v) xs payload;
}

-- the party after a message of its own
abbrev pub after_own : Party → List (List ℕ) → List ℕ → Party
after_own v xs payload = record v {
  psks = drop (count_by is_psk (tokens_now v)) v.psks;
  passed = v.passed + 1;
  state = after_payload (has_psk v.pattern) v.state (tokens_now v) xs payload;
}

-- the party once it has ended
abbrev pub ended_party : Party → Party
ended_party v = record v { ended = true }

-- After a pattern's first messages, so many, this state has a key exactly where the pattern says so.
abbrev pub IsKeyedAt : Plan → ℕ → SymmetricState → Type 0
IsKeyedAt p passed r = is_some r.cipher.key ≡ has_key p (passed_places p passed)

-- The same of the party's state.
abbrev pub IsKeyed : Party → Type 0
IsKeyed v = IsKeyedAt v.pattern v.passed v.state

-- a psk has been handed in for each psk token that is still to come
abbrev pub IsSupplied : {K : Type 0} → HandshakeValue K → Type 0
IsSupplied h = length h.psks ≡ psks_of (drop h.passed h.pattern.messages)

module _ {K : Type 0} (pairs : K → KeyPairs) where
  -- the party that a handshake is, by the meaning of its keys, with the psks that were handed in
  abbrev pub party_of : HandshakeValue K → Party
  party_of h = record {
    pattern = h.pattern;
    role = h.role;
    psks = h.psks;
    own = (pairs h.keys).public;
    agree = (pairs h.keys).agree;
    remote = h.remote;
    passed = h.passed;
    state = h.state;
    ended = h.ended;
  }

  abbrev pub IsParty : HandshakeValue K → Party → Type 0
  IsParty h v = party_of h ≡ v

  -- The handshake is this party, and has all psks.
  pub record Matches (h : HandshakeValue K) (v : Party) : Type 0 where
    pub is : IsParty h v
    pub supplied : IsSupplied h

-- Why a party doesn't accept a message.
abbrev pub DoesNotRead : Party → List ℕ → ReadFault → Type 0
DoesNotRead v message read.Ended = v.ended ≡ true
DoesNotRead v message read.Done = (v.ended ≡ false) × (v.passed ≡ length v.pattern.messages)
DoesNotRead v message read.NotYourTurn = Speaks v
DoesNotRead v message (read.Refused token cause) = Refuses v message token cause

-- Why a party doesn't write a payload of this length.
abbrev pub DoesNotWrite : Party → ℕ → WriteFault → Type 0
DoesNotWrite v payload write.Ended = v.ended ≡ true
DoesNotWrite v payload write.Done = (v.ended ≡ false) × (v.passed ≡ length v.pattern.messages)
DoesNotWrite v payload write.NotYourTurn = Listens v
DoesNotWrite v payload write.TooLong = Speaks v × (65535 < overhead_of v.pattern (v.passed + 1) + payload)
DoesNotWrite v payload (write.Agreement token) = (overhead_of v.pattern (v.passed + 1) + payload ≤ 65535)
    × LacksDhResult v token
