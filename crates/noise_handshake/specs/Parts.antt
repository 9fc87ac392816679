-- The parts of a handshake, for a caller that keeps them itself between two messages.
use Rattle.std.specs.Prelude.{◌≡◌, ℕ, ◌≤◌, List, length, drop, false, is_some}
use Rattle.noise_names.specs.declared.token.Token.TheVariants.{E, S}
use Rattle.noise_names.specs.Tokens.{other}
use Rattle.noise_names.specs.Validity.{is_among}
use Rattle.noise_names.specs.Overhead.{has_key}
use Rattle.noise_state.specs.Standing.{keyed, nonce_now, state_of}
use Rattle.noise_keys.specs.declared.keys.Own.TheVariants.{Ephemeral, Static}
use Rattle.noise_handshake.specs.declared.parts.Parts.{Parts}
use Rattle.noise_handshake.specs.declared.parts.Progress.{Progress}
use Rattle.noise_handshake.specs.HandshakeValue.{HandshakeValue}
use Rattle.noise_handshake.specs.Nonces.{nonce_due}
use Rattle.noise_handshake.specs.Setup.{lacks_own, psks_of}
use Rattle.noise_handshake.specs.Passed.{passed_places}
use Rattle.noise_keys.specs.Keys.{KeyPairs}

-- what these parts and psks hold
abbrev pub held_of : {K : Type 0} → Parts K → List (List ℕ) → HandshakeValue K
held_of p psks = record {
  pattern = p.pattern;
  role = p.role;
  keys = p.keys;
  remote = p.progress.remote;
  psks = psks;
  passed = p.progress.passed;
  ended = p.progress.ended;
  state = state_of p.progress.state;
}

-- so far a handshake has come
pub record HasProgress {K : Type 0} (h : HandshakeValue K) (g : Progress) : Type 0 where
  pub remote : g.remote ≡ h.remote
  pub passed : g.passed ≡ h.passed
  pub ended : g.ended ≡ h.ended
  pub state : state_of g.state ≡ h.state

-- What holds of every handshake: no more messages have passed than there are, a psk is left for each psk token that
-- is still to come (9.2), the party has each key of its own that the pattern has a token for, exactly those keys of the
-- other party's are known whose tokens stand in its pre-message or in a message that has passed (5.3), there is a
-- cipher key exactly where the pattern says so (5.2), and its nonce counts the texts that were encrypted under it
-- (5.1), 0 without a key.
pub record IsWholeValue {K : Type 0} (pairs : K → KeyPairs) (h : HandshakeValue K) : Type 0 where
  pub within : h.passed ≤ length h.pattern.messages
  pub psks : length h.psks ≡ psks_of (drop h.passed h.pattern.messages)
  pub own_e : lacks_own h.pattern h.role E ((pairs h.keys).public Ephemeral) ≡ false
  pub own_s : lacks_own h.pattern h.role S ((pairs h.keys).public Static) ≡ false
  pub remote_e : is_some h.remote.e ≡ is_among (other h.role) E (passed_places h.pattern h.passed)
  pub remote_s : is_some h.remote.s ≡ is_among (other h.role) S (passed_places h.pattern h.passed)
  pub key : keyed h.state ≡ has_key h.pattern (passed_places h.pattern h.passed)
  pub nonce : nonce_now h.state ≡ nonce_due h.pattern h.passed
