-- What holds of every handshake.
use Rattle.std.specs.Prelude.{◌≡◌, ◌≤◌, ◌*◌, length, drop, true, is_some}
use Rattle.noise_names.specs.declared.token.Token.TheVariants.{E, S}
use Rattle.noise_names.specs.Plan.{places_of}
use Rattle.noise_names.specs.Validity.{is_among}
use Rattle.noise_names.specs.Overhead.{has_key}
use Rattle.noise_state.specs.Standing.{keyed, nonce_now}
use Rattle.noise_keys.specs.declared.keys.Own.TheVariants.{Ephemeral, Static}
use Rattle.noise_handshake.specs.HandshakeValue.{HandshakeValue}
use Rattle.noise_handshake.specs.Nonces.{nonce_due}
use Rattle.noise_handshake.specs.Setup.{psks_of}
use Rattle.noise_handshake.specs.Passed.{passed_places}
use Rattle.noise_keys.specs.Keys.{KeyPairs}

-- No more messages have passed than there are, no more psks are left than psk tokens are still to come, the party has
-- each key of its own that the pattern has a token for, there is a key exactly where the pattern says so, and its nonce
-- counts the texts that were encrypted under it, at most one for each token and one for each payload.
pub record IsSound {K : Type 0} (pairs : K → KeyPairs) (h : HandshakeValue K) : Type 0 where
  pub within : h.passed ≤ length h.pattern.messages
  pub few : length h.pattern.messages ≤ 8
  pub psks : length h.psks ≤ psks_of (drop h.passed h.pattern.messages)
  pub has_e : is_among h.role E (places_of h.pattern) ≡ true → is_some ((pairs h.keys).public Ephemeral) ≡ true
  pub has_s : is_among h.role S (places_of h.pattern) ≡ true → is_some ((pairs h.keys).public Static) ≡ true
  pub nonce : nonce_now h.state ≡ nonce_due h.pattern h.passed
  pub bound : nonce_now h.state ≤ 11 * h.passed
  pub keyed : keyed h.state ≡ has_key h.pattern (passed_places h.pattern h.passed)
