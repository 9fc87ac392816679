-- What holds of every handshake, and what a caller's parts are tested for.
use Rattle.std.proofs.Common.{◌≡◌, Bool, true, false}
use Rattle.std.specs.Prelude.{not}
use Rattle.noise_handshake.proofs.Common.{and_from, and_parts, not-true, not_from_false, ◌&&◌, has_key, keyed, nonce_now, HandshakeValue, nonce_due, passed_places}
use Rattle.noise_keys.specs.Keys.{KeyPairs}

left : (a b : Bool) → (not a && not b) ≡ true → a ≡ false
left a b e = not-true a (and_parts (not a) (not b) e).0

right : (a b : Bool) → (not a && not b) ≡ true → b ≡ false
right a b e = not-true b (and_parts (not a) (not b) e).1

both : (a b : Bool) → a ≡ false → b ≡ false → (not a && not b) ≡ true
both a b e f = and_from (not a) (not b) (not_from_false a e) (not_from_false b f)

module _ {K : Type 0} (pairs : K → KeyPairs) (h : HandshakeValue K) where
  abbrev pub Keyed : Type 0
  Keyed = (keyed h.state ≡ has_key h.pattern (passed_places h.pattern h.passed)) × (nonce_now h.state ≡ nonce_due h.pattern h.passed)
