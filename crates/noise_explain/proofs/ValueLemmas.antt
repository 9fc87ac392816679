-- What stands at a place is a value of it.
use Rattle.std.proofs.Common.{◌≡◌, ◌∙◌, refl, ap, subst, ◌<◌, ◌≤◌, ℕ, ◌+◌, List, [], ◌∷◌, cond, length, arith, option_map}
use Rattle.std.specs.Prelude.{⊤, Bool, true, false, IsTrue, IfSome, Option, Some, None, nat_le, ◌==◌}
use Rattle.std.proofs.lemmas.Bool.Decides.{nat_tests}
use Rattle.std.proofs.lemmas.Bool.{leb-true}
use Rattle.std.proofs.lemmas.List.{length-replicate}
use Rattle.std.proofs.lemmas.List.Elements.{All-head, All-nil, All-replicate, All-tail}
use Rattle.noise_names.specs.declared.token.Role.{Role}
use Rattle.noise_names.specs.declared.token.Role.TheVariants.{Initiator, Responder}
use Rattle.noise_names.specs.declared.token.Token.{Token}
use Rattle.noise_names.specs.declared.token.Token.TheVariants.{E, S, Ee, Es, Se, Ss, Psk as PskToken}
use Rattle.noise_keys.specs.declared.keys.Own.{Own}
use Rattle.noise_keys.specs.declared.keys.Own.TheVariants.{Ephemeral, Static}
use Rattle.hex.specs.Hex.{encode_lower}
use Rattle.noise_vectors.specs.HexWord.{hex_of}
use Rattle.noise_vectors.specs.VectorFile.{IsShort}
use Rattle.noise_vectors.specs.Words.{IsKey}
use Rattle.noise_explain.specs.Values.{AreRight, IsRight, IsValueOf, dh_byte, given_for, key_byte, placeholder, placeholder_of, same_place, takes_key, value_in, value_or}
use Rattle.noise_explain.specs.declared.values.Given.{Given}
use Rattle.noise_explain.specs.declared.values.Place.{Place}
use Rattle.noise_explain.specs.declared.values.Place.TheVariants.{Prologue, Key, Dh, Psk, Payload}

-- ---- placeholders

key_byte-small : (role : Role) (own : Own) → key_byte role own < 256
key_byte-small Initiator Ephemeral = omega arith
key_byte-small Initiator Static = omega arith
key_byte-small Responder Ephemeral = omega arith
key_byte-small Responder Static = omega arith

dh_byte-small : (t : Token) → dh_byte t < 256
dh_byte-small E = omega arith
dh_byte-small S = omega arith
dh_byte-small Ee = omega arith
dh_byte-small Es = omega arith
dh_byte-small Se = omega arith
dh_byte-small Ss = omega arith
dh_byte-small PskToken = omega arith

-- an index of a psk is at most 8
abbrev pub IsLow : Place → Type 0
IsLow (Psk index) = index ≤ 8
IsLow _ = ⊤

thirty-two : (byte : ℕ) → IsTrue (length (placeholder byte) == 32)
thirty-two byte = grind (arith, nat_tests, length-replicate)

placeholder-right : (place : Place) → IsLow place → IsValueOf place (placeholder_of place)
placeholder-right Prologue low = (refl, All-nil (λ b. b < 256))
placeholder-right (Key role own) low = (thirty-two (key_byte role own), All-replicate (λ b. b < 256) 32 (key_byte role own) (key_byte-small role own))
placeholder-right (Dh t) low = (thirty-two (dh_byte t), All-replicate (λ b. b < 256) 32 (dh_byte t) (dh_byte-small t))
placeholder-right (Psk index) low = (thirty-two (160 + index), All-replicate (λ b. b < 256) 32 (160 + index) (omega arith))
placeholder-right (Payload number) low = (refl, All-nil (λ b. b < 256))

-- ---- what is given

same-takes : (a b : Place) → same_place a b ≡ true → takes_key a ≡ takes_key b
same-takes Prologue Prologue e = refl
same-takes Prologue (Key _ _) e = cc
same-takes Prologue (Dh _) e = cc
same-takes Prologue (Psk _) e = cc
same-takes Prologue (Payload _) e = cc
same-takes (Key _ _) Prologue e = cc
same-takes (Key _ _) (Key _ _) e = refl
same-takes (Key _ _) (Dh _) e = refl
same-takes (Key _ _) (Psk _) e = refl
same-takes (Key _ _) (Payload _) e = cc
same-takes (Dh _) Prologue e = cc
same-takes (Dh _) (Key _ _) e = refl
same-takes (Dh _) (Dh _) e = refl
same-takes (Dh _) (Psk _) e = refl
same-takes (Dh _) (Payload _) e = cc
same-takes (Psk _) Prologue e = cc
same-takes (Psk _) (Key _ _) e = refl
same-takes (Psk _) (Dh _) e = refl
same-takes (Psk _) (Psk _) e = refl
same-takes (Psk _) (Payload _) e = cc
same-takes (Payload _) Prologue e = refl
same-takes (Payload _) (Key _ _) e = cc
same-takes (Payload _) (Dh _) e = cc
same-takes (Payload _) (Psk _) e = cc
same-takes (Payload _) (Payload _) e = refl

moved : (a b : Place) (value : List ℕ) → same_place a b ≡ true → IsValueOf a value → IsValueOf b value
moved a b value e h =
    (subst (λ (key : Bool). IsTrue (cond key (length value == 32) (nat_le (length value) 65535))) (same-takes a b e) h.0, h.1)

given-right : (given : List Given) → AreRight given → (place : Place) → IfSome (given_for place given) (λ g. IsValueOf place g.value.items)
given-right [] h place = tt
given-right (g ∷ more) h place = by (same_place g.place place) refl (given-right more (All-tail IsRight g more h) place) where
  by : (b : Bool) → same_place g.place place ≡ b → IfSome (given_for place more) (λ one. IsValueOf place one.value.items)
      → IfSome (cond b (Some g) (given_for place more)) (λ one. IsValueOf place one.value.items)
  by true e rest = moved g.place place g.value.items e (All-head IsRight g more h)
  by false e rest = rest

-- what stands at a place is a value of it
pub value-right : (given : List Given) → AreRight given → (place : Place) → IsLow place → IsValueOf place (value_in given place)
value-right given h place low = by (given_for place given) (given-right given h place) where
  by : (found : Option Given) → IfSome found (λ g. IsValueOf place g.value.items) → IsValueOf place (value_or (placeholder_of place) found)
  by None k = placeholder-right place low
  by (Some g) k = k

-- the word of a key
hex-key : (key : List ℕ) → length key ≡ 32 → hex_of key ≡ encode_lower key
hex-key [] e = absurd (omega (arith, e))
hex-key (b ∷ bs) e = refl

fits-key : (b : Bool) (value : List ℕ) → b ≡ true → IsTrue (cond b (length value == 32) (nat_le (length value) 65535)) → length value ≡ 32
fits-key true value e h = grind (arith, nat_tests)
fits-key false value e h = absurd cc

fits-short : (b : Bool) (value : List ℕ) → b ≡ false → IsTrue (cond b (length value == 32) (nat_le (length value) 65535)) → length value ≤ 65535
fits-short true value e h = absurd cc
fits-short false value e h = leb-true (length value) 65535 h

pub key-of : (place : Place) (value : List ℕ) → takes_key place ≡ true → IsValueOf place value → IsKey value
key-of place value e h = (fits-key (takes_key place) value e h.0, h.1)

pub short-of : (place : Place) (value : List ℕ) → takes_key place ≡ false → IsValueOf place value → IsShort value
short-of place value e h = (fits-short (takes_key place) value e h.0, h.1)

-- the word of what is given for a key
pub given-word : (given : List Given) (place : Place) (value : List ℕ) → AreRight given → takes_key place ≡ true
    → Some value ≡ option_map (λ g. g.value.items) (given_for place given) → hex_of value ≡ encode_lower (value_in given place)
given-word given place value right key e = by (given_for place given) (given-right given right place) e where
  by : (found : Option Given) → IfSome found (λ g. IsValueOf place g.value.items) → Some value ≡ option_map (λ g. g.value.items) found
      → hex_of value ≡ encode_lower (value_or (placeholder_of place) found)
  by None k f = cc f
  by (Some g) k f =
      let same : value ≡ g.value.items = cc in
      ap hex_of same ∙ hex-key g.value.items (key-of place g.value.items key k).0
