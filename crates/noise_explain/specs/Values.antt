-- The places of a template that have a placeholder, and what is given for them.
use Rattle.std.specs.Prelude.{ℕ, ◌<◌, ◌+◌, ◌==◌, ◌&&◌, Bool, true, false, IsTrue, List, [], ◌∷◌, ◌++◌, Option, Some, None, codes, decimal, find, if◌then◌else◌, length, nat_le, replicate}
use Rattle.std.specs.List.{All}
use Rattle.noise_names.specs.declared.token.Role.{Role}
use Rattle.noise_names.specs.declared.token.Role.TheVariants.{Initiator, Responder}
use Rattle.noise_names.specs.declared.token.Token.{Token}
use Rattle.noise_names.specs.declared.token.Token.TheVariants.{Ee, Es, Se, Ss}
use Rattle.noise_names.specs.Text.{word_of}
use Rattle.noise_names.specs.Tokens.{same_role, same_token}
use Rattle.noise_keys.specs.Table.{same_own}
use Rattle.noise_keys.specs.declared.keys.Own.{Own}
use Rattle.noise_keys.specs.declared.keys.Own.TheVariants.{Ephemeral, Static}
use Rattle.noise_vectors.specs.VectorText.{own_word, role_word}
use Rattle.noise_explain.specs.declared.values.Place.{Place}
use Rattle.noise_explain.specs.declared.values.Place.TheVariants.{Prologue, Key, Dh, Psk, Payload}
use Rattle.noise_explain.specs.declared.values.Given.{Given}

-- ---- placeholders

-- a placeholder of a key is a byte, 32 times
abbrev pub placeholder : ℕ → List ℕ
placeholder byte = replicate 32 byte

-- that of a party's public key: e1 and e2 are the ephemeral keys, 51 and 52 the static ones
abbrev pub key_byte : Role → Own → ℕ
key_byte Initiator Ephemeral = 225
key_byte Initiator Static = 81
key_byte Responder Ephemeral = 226
key_byte Responder Static = 82

-- that of the result of a DH token: ee, e5, 5e and 55, where a 5 stands for the s
abbrev pub dh_byte : Token → ℕ
dh_byte Ee = 238
dh_byte Es = 229
dh_byte Se = 94
dh_byte Ss = 85
dh_byte _ = 0

-- that of the psk of an index: a0 to a8; the prologue and the payloads are empty
abbrev pub placeholder_of : Place → List ℕ
placeholder_of Prologue = []
placeholder_of (Key role own) = placeholder (key_byte role own)
placeholder_of (Dh t) = placeholder (dh_byte t)
placeholder_of (Psk index) = placeholder (160 + index)
placeholder_of (Payload number) = []

-- ---- what is given

-- the name of a place
abbrev pub place_name : Place → List ℕ
place_name Prologue = codes "prologue"
place_name (Key role own) = role_word role ++ 32 ∷ own_word own
place_name (Dh t) = codes "dh " ++ word_of t
place_name (Psk index) = codes "psk " ++ decimal index
place_name (Payload number) = codes "payload " ++ decimal number

abbrev pub same_place : Place → Place → Bool
same_place Prologue Prologue = true
same_place (Key role own) (Key party other) = same_role role party && same_own own other
same_place (Dh t) (Dh u) = same_token t u
same_place (Psk m) (Psk n) = m == n
same_place (Payload m) (Payload n) = m == n
same_place _ _ = false

-- whether a key, a DH result or a psk stands there
abbrev pub takes_key : Place → Bool
takes_key Prologue = false
takes_key (Payload number) = false
takes_key _ = true

-- a key, a DH result or a psk has 32 bytes, and a prologue or a payload at most 65535
abbrev pub fits : Place → List ℕ → Bool
fits place value = if takes_key place then length value == 32 else nat_le (length value) 65535

abbrev pub IsValueOf : Place → List ℕ → Type 0
IsValueOf place value = IsTrue (fits place value) × All (λ b. b < 256) value

abbrev pub IsRight : Given → Type 0
IsRight given = IsValueOf given.place given.value.items

abbrev pub AreRight : List Given → Type 0
AreRight given = All IsRight given

-- what is given for a place first, if anything is
abbrev pub given_for : Place → List Given → Option Given
given_for place given = find (λ g. same_place g.place place) given

abbrev pub value_or : List ℕ → Option Given → List ℕ
value_or other None = other
value_or other (Some given) = given.value.items

-- what stands at a place: what is given for it, or else its placeholder
abbrev pub value_in : List Given → Place → List ℕ
value_in given place = value_or (placeholder_of place) (given_for place given)
