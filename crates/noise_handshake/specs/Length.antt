-- How many bytes a message's tokens and tags take (Noise, 5.2, 5.3, 9.2).
use Rattle.std.specs.Prelude.{◌≡◌, ℕ, ◌+◌, Bool, true, ◌||◌, List, [], ◌∷◌, length, if◌then◌else◌}
use Rattle.noise_names.specs.declared.token.Token.{Token}
use Rattle.noise_names.specs.declared.token.Token.TheVariants.{E, S}

-- whether there is a key after a token, where there is one before it or not: a DH and a psk give one, and in a psk
-- pattern an e does
abbrev pub keyed_after : Bool → Bool → Token → Bool
keyed_after has_psks keyed E = has_psks || keyed
keyed_after has_psks keyed S = keyed
keyed_after has_psks keyed _ = true

abbrev pub keyed_after_tokens : Bool → Bool → List Token → Bool
keyed_after_tokens has_psks keyed [] = keyed
keyed_after_tokens has_psks keyed (t ∷ ts) = keyed_after_tokens has_psks (keyed_after has_psks keyed t) ts

-- a tag where there is a key
abbrev pub tag_width : Bool → ℕ
tag_width keyed = if keyed then 16 else 0

-- how many bytes a token travels as
abbrev pub token_width : Bool → Token → ℕ
token_width keyed E = 32
token_width keyed S = 32 + tag_width keyed
token_width keyed _ = 0

abbrev pub tokens_width : Bool → Bool → List Token → ℕ
tokens_width has_psks keyed [] = 0
tokens_width has_psks keyed (t ∷ ts) = token_width keyed t + tokens_width has_psks (keyed_after has_psks keyed t) ts

-- how much longer a message of these tokens is than its payload
abbrev pub added_width : Bool → Bool → List Token → ℕ
added_width has_psks keyed ts = tokens_width has_psks keyed ts + tag_width (keyed_after_tokens has_psks keyed ts)

-- what a token carries, as far as its length goes: a public key has 32 bytes
abbrev pub Carries : Token → List ℕ → Type 0
Carries E x = length x ≡ 32
Carries S x = length x ≡ 32
Carries _ x = Unit {0}

-- one text for each token
abbrev pub Carry : List Token → List (List ℕ) → Type 0
Carry [] [] = Unit {0}
Carry [] (x ∷ xs) = ⊥
Carry (t ∷ ts) [] = ⊥
Carry (t ∷ ts) (x ∷ xs) = Carries t x × Carry ts xs
