-- How many texts are encrypted under one key (Noise, 5.1, 5.2 and 9.2): the nonce of the next one.
use Rattle.std.specs.Prelude.{ℕ, Bool, List, [], ◌∷◌, take, if◌then◌else◌}
use Rattle.noise_names.specs.declared.token.Token.{Token}
use Rattle.noise_names.specs.declared.token.Token.TheVariants.{E, S}
use Rattle.noise_names.specs.Plan.{Plan, has_psk}
use Rattle.noise_names.specs.Overhead.{has_key}
use Rattle.noise_state.specs.Cipher.{next_nonce}
use Rattle.noise_handshake.specs.Length.{keyed_after, keyed_after_tokens}
use Rattle.noise_handshake.specs.Passed.{passed_places}

-- the nonce after a token, with or without a key before it: a new key starts at 0, and an s that is encrypted takes one
abbrev pub nonce_after : Bool → Bool → ℕ → Token → ℕ
nonce_after has_psks keyed n E = if has_psks then 0 else n
nonce_after has_psks keyed n S = next_nonce keyed n
nonce_after has_psks keyed n _ = 0

abbrev pub nonce_after_tokens : Bool → Bool → ℕ → List Token → ℕ
nonce_after_tokens has_psks keyed n [] = n
nonce_after_tokens has_psks keyed n (t ∷ ts) =
    nonce_after_tokens has_psks (keyed_after has_psks keyed t) (nonce_after has_psks keyed n t) ts

-- after a message, whose payload takes one if there is a key
abbrev pub nonce_after_message : Bool → Bool → ℕ → List Token → ℕ
nonce_after_message has_psks keyed n ts =
    next_nonce (keyed_after_tokens has_psks keyed ts) (nonce_after_tokens has_psks keyed n ts)

abbrev pub nonce_after_messages : Bool → Bool → ℕ → List (List Token) → ℕ
nonce_after_messages has_psks keyed n [] = n
nonce_after_messages has_psks keyed n (ts ∷ ms) =
    nonce_after_messages has_psks (keyed_after_tokens has_psks keyed ts) (nonce_after_message has_psks keyed n ts) ms

-- the nonce of a handshake of this pattern in which so many messages have passed
abbrev pub nonce_due : Plan → ℕ → ℕ
nonce_due p passed = nonce_after_messages (has_psk p) (has_key p (passed_places p 0)) 0 (take passed p.messages)
