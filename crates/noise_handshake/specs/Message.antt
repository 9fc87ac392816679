-- One handshake message (Noise 5.3, 9.2): what its tokens and payload travel as, and the state after them. A message
-- carries one text for each of its tokens: a public key for e and s, the DH result for a DH token, the psk for psk.
use Rattle.std.specs.Prelude.{ℕ, List, [], ◌∷◌, ◌++◌, Bool, if◌then◌else◌}
use Rattle.noise_names.specs.declared.token.Token.{Token}
use Rattle.noise_names.specs.declared.token.Token.TheVariants.{E, S, Psk}
use Rattle.noise_state.specs.declared.symmetric.SymmetricState.{SymmetricState}
use Rattle.noise_state.specs.Symmetric.{ciphertext}
use Rattle.noise_state.specs.Symmetric.{mix_hash, mix_key, mix_key_and_hash, after_ciphertext}

-- a public key in the clear; in a psk pattern an ephemeral one is a key input too (Noise 9.2)
abbrev pub with_ephemeral : Bool → SymmetricState → List ℕ → SymmetricState
with_ephemeral has_psks r key =
    if has_psks then mix_key (mix_hash r key) key else mix_hash r key

-- what a token with its text travels as
abbrev pub token_bytes : SymmetricState → Token → List ℕ → List ℕ
token_bytes r E x = x
token_bytes r S x = ciphertext r x
token_bytes r _ x = []

-- the state after it
abbrev pub after_token : Bool → SymmetricState → Token → List ℕ → SymmetricState
after_token has_psks r E x = with_ephemeral has_psks r x
after_token has_psks r S x = after_ciphertext r (ciphertext r x)
after_token has_psks r Psk x = mix_key_and_hash r x
after_token has_psks r _ x = mix_key r x

-- the bytes of the tokens, joined, and the state after them
abbrev pub before_payload : Bool → SymmetricState → List Token → List (List ℕ) → List ℕ
before_payload has_psks r [] xs = []
before_payload has_psks r (t ∷ ts) [] = []
before_payload has_psks r (t ∷ ts) (x ∷ xs) =
    token_bytes r t x ++ before_payload has_psks (after_token has_psks r t x) ts xs

abbrev pub after_tokens : Bool → SymmetricState → List Token → List (List ℕ) → SymmetricState
after_tokens has_psks r [] xs = r
after_tokens has_psks r (t ∷ ts) [] = r
after_tokens has_psks r (t ∷ ts) (x ∷ xs) = after_tokens has_psks (after_token has_psks r t x) ts xs

-- the whole message, and the state after it
abbrev pub message_bytes : Bool → SymmetricState → List Token → List (List ℕ) → List ℕ → List ℕ
message_bytes has_psks r ts xs payload =
    before_payload has_psks r ts xs ++ ciphertext (after_tokens has_psks r ts xs) payload

abbrev pub after_payload : Bool → SymmetricState → List Token → List (List ℕ) → List ℕ → SymmetricState
after_payload has_psks r ts xs payload =
    after_ciphertext (after_tokens has_psks r ts xs) (ciphertext (after_tokens has_psks r ts xs) payload)
