-- The texts that a history hashed, in order (MixHash, Noise 5.2), and two histories that clash: at one position
-- different texts with one digest.
use Rattle.std.specs.Prelude.{◌≡◌, ◌≢◌, ℕ, List, [], ◌∷◌, ◌++◌, Some, slice_get}
use Rattle.sha2.specs.Sha256.{sha256}
use Rattle.noise_kdf.specs.Hkdf.{second_output}
use Rattle.noise_state.specs.History.{History, Entry, MixHash, Ciphertext, MixKey, MixKeyAndHash, hash_of, chaining_key_of}

-- what each text that a history hashed has after the hash before it, the newest first
abbrev pub hashed_of : List ℕ → List Entry → List (List ℕ)
hashed_of name [] = []
hashed_of name (MixHash text ∷ older) = text ∷ hashed_of name older
hashed_of name (Ciphertext bytes ∷ older) = bytes ∷ hashed_of name older
hashed_of name (MixKey input ∷ older) = hashed_of name older
hashed_of name (MixKeyAndHash input ∷ older) = second_output (chaining_key_of name older) input ∷ hashed_of name older

-- the texts whose digests are the hashes of a history, the oldest first: each is the hash before it and what was hashed
-- after that
abbrev pub hash_texts_of : List ℕ → List Entry → List (List ℕ)
hash_texts_of name [] = []
hash_texts_of name (MixHash text ∷ older) = hash_texts_of name older ++ (hash_of name older ++ text) ∷ []
hash_texts_of name (Ciphertext bytes ∷ older) = hash_texts_of name older ++ (hash_of name older ++ bytes) ∷ []
hash_texts_of name (MixKey input ∷ older) = hash_texts_of name older
hash_texts_of name (MixKeyAndHash input ∷ older) =
    hash_texts_of name older ++ (hash_of name older ++ second_output (chaining_key_of name older) input) ∷ []

abbrev pub hashed : History → List (List ℕ)
hashed r = hashed_of r.name r.entries

abbrev pub hash_texts : History → List (List ℕ)
hash_texts r = hash_texts_of r.name r.entries

-- at position i of two lists of texts stand different ones with one digest
pub record TextsClashAt (a b : List (List ℕ)) (i : ℕ) : Type 0 where
  pub left : List ℕ
  pub right : List ℕ
  pub at_left : slice_get a i ≡ Some left
  pub at_right : slice_get b i ≡ Some right
  pub differ : left ≢ right
  pub same : sha256 left ≡ sha256 right

-- the texts of two histories at position i, counted from 0, clash
abbrev pub ClashAt : History → History → ℕ → Type 0
ClashAt r s i = TextsClashAt (hash_texts r) (hash_texts s) i
