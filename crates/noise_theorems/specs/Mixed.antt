-- What a party mixed into its hash, and two texts with one digest that two parties hashed so.
use Rattle.std.specs.Prelude.{◌≡◌, ◌≢◌, ℕ, List, Some, reverse, slice_get}
use Rattle.sha2.specs.Sha256.{sha256}
use Rattle.noise_state.specs.History.{History}
use Rattle.noise_duel.specs.Clash.{clash_position}
use Rattle.noise_duel.specs.HashedTexts.{hash_texts, hashed}
use Rattle.noise_theorems.specs.declared.clash.HashClash.{HashClash}

-- A history of this protocol name whose hash came of mixing these texts, the first one first (MixHash, Noise 5.2).
pub record HasMixed (r : History) (name : List ℕ) (texts : List (List ℕ)) : Type 0 where
  pub named : r.name ≡ name
  pub mixed : hashed r ≡ reverse texts

-- The first position at which the texts that two histories hashed clash, and the two texts there: they differ with one
-- digest.
pub record IsHashClash (r s : History) (c : HashClash) : Type 0 where
  pub position : clash_position r s ≡ Some c.position
  pub at_left : slice_get (hash_texts r) c.position ≡ Some c.left.items
  pub at_right : slice_get (hash_texts s) c.position ≡ Some c.right.items
  pub differ : c.left.items ≢ c.right.items
  pub same : sha256 c.left.items ≡ sha256 c.right.items
