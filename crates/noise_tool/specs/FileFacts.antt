-- What a vector file gives for a log that is compared.
use Rattle.std.specs.Prelude.{◌≡◌, ℕ, List, [], ◌∷◌, ◌++◌, Option, Some, None, flat_map}
use Rattle.noise_compare.specs.declared.facts.Facts.{Facts}
use Rattle.noise_keys.specs.declared.keys.Own.TheVariants.{Ephemeral, Static}
use Rattle.noise_names.specs.Names.{name_bytes}
use Rattle.noise_vectors.specs.FileKeys.{agreement_of, public_of}
use Rattle.noise_vectors.specs.VectorFile.{IsVectorFile}
use Rattle.noise_vectors.specs.VectorText.{file_text}
use Rattle.noise_vectors.specs.declared.file_keys.FileKeys.{FileKeys}
use Rattle.noise_vectors.specs.declared.vector.VectorFile.{VectorFile}

-- a key, if there is one
abbrev pub if_any : Option (List ℕ) → List (List ℕ)
if_any None = []
if_any (Some key) = key ∷ []

-- the public keys of a party, as far as the file has them
unfoldable pub publics_of : FileKeys → List (List ℕ)
publics_of keys = if_any (public_of keys Ephemeral) ++ if_any (public_of keys Static)

-- what DH gives for each key pair of a party and a public key of the other
unfoldable pub results_with : FileKeys → List ℕ → List (List ℕ)
results_with keys remote = if_any (agreement_of keys Ephemeral remote) ++ if_any (agreement_of keys Static remote)

-- the same for each of these public keys
unfoldable pub results_of : FileKeys → List (List ℕ) → List (List ℕ)
results_of keys publics = flat_map (results_with keys) publics

-- the name, the prologue, the public keys, the DH results of both parties, and the psks
pub record AreFactsOf (file : VectorFile) (facts : Facts) : Type 0 where
  pub name : facts.name.items ≡ name_bytes file.protocol
  pub prologue : facts.prologue.items ≡ file.prologue.items
  pub publics : facts.publics.items ≡ publics_of file.initiator ++ publics_of file.responder
  pub results : facts.results.items ≡ results_of file.initiator (publics_of file.responder)
      ++ results_of file.responder (publics_of file.initiator)
  pub psks : facts.psks.items ≡ file.psks.items

-- a right vector file has this text, and gives these
abbrev pub AreFactsOfText : List ℕ → Facts → Type 0
AreFactsOfText text facts = (file : VectorFile) × IsVectorFile file × (text ≡ file_text file) × AreFactsOf file facts
