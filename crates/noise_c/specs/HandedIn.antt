-- One call after another on the struct of a handshake, which is handed each DH result that it asks for: a run of the
-- library, whose keys have them at once.
use Rattle.std.specs.Prelude.{◌≡◌, ◌≤◌, ℕ, suc, List, Some}
use Rattle.noise_names.specs.Plan.{Plan}
use Rattle.noise_names.specs.Validity.{IsValid}
use Rattle.noise_keys.specs.declared.keys.Own.{Own}
use Rattle.noise_handshake.specs.Party.{Party}
use Rattle.noise_handshake.specs.Wanting.{WantsToRead, WantsToWrite}
use Rattle.noise_c.specs.DhResults.{DhResults, AreAmong, ActsAsAll, HasKeys, with_dh_results}
use Rattle.noise_c.specs.declared.structs.NoiseHandshake.{NoiseHandshake}
use Rattle.noise_c.specs.HandshakeStructs.{IsAdded, KeepsParty, agreement_in, table_in}

-- the DH results that were handed in
abbrev pub dh_results_in : NoiseHandshake → DhResults
dh_results_in k = agreement_in (table_in k)

-- A message is read after so many calls that ask for a DH result (`wants_dh_result` of `ReadOutcome`), each of which is
-- handed in as the keys have it (`noise_answer`); this is the struct at last, when the next call reads.
pub data ReadsByDhResults (p : Plan) (all : DhResults) (message : List ℕ) : NoiseHandshake → ℕ → NoiseHandshake
    → Type 0 where
  ready : (k : NoiseHandshake) → ReadsByDhResults p all message k 0 k
  handed_in : (k next last : NoiseHandshake) (own : Own) (key x : List ℕ) (n : ℕ)
      → ((v : Party) → KeepsParty k p v → WantsToRead v message own key)
      → all own key ≡ Some x → IsAdded k next (record { own = own; remote = key; answer = x })
      → ReadsByDhResults p all message next n last
      → ReadsByDhResults p all message k (suc n) last

-- The same of a message that the party writes (`noise_write`).
pub data WritesByDhResults (p : Plan) (all : DhResults) : NoiseHandshake → ℕ → NoiseHandshake → Type 0 where
  ready : (k : NoiseHandshake) → WritesByDhResults p all k 0 k
  handed_in : (k next last : NoiseHandshake) (own : Own) (key x : List ℕ) (n : ℕ)
      → ((v : Party) → KeepsParty k p v → WantsToWrite v own key)
      → all own key ≡ Some x → IsAdded k next (record { own = own; remote = key; answer = x })
      → WritesByDhResults p all next n last
      → WritesByDhResults p all k (suc n) last

-- The struct after at most four DH results, all of them those of the keys: it matches the party with these, which
-- accepts, refuses and writes messages as the party with those keys does, but for a refusal that asks. So the struct
-- after the next call, where that doesn't ask, matches what a handshake of the library with those keys matches.
pub record IsAsLibrary (p : Plan) (v : Party) (all : DhResults) (n : ℕ) (last : NoiseHandshake) : Type 0 where
  pub few : n ≤ 4
  pub keeps : KeepsParty last p (with_dh_results v (dh_results_in last))
  pub among : AreAmong (dh_results_in last) all
  pub same : ActsAsAll v (dh_results_in last) all

abbrev pub ReadsAsLibrary : Type 0
ReadsAsLibrary = (p : Plan) (v : Party) (all : DhResults) (message : List ℕ) (k last : NoiseHandshake) (n : ℕ)
    → IsValid p → KeepsParty k p (with_dh_results v (dh_results_in k)) → AreAmong (dh_results_in k) all
    → ReadsByDhResults p all message k n last → IsAsLibrary p v all n last

abbrev pub WritesAsLibrary : Type 0
WritesAsLibrary = (p : Plan) (v : Party) (all : DhResults) (k last : NoiseHandshake) (n : ℕ) → IsValid p → HasKeys v
    → KeepsParty k p (with_dh_results v (dh_results_in k)) → AreAmong (dh_results_in k) all
    → WritesByDhResults p all k n last → IsAsLibrary p v all n last
