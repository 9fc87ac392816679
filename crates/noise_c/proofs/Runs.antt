-- A handshake that is handed each DH result when it asks is as the library's.
use Rattle.std.proofs.Common.{◌≡◌, ◌⊎◌, inl, inr, ℕ, List, [], ◌∷◌, ◌++◌, refl, ap, sym, subst, ◌∙◌}
use Rattle.std.specs.Prelude.{true, false}
use Rattle.std.specs.Option.{option_map, option_or}
use Rattle.std.specs.Cmp.Lexicographic.{pointwise, same_text}
use Rattle.std.proofs.lemmas.Cmp.{nat_list_eq_equiv}
use Rattle.std.proofs.lemmas.List.Folds.{find-append}
use Rattle.noise_c.proofs.Common.{Bool, cond, Option, Some, None, find, nat_eq, Plan, IsValid, Own, Table, TableEntry, dh_result_in, is_for, same_own, HandshakeValue, Party, DhResults, FirstActAsAll, AskedIsLacking, AskedToRead, AskedToWrite, FourSuffice, FourSufficeToWrite, HasKeys, IsHandedIn, with_dh_results, NoiseHandshake, IsAdded, IsPatternOf, KeepsParty, agreement_in, handshake_from_c, pairs_in, table_in, text_from_c, and_parts, and_from, party_with}
use Rattle.noise_keys.specs.declared.keys.Own.TheVariants.{Ephemeral, Static}
use Rattle.noise_c.specs.DhResults.AskedToRead.{ready as none_to_read, asked as one_to_read}
use Rattle.noise_c.specs.DhResults.AskedToWrite.{ready as none_to_write, asked as one_to_write}
use Rattle.noise_c.specs.HandedIn.{ReadsByDhResults, WritesByDhResults, ReadsAsLibrary, WritesAsLibrary, dh_results_in}
use Rattle.noise_c.specs.HandedIn.ReadsByDhResults.{ready as reads_now, handed_in as reads_later}
use Rattle.noise_c.specs.HandedIn.WritesByDhResults.{ready as writes_now, handed_in as writes_later}

-- ---- a DH result more

-- the DH result after those of the entries
pub either : (es : List TableEntry) (e : TableEntry) (own : Own) (key : List ℕ)
    → dh_result_in (es ++ e ∷ []) own key ≡ option_or (dh_result_in es own key) (dh_result_in (e ∷ []) own key)
either es e own key =
    ap (option_map (λ (t : TableEntry). t.answer)) (find-append (is_for own key) es (e ∷ []))
    ∙ map-or (find (is_for own key) es) (find (is_for own key) (e ∷ [])) where
      map-or : (a b : Option TableEntry)
          → option_map (λ (t : TableEntry). t.answer) (option_or a b)
          ≡ option_or (option_map (λ (t : TableEntry). t.answer) a) (option_map (λ (t : TableEntry). t.answer) b)
      map-or None b = refl
      map-or (Some t) b = refl

own-itself : (own : Own) → same_own own own ≡ true
own-itself Ephemeral = refl
own-itself Static = refl

own-same : (a b : Own) → same_own a b ≡ true → a ≡ b
own-same Ephemeral Ephemeral e = refl
own-same Ephemeral Static e = cc
own-same Static Ephemeral e = cc
own-same Static Static e = refl

module _ (own : Own) (key x : List ℕ) where
  abbrev entry : TableEntry
  entry = record { own = own; remote = key; answer = x }

  pub alone : dh_result_in (entry ∷ []) own key ≡ Some x
  alone = at (is_for own key entry) (and_from (same_own own own) (pointwise nat_eq key key) (own-itself own) (nat_list_eq_equiv.refl key)) where
    at : (b : Bool) → b ≡ true → option_map (λ (t : TableEntry). t.answer) (cond b (Some entry) None) ≡ Some x
    at true e = refl
    at false e = cc

  pub only-one : (o : Own) (k y : List ℕ) → dh_result_in (entry ∷ []) o k ≡ Some y → (o ≡ own) × (k ≡ key) × (y ≡ x)
  only-one o k y e = at (is_for o k entry) refl e where
    at : (b : Bool) → is_for o k entry ≡ b → option_map (λ (t : TableEntry). t.answer) (cond b (Some entry) None) ≡ Some y
        → (o ≡ own) × (k ≡ key) × (y ≡ x)
    at true t f = (
      sym (own-same own o (and_parts (same_own own o) (pointwise nat_eq key k) t).0),
      sym (same_text key k (sym (and_parts (same_own own o) (pointwise nat_eq key k) t).1)),
      cc,
    )
    at false t f = cc

  handed : (es : List TableEntry) → dh_result_in es own key ≡ None → IsHandedIn (dh_result_in es) (dh_result_in (es ++ entry ∷ [])) own key x
  handed es none = record {
    there = either es entry own key ∙ ap (λ (o : Option (List ℕ)). option_or o (dh_result_in (entry ∷ []) own key)) none ∙ alone;
    stays = λ (o : Own) (k y : List ℕ) (e : dh_result_in es o k ≡ Some y).
        either es entry o k ∙ ap (λ (z : Option (List ℕ)). option_or z (dh_result_in (entry ∷ []) o k)) e;
    only = λ (o : Own) (k y : List ℕ) (e : dh_result_in (es ++ entry ∷ []) o k ≡ Some y).
        which o k y (dh_result_in es o k) refl (sym (either es entry o k) ∙ e);
  } where
    which : (o : Own) (k y : List ℕ) (a : Option (List ℕ)) → dh_result_in es o k ≡ a
        → option_or (dh_result_in es o k) (dh_result_in (entry ∷ []) o k) ≡ Some y
        → (dh_result_in es o k ≡ Some y) ⊎ ((o ≡ own) × (k ≡ key) × (y ≡ x))
    which o k y None t e = inr (only-one o k y (sym (ap (λ (z : Option (List ℕ)). option_or z (dh_result_in (entry ∷ []) o k)) t) ∙ e))
    which o k y (Some z) t e = inl (t ∙ (sym (ap (λ (w : Option (List ℕ)). option_or w (dh_result_in (entry ∷ []) o k)) t) ∙ e))

-- ---- of the struct

module _ (p : Plan) (v : Party) where
  abbrev Keeps : NoiseHandshake → Type 0
  Keeps k = KeepsParty k p (with_dh_results v (dh_results_in k))

  -- with other DH results handed in the struct matches the party with those
  pub keeps-with : (k next : NoiseHandshake) (entries : List TableEntry) → text_from_c next ≡ text_from_c k
      → handshake_from_c p next ≡ record (handshake_from_c p k) { keys = record (table_in k) { entries = entries } } → Keeps k → Keeps next
  keeps-with k next entries text handshake c = record {
    pattern = subst (λ (bytes : List ℕ). IsPatternOf bytes p) (sym text) c.pattern;
    later = c.later;
    matches = ap (λ (h : HandshakeValue Table). party_with pairs_in c.later h) handshake
        ∙ ap (λ (z : Party). record z { agree = agreement_in (record (table_in k) { entries = entries }) }) c.matches
        ∙ ap (λ (h : HandshakeValue Table). record v { agree = agreement_in h.keys }) (sym handshake);
  }

  module _ (k next : NoiseHandshake) (own : Own) (key x : List ℕ) (added : IsAdded k next (record { own = own; remote = key; answer = x })) where
    table : table_in next ≡ record (table_in k) { entries = (table_in k).entries ++ record { own = own; remote = key; answer = x } ∷ [] }
    table = ap (λ (h : HandshakeValue Table). h.keys) (added.handshake p)

    pub handed-in-next : dh_results_in k own key ≡ None → IsHandedIn (dh_results_in k) (dh_results_in next) own key x
    handed-in-next none =
        subst (λ (t : Table). IsHandedIn (dh_results_in k) (agreement_in t) own key x) (sym table) (handed own key x (table_in k).entries none)

    pub keeps-next : Keeps k → Keeps next
    keeps-next = keeps-with k next ((table_in k).entries ++ record { own = own; remote = key; answer = x } ∷ []) added.text (added.handshake p)

  -- each call that asks is one of the state's
  pub asked-to-read : AskedIsLacking → (all : DhResults) (message : List ℕ) (k last : NoiseHandshake) (n : ℕ) → Keeps k → ReadsByDhResults p all message k n last
      → AskedToRead v all message (dh_results_in k) n (dh_results_in last) × Keeps last
  asked-to-read lacks all message k last n keeps (reads_now _) = (none_to_read (dh_results_in k), keeps)
  asked-to-read lacks all message k last _ keeps (reads_later _ next _ own key x n wants is added more) =
      let w = wants (with_dh_results v (dh_results_in k)) keeps in
      let none : dh_results_in k own key ≡ None = (lacks (with_dh_results v (dh_results_in k)) own key).0 message w in
      let i = asked-to-read lacks all message next last n (keeps-next k next own key x added keeps) more in
      (one_to_read (dh_results_in k) (dh_results_in next) (dh_results_in last) own key x n w is (handed-in-next k next own key x added none) i.0, i.1)

  pub asked-to-write : AskedIsLacking → (all : DhResults) → HasKeys v → (k last : NoiseHandshake) (n : ℕ) → Keeps k → WritesByDhResults p all k n last
      → AskedToWrite v all (dh_results_in k) n (dh_results_in last) × Keeps last
  asked-to-write lacks all keys k last n keeps (writes_now _) = (none_to_write (dh_results_in k), keeps)
  asked-to-write lacks all keys k last _ keeps (writes_later _ next _ own key x n wants is added more) =
      let w = wants (with_dh_results v (dh_results_in k)) keeps in
      let none : dh_results_in k own key ≡ None = (lacks (with_dh_results v (dh_results_in k)) own key).1 keys w in
      let i = asked-to-write lacks all keys next last n (keeps-next k next own key x added keeps) more in
      (one_to_write (dh_results_in k) (dh_results_in next) (dh_results_in last) own key x n w is (handed-in-next k next own key x added none) i.0, i.1)

-- the pattern of the state is that of the name
pattern-is : (p : Plan) (v : Party) (k : NoiseHandshake) → KeepsParty k p v → p ≡ v.pattern
pattern-is p v k c = ap (λ (z : Party). z.pattern) c.matches

pub reads-as : AskedIsLacking → FirstActAsAll → FourSuffice → ReadsAsLibrary
reads-as lacks whole four p v all message k last n valid keeps among run =
    let a = asked-to-read p v lacks all message k last n keeps run in
    let f = four v (dh_results_in k) (dh_results_in last) all message n (subst IsValid (pattern-is p _ k keeps) valid) among a.0 in
    record { few = f.1; keeps = a.1; among = f.2; same = whole v (dh_results_in last) all f.2 }

pub writes-as : AskedIsLacking → FirstActAsAll → FourSufficeToWrite → WritesAsLibrary
writes-as lacks whole four p v all k last n valid keys keeps among run =
    let a = asked-to-write p v lacks all keys k last n keeps run in
    let f = four v (dh_results_in k) (dh_results_in last) all n (subst IsValid (pattern-is p _ k keeps) valid) keys among a.0 in
    record { few = f.1; keeps = a.1; among = f.2; same = whole v (dh_results_in last) all f.2 }
