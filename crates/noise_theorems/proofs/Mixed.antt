-- The texts that a party hashes as it mixes texts, and the two of two parties that clash.
use Rattle.std.proofs.Common.{rules, ◌≡◌, ◌<◌, ℕ, List, ◌∷◌, ◌++◌, length, reverse, refl, ap, sym, subst, ◌∙◌, inl, inr, Option, Some, get_or, []}
use Rattle.std.specs.Option.{option_map}
use Rattle.std.specs.Prelude.{slice_get}
use Rattle.noise_theorems.proofs.Common.{map-append, reverse-append, same_Some, slice_get-map, slice_get_cases, slice_get_read, Global, Vec, History, Entry, MixHash, Ciphertext, MixKey, MixKeyAndHash, state_of_history, hash_of, FoundIsClash, first_clash, bytes_of}
use Rattle.sha2.specs.Sha256.{sha256}
use Rattle.noise_state.specs.Symmetric.{mix_hash}
use Rattle.noise_state.specs.declared.symmetric.SymmetricState.{SymmetricState}
use Rattle.noise_duel.specs.Clash.{clash_position}
use Rattle.noise_duel.specs.HashedTexts.{hash_texts, hash_texts_of, hashed, hashed_of}
use Rattle.noise_theorems.specs.declared.clash.HashClash.{HashClash}
use Rattle.noise_theorems.specs.Mixed.{HasMixed, IsHashClash}

-- the history of a name that mixed these texts and nothing else, the newest first
abbrev pub mixed_entries : List (List ℕ) → List Entry
mixed_entries [] = []
mixed_entries (x ∷ xs) = MixHash x ∷ mixed_entries xs

abbrev pub mixing : List ℕ → List (List ℕ) → History
mixing name xs = record { name = name; entries = mixed_entries xs }

pub hashed-mixing : (name : List ℕ) (xs : List (List ℕ)) → hashed (mixing name xs) ≡ xs
hashed-mixing name [] = refl
hashed-mixing name (x ∷ xs) = ap (λ (ys : List (List ℕ)). x ∷ ys) (hashed-mixing name xs)

-- it has the hash and the hashed texts of every history that hashed as much
alike : (name : List ℕ) (es : List Entry) → (hash_of name es ≡ hash_of name (mixed_entries (hashed_of name es)))
    × (hash_texts_of name es ≡ hash_texts_of name (mixed_entries (hashed_of name es)))
alike name [] = (refl, refl)
alike name (MixHash text ∷ es) = let older = alike name es in (ap (λ (h : List ℕ). sha256 (h ++ text)) older.0, rw (older.0, older.1) refl)
alike name (Ciphertext bytes ∷ es) = let older = alike name es in (ap (λ (h : List ℕ). sha256 (h ++ bytes)) older.0, rw (older.0, older.1) refl)
alike name (MixKey input ∷ es) = alike name es
alike name (MixKeyAndHash input ∷ es) = search (rules, (alike name es))

pub texts-mixed : (r : History) (name : List ℕ) (xs : List (List ℕ)) → HasMixed r name xs → hash_texts r ≡ hash_texts (mixing name (reverse xs))
texts-mixed r name xs h =
    (alike r.name r.entries).1
    ∙ ap (λ (n : List ℕ). hash_texts_of n (mixed_entries (hashed r))) h.named
    ∙ ap (λ (ys : List (List ℕ)). hash_texts_of name (mixed_entries ys)) h.mixed

pub has-mixed : (name : List ℕ) (xs : List (List ℕ)) → HasMixed (mixing name (reverse xs)) name xs
has-mixed name xs = record { named = refl; mixed = hashed-mixing name (reverse xs) }

-- ---- in a loop

-- After these pieces the state and the texts are those of the history that mixed them.
pub record Mixes (name : List ℕ) (pieces : List (Vec ℕ Global)) (state : SymmetricState) (texts : List (Vec ℕ Global)) : Type 0 where
  pub matches : state ≡ state_of_history (mixing name (reverse (bytes_of pieces)))
  pub texts_are : bytes_of texts ≡ hash_texts (mixing name (reverse (bytes_of pieces)))

pub mixes-more : (name : List ℕ) (pieces texts : List (Vec ℕ Global)) (piece text : Vec ℕ Global) (old new : SymmetricState) (h : List ℕ)
    → Mixes name pieces old texts → h ≡ (state_of_history (mixing name (reverse (bytes_of pieces)))).hash → text.items ≡ h ++ piece.items
    → new ≡ mix_hash (state_of_history (mixing name (reverse (bytes_of pieces)))) piece.items
    → Mixes name (pieces ++ piece ∷ []) new (texts ++ text ∷ [])
mixes-more name pieces texts piece text old new h mixes is-hash is-text matches =
    let items : Vec ℕ Global → List ℕ = λ f. f.items in
    let more : reverse (bytes_of (pieces ++ piece ∷ [])) ≡ piece.items ∷ reverse (bytes_of pieces) =
    ap (λ (xs : List (List ℕ)). reverse xs) (map-append items pieces (piece ∷ [])) ∙ reverse-append (bytes_of pieces) (piece.items ∷ []) in
    record {
      matches = subst (λ (xs : List (List ℕ)). new ≡ state_of_history (mixing name xs)) (sym more) matches;
      texts_are =
          map-append items texts (text ∷ [])
          ∙ ap (λ (ts : List (List ℕ)). ts ++ text.items ∷ []) mixes.texts_are
          ∙ ap (λ (t : List ℕ). hash_texts (mixing name (reverse (bytes_of pieces))) ++ t ∷ []) (is-text ∙ ap (λ (k : List ℕ). k ++ piece.items) is-hash)
          ∙ ap (λ (xs : List (List ℕ)). hash_texts (mixing name xs)) (sym more);
    }

-- ---- the two texts

pub clash-at : (r s : History) (fs gs xs ys : List (Vec ℕ Global)) (found : Option ℕ) → bytes_of fs ≡ hash_texts r → bytes_of gs ≡ hash_texts s
    → xs ≡ fs → ys ≡ gs → found ≡ first_clash 0 (bytes_of xs) (bytes_of ys) → clash_position r s ≡ found
unfolding clash_position
clash-at r s fs gs xs ys found e f left right is =
    sym (
    is
    ∙ ap (λ (ts : List (List ℕ)). first_clash 0 ts (bytes_of ys)) (ap bytes_of left ∙ e)
    ∙ ap (λ (ts : List (List ℕ)). first_clash 0 (hash_texts r) ts) (ap bytes_of right ∙ f)
    )

within : (xs : List (Vec ℕ Global)) (i : ℕ) (text : List ℕ) → slice_get (bytes_of xs) i ≡ Some text → i < length xs
within xs i text e = elim (slice_get_cases xs i).1 [
  | inl here ↦ here.1
  | inr past ↦ absurd (let none = sym (slice_get-map (λ (f : Vec ℕ Global). f.items) xs i) ∙ e in let gone = past.1 in cc)
]

got : (xs : List (Vec ℕ Global)) (i : ℕ) (v : Vec ℕ Global) → i < length xs → v ≡ get_or xs i v → slice_get (bytes_of xs) i ≡ Some v.items
got xs i v h e =
    slice_get-map (λ (f : Vec ℕ Global). f.items) xs i
    ∙ ap (λ (o : Option (Vec ℕ Global)). option_map (λ (f : Vec ℕ Global). f.items) o) (slice_get_read xs (length xs) i v refl h e)

pub both-within : FoundIsClash → (r s : History) (i : ℕ) (fs gs : List (Vec ℕ Global)) → bytes_of fs ≡ hash_texts r → bytes_of gs ≡ hash_texts s
    → clash_position r s ≡ Some i → (i < length fs) × (i < length gs)
both-within matches r s i fs gs e f at =
    let both = matches r s i at in (
      within fs i both.left (subst (λ (xs : List (List ℕ)). slice_get xs i ≡ Some both.left) (sym e) both.at_left),
      within gs i both.right (subst (λ (xs : List (List ℕ)). slice_get xs i ≡ Some both.right) (sym f) both.at_right),
    )

pub is-hash-clash : FoundIsClash → (r s : History) (c : HashClash) (fs gs : List (Vec ℕ Global)) → bytes_of fs ≡ hash_texts r → bytes_of gs ≡ hash_texts s
    → clash_position r s ≡ Some c.position → c.position < length fs → c.position < length gs
    → c.left ≡ get_or fs c.position c.left → c.right ≡ get_or gs c.position c.right → IsHashClash r s c
is-hash-clash matches r s c fs gs e f at in-left in-right left right =
    let both = matches r s c.position at in
    let at-left = subst (λ (xs : List (List ℕ)). slice_get xs c.position ≡ Some c.left.items) e (got fs c.position c.left in-left left) in
    let at-right = subst (λ (xs : List (List ℕ)). slice_get xs c.position ≡ Some c.right.items) f (got gs c.position c.right in-right right) in
    let is-left : both.left ≡ c.left.items = same_Some both.left c.left.items (sym both.at_left ∙ at-left) in
    let is-right : both.right ≡ c.right.items = same_Some both.right c.right.items (sym both.at_right ∙ at-right) in
    record {
      position = at;
      at_left = at-left;
      at_right = at-right;
      differ = λ same. both.differ (is-left ∙ same ∙ sym is-right);
      same = ap sha256 (sym is-left) ∙ both.same ∙ ap sha256 is-right;
    }
