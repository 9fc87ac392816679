-- The layout of a message: its tokens, and where they stand.
use Rattle.std.proofs.Common.{rules, ◌≡◌, ◌≤◌, ℕ, suc, ◌+◌, List, [], ◌∷◌, length, drop, refl, ap, subst, ◌∙◌, length-drop, drop-drop}
use Rattle.std.specs.Prelude.{Bool}
use Rattle.noise_handshake.proofs.Common.{Token, Plan, has_psk, has_key, PlacedToken, MessageLayout, keyed_after, token_width, passed_places, tokens_at, placed_from, tokens_of, ArePlaced, IsLaid}

-- the tokens that were placed
pub tokens_of-placed_from : (has_psks keyed : Bool) (place : ℕ) (ts : List Token) → tokens_of (placed_from has_psks keyed place ts) ≡ ts
tokens_of-placed_from has_psks keyed place [] = refl
tokens_of-placed_from has_psks keyed place (t ∷ ts) =
    search ((tokens_of-placed_from has_psks (keyed_after has_psks keyed t) (place + token_width keyed t) ts))

pub placed_from-placed : (has_psks keyed : Bool) (place : ℕ) (ts : List Token) → ArePlaced has_psks keyed place (placed_from has_psks keyed place ts)
placed_from-placed has_psks keyed place [] = tt
placed_from-placed has_psks keyed place (t ∷ ts) = (refl, refl, placed_from-placed has_psks (keyed_after has_psks keyed t) (place + token_width keyed t) ts)

-- the first of them
pub first-placed : (has_psks key : Bool) (place : ℕ) (placed : List PlacedToken) (first : PlacedToken) (later : List PlacedToken) → placed ≡ first ∷ later
    → ArePlaced has_psks key place placed
    → (first.place ≡ place) × (first.width ≡ token_width key first.token) × ArePlaced has_psks (keyed_after has_psks key first.token) (place + first.width) later
first-placed has_psks key place placed first later e a = subst (λ (ps : List PlacedToken). ArePlaced has_psks key place ps) e a

-- where the first of them stands in a message, and those after it once it was read
module _ (has_psks key : Bool) (place : ℕ) (placed : List PlacedToken) (first : PlacedToken) (later : List PlacedToken) (e : placed ≡ first ∷ later)
    (are : ArePlaced has_psks key place placed) (m rest : List ℕ) (from : rest ≡ drop first.place m) where
  pub rest-first : rest ≡ drop place m
  rest-first = from ∙ ap (λ (k : ℕ). drop k m) (first-placed has_psks key place placed first later e are).0

  pub later-placed : place ≤ length m → (n : ℕ) (key2 : Bool) → n ≡ token_width key first.token → n ≤ length rest → key2 ≡ keyed_after has_psks key first.token
      → (n ≡ first.width) × (place + first.width ≤ length m) × ArePlaced has_psks key2 (place + first.width) later
      × (drop (place + first.width) m ≡ drop n (drop place m))
  later-placed within n key2 wide range on = search (rules, length-drop, drop-drop)

pub length-tokens_of : (ps : List PlacedToken) → length (tokens_of ps) ≡ length ps
length-tokens_of [] = refl
length-tokens_of (p ∷ ps) = ap suc (length-tokens_of ps)

-- the layout of message n
module _ (p : Plan) (n : ℕ) (laid : MessageLayout) (l : IsLaid (has_psk p) (has_key p (passed_places p n)) (tokens_at p.messages n) laid)
    (placed : List PlacedToken) (d : placed ≡ laid.tokens.items) where
  -- its tokens
  pub tokens-laid : tokens_of placed ≡ tokens_at p.messages n
  tokens-laid = ap tokens_of (d ∙ l.tokens) ∙ tokens_of-placed_from (has_psk p) (has_key p (passed_places p n)) 0 (tokens_at p.messages n)

  -- they stand one after another from the message's start on
  pub places-laid : (has_psks key : Bool) → has_psks ≡ has_psk p → key ≡ has_key p (passed_places p n) → ArePlaced has_psks key 0 placed
  places-laid has_psks key b k = search (rules, placed_from-placed)
