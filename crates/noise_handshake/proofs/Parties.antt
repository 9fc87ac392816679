-- The tokens of a message, and the psks that are left.
use Rattle.std.proofs.Common.{◌≡◌, ℕ, zero, suc, ◌-◌, ◌<◌, List, [], ◌∷◌, length, get_or, take, drop, refl, ap, ◌∙◌, arith, take_all, length-drop}
use Rattle.noise_handshake.proofs.Common.{Token, tokens_at}

pub tokens_at-read : (ms : List (List Token)) (i : ℕ) (d : List Token) → i < length ms → get_or ms i d ≡ tokens_at ms i
tokens_at-read [] i d h = absurd (omega arith)
tokens_at-read (ts ∷ ms) zero d h = refl
tokens_at-read (ts ∷ ms) (suc i) d h = tokens_at-read ms i d (omega arith)

-- the tokens that were read at an index
pub tokens_at-index : (tokens at : List Token) (ms all : List (List Token)) (i : ℕ) → tokens ≡ at → at ≡ get_or ms i at → ms ≡ all → i < length all
    → tokens ≡ tokens_at all i
tokens_at-index tokens at ms all i e f h due = e ∙ f ∙ ap (λ (zs : List (List Token)). get_or zs i at) h ∙ tokens_at-read all i at due

-- the items from one on, as a slice
pub items-from : (ds items : List (List ℕ)) (used : ℕ) → ds ≡ items → take (length ds - used) (drop used ds) ≡ drop used items
items-from ds items used e = take_all (length ds - used) (drop used ds) (omega (arith, length-drop used ds)) ∙ ap (drop used) e
