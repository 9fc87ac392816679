-- Where the last place of a line is at which a key schedule's line begins.
use Rattle.std.proofs.Common.{◌≡◌, ℕ, zero, suc, ◌<◌, List, [], ◌∷◌, arith, drop, length, refl}
use Rattle.noise_compare.specs.Plain.{last_place_or, place_or}

next_place : (text found : List ℕ) (i : ℕ) → i < length text
    → last_place_or found (drop i text) ≡ last_place_or (place_or (drop i text) found) (drop (suc i) text)
next_place [] found i h = absurd (omega arith)
next_place (b ∷ rest) found zero h = refl
next_place (b ∷ rest) found (suc i) h = next_place rest found i (omega arith)

-- a place that is looked at is the last so far, or leaves that as it is
pub passed_place : (text found new : List ℕ) (i j : ℕ) → i < length text → j ≡ suc i → new ≡ place_or (drop i text) found
    → last_place_or found (drop i text) ≡ last_place_or new (drop j text)
passed_place text found new i j h ej e = rw (ej, e) (next_place text found i h)
