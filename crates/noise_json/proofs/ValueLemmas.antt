-- Bytes in a document.
use Rattle.std.proofs.Common.{◌≡◌, ◌∙◌, ap, List, [], ◌∷◌, ℕ, ◌-◌, false, true, Bool, length, map, refl, sym, take, Bor}
use Rattle.std.proofs.lemmas.List.{length-map, take-map}
use Rattle.std.proofs.lemmas.Str.{IsUtf8-from_is_utf8, is_utf8-from_IsUtf8}
use Rattle.std.specs.Str.{IsUtf8, is_utf8}
use Rattle.serde_json.specs.Data.{Data, string}
use Rattle.noise_json.specs.Values.{bytes_data, hex_data, lines_data, lines_in, list_data, pieces_of}

pub bytes_data-text : (bytes : List ℕ) → IsUtf8 bytes → bytes_data bytes ≡ string bytes
unfolding bytes_data
bytes_data-text bytes text = rw (is_utf8-from_IsUtf8 bytes text) refl

refused : (bytes : List ℕ) (b : Bool) → is_utf8 bytes ≡ b → (IsUtf8 bytes → ⊥) → is_utf8 bytes ≡ false
refused bytes true is other = absurd (other (IsUtf8-from_is_utf8 bytes is))
refused bytes false is other = is

pub bytes_data-other : (bytes : List ℕ) → (IsUtf8 bytes → ⊥) → bytes_data bytes ≡ hex_data bytes
unfolding bytes_data
bytes_data-other bytes other = rw (refused bytes _ refl other) refl

now : Bor (List ℕ) → List ℕ
now piece = piece.now

shown : Bor (List ℕ) → Data
shown piece = bytes_data piece.now

maps : (pieces : List (Bor (List ℕ))) → map (λ piece. bytes_data piece.now) pieces ≡ map bytes_data (map (λ piece. piece.now) pieces)
maps [] = refl
maps (piece ∷ pieces) = ap (λ rest. bytes_data piece.now ∷ rest) (maps pieces)

-- the pieces but the last, as they are held
pub lines_data-pieces : (text : List ℕ) (pieces : List (Bor (List ℕ))) → map (λ piece. piece.now) pieces ≡ pieces_of text
    → list_data (map (λ piece. bytes_data piece.now) (take (length pieces - 1) pieces)) ≡ lines_data text
unfolding lines_data lines_in now
lines_data-pieces text pieces are =
    let count : length pieces ≡ length (pieces_of text) = sym (length-map pieces now) ∙ ap length are in
    let front : map now (take (length pieces - 1) pieces) ≡ take (length (pieces_of text) - 1) (pieces_of text) =
    sym (take-map now (length pieces - 1) pieces) ∙ rw (are, count) refl in
    ap list_data (maps (take (length pieces - 1) pieces) ∙ ap (map bytes_data) front)
