-- Facts on the definitions, for proofs of other crates.
use Rattle.std.proofs.Common.{◌≡◌, ℕ, suc, ◌+◌, true, false, ◌&&◌, nat_le, nat_lt, List, [], ◌∷◌, ◌++◌, length, map, refl, ap, sym}
use Rattle.std.proofs.Common.{◌∙◌, append_assoc, arith}
use Rattle.std.specs.Prelude.{IsTrue}
use Rattle.std.specs.List.{list_all, join_with_byte}
use Rattle.std.proofs.lemmas.Bool.{and_parts}
use Rattle.std.proofs.lemmas.Bool.Decides.{nat_tests}
use Rattle.std.proofs.lemmas.List.Folds.{list_all-append}
use Rattle.noise_names.specs.declared.token.Role.{Role}
use Rattle.noise_names.specs.declared.token.Token.{Token}
use Rattle.noise_names.specs.Tokens.{other, turn_from}
use Rattle.noise_names.specs.Plan.{Place, payload, place, token_places, message_places}
use Rattle.noise_names.specs.Names.{Section, IsSection, is_base, is_base_byte, is_upper, is_section_byte, rises, modifier, section_bytes}

-- the places of some messages and of further ones
pub message_places-append : (party : Role) (n : ℕ) (xs ys : List (List Token))
    → message_places party n (xs ++ ys)
    ≡ message_places party n xs ++ message_places (turn_from party (length xs)) (n + length xs) ys
message_places-append party n [] ys = ap (λ (k : ℕ). message_places party k ys) (omega arith)
message_places-append party n (x ∷ xs) ys =
    let further : Role = turn_from (other party) (length xs) in
    let first : List Place = message_places (other party) (n + 1) xs in
    let number : (n + 1) + length xs ≡ n + suc (length xs) = omega arith in
    let more :
    message_places (other party) (n + 1) (xs ++ ys) ≡ first ++ message_places further (n + suc (length xs)) ys =
    message_places-append (other party) (n + 1) xs ys ∙ ap (λ (k : ℕ). first ++ message_places further k ys) number in
    ap (λ (ps : List Place). token_places party n 0 x ++ place party payload n (length x) ∷ ps) more
    ∙ sym (append_assoc (token_places party n 0 x) (place party payload n (length x) ∷ first)
    (message_places further (n + suc (length xs)) ys))

wider : (bs : List ℕ) → IsTrue (list_all is_base_byte bs) → IsTrue (list_all is_section_byte bs)
wider [] h = refl
wider (b ∷ bs) h =
    let parts = and_parts (is_base_byte b) (list_all is_base_byte bs) h in
    rw (parts.0) (wider bs parts.1)

base-bytes : (base : List ℕ) → IsTrue (is_base base) → IsTrue (list_all is_section_byte base)
base-bytes [] h = cc
base-bytes (b ∷ bs) h =
    let few = and_parts (is_upper b && list_all is_base_byte bs) (nat_lt (length bs) 8) h in
    let parts = and_parts (is_upper b) (list_all is_base_byte bs) few.0 in
    rw (parts.0) (wider bs parts.1)

digit-byte : (n : ℕ) → IsTrue (nat_le n 8) → IsTrue (is_section_byte (48 + n))
digit-byte n h = rw (high n h, lower n, upper n h) refl where
  lower : (m : ℕ) → nat_le 48 (48 + m) ≡ true
  lower m = grind (arith, nat_tests)

  upper : (m : ℕ) → nat_le m 8 ≡ true → nat_le (48 + m) 57 ≡ true
  upper m k = grind (arith, nat_tests)

  high : (m : ℕ) → nat_le m 8 ≡ true → nat_le 65 (48 + m) ≡ false
  high m k = grind (arith, nat_tests)

modifiers-bytes : (ns : List ℕ) → IsTrue (list_all (λ n. nat_le n 8) ns)
    → IsTrue (list_all is_section_byte (join_with_byte 43 (map modifier ns)))
modifiers-bytes [] h = refl
modifiers-bytes (n ∷ []) h = rw (digit-byte n (and_parts (nat_le n 8) true h).0) refl
modifiers-bytes (n ∷ m ∷ ns) h =
    let parts = and_parts (nat_le n 8) (list_all (λ k. nat_le k 8) (m ∷ ns)) h in
    rw (digit-byte n parts.0) (modifiers-bytes (m ∷ ns) parts.1)

-- a pattern section has upper-case letters, digits, + and the letters of psk
pub section_bytes-all : (s : Section) → IsSection s → IsTrue (list_all is_section_byte (section_bytes s.base s.places))
section_bytes-all s h =
    let few = and_parts (rises s.places) (list_all (λ n. nat_le n 8) s.places) h.places in
    list_all-append is_section_byte s.base (join_with_byte 43 (map modifier s.places))
    ∙ rw (base-bytes s.base h.base) (modifiers-bytes s.places few.1)
