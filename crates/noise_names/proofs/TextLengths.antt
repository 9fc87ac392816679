-- How many bytes a protocol name and the text of a pattern have at most.
use Rattle.std.proofs.Common.{rules, ◌≡◌, ℕ, ◌+◌, ◌-◌, ◌*◌, ◌≤◌, Bool, true, false, cond, eqb, List, [], ◌∷◌, ◌++◌, ap, sym, ◌∙◌, map, length, arith, length-append}
use Rattle.noise_names.proofs.Common.{list_any, list_all, join_with_byte, nat_tests, Role, Initiator, Responder, Token, E, S, Ee, Es, Se, Ss, Psk, other, own_tokens, Plan, Section, IsSection, is_base, are_places, modifier, section_bytes, name_bytes, IsPattern, HavePsksAt, psk_if, with_psk_tokens, has_few_tokens, words, token_line, message_lines, text_of, and_parts}
use Rattle.noise_names.proofs.Numbers.{places_from-few, are_places-from}
use Rattle.noise_names.proofs.PskTokens.{few_messages}
use Rattle.noise_names.proofs.Writing.{more_words, words-first}

-- modifiers: each has 4 bytes, and a + stands between each two
few-modifiers : (ns : List ℕ) → length (join_with_byte 43 (map modifier ns)) ≤ 5 * length ns - 1
few-modifiers [] = omega arith
few-modifiers (n ∷ []) = omega arith
few-modifiers (n ∷ m ∷ ns) = search (rules, (few-modifiers (m ∷ ns)))

few-places : (ns : List ℕ) → are_places ns ≡ true → length ns ≤ 9
few-places ns h = let few : length ns + 0 ≤ 9 = places_from-few 0 ns (sym (are_places-from ns) ∙ h) (omega arith) in omega arith

few-section : (base places : List ℕ) → is_base base ≡ true → are_places places ≡ true → length (section_bytes base places) ≤ 52
few-section base places b p = search (rules, few-places, few-modifiers, length-append)

pub few-name : (s : Section) → IsSection s → length (name_bytes s) ≤ 82
few-name s h = search (rules, few-section, length-append)

-- words: each has a comma and a space before it but the first
more-append : (xs ys : List Token) → length (more_words (xs ++ ys)) ≡ length (more_words xs) + length (more_words ys)
more-append [] ys = omega arith
more-append (x ∷ xs) ys = search (rules, (more-append xs ys))

-- a token other than psk has a word of at most 2 bytes
few-own : (ts : List Token) → length (more_words (own_tokens ts)) ≤ 4 * length (own_tokens ts)
few-own [] = omega arith
few-own (E ∷ ts) = omega (arith, few-own ts)
few-own (S ∷ ts) = omega (arith, few-own ts)
few-own (Ee ∷ ts) = omega (arith, few-own ts)
few-own (Es ∷ ts) = omega (arith, few-own ts)
few-own (Se ∷ ts) = omega (arith, few-own ts)
few-own (Ss ∷ ts) = omega (arith, few-own ts)
few-own (Psk ∷ ts) = few-own ts

few-psk : (n : ℕ) (places : List ℕ) → length (more_words (psk_if n places)) ≤ 5
few-psk n places = at (list_any (λ m. eqb m n) places) where
  at : (b : Bool) → length (more_words (cond b (Psk ∷ []) [])) ≤ 5
  at true = omega arith
  at false = omega arith

few-words : (ts : List Token) → length (words ts) ≤ length (more_words ts) - 2
few-words [] = omega arith
few-words (t ∷ ts) = omega (arith, ap length (words-first t ts))

few-line : (role : Role) (ts : List Token) → length (token_line role ts) ≤ 6 + (length (more_words ts) - 2)
few-line Initiator ts = omega (arith, few-words ts, length-append (words ts) (10 ∷ []))
few-line Responder ts = omega (arith, few-words ts, length-append (words ts) (10 ∷ []))

-- the psk token in front of message 1
abbrev front : ℕ → List ℕ → List Token
front n places = cond (eqb n 1) (psk_if 0 places) []

few-message : (places : List ℕ) (n : ℕ) (ts : List Token) → ts ≡ with_psk_tokens places n (own_tokens ts) → has_few_tokens ts ≡ true
    → length (more_words ts) ≤ 37 + length (more_words (front n places))
few-message places n ts is few = search (rules, more-append, few-own)

-- a message after the first has at most one psk token
few-later : (places : List ℕ) (n : ℕ) (role : Role) (ms : List (List Token)) → 2 ≤ n → list_all has_few_tokens ms ≡ true → HavePsksAt places n ms
    → length (message_lines role ms) ≤ 41 * length ms
few-later places n role [] later few psks = omega arith
few-later places n role (m ∷ ms) later few psks =
    let sizes = and_parts (has_few_tokens m) (list_all has_few_tokens ms) few in
    let none : front n places ≡ [] = ap (λ (b : Bool). cond b (psk_if 0 places) []) (not_first n later) in
    let no_words : length (more_words (front n places)) ≡ 0 = ap (λ (us : List Token). length (more_words us)) none in
    omega (
      arith,
      no_words,
      few-message places n m psks.0 sizes.0,
      few-line role m,
      few-later places (n + 1) (other role) ms (omega arith) sizes.1 psks.1,
      length-append (token_line role m) (message_lines (other role) ms),
    )
  where
    not_first : (n : ℕ) → 2 ≤ n → eqb n 1 ≡ false
    not_first n h = grind (arith, nat_tests)

few-lines : (places : List ℕ) (role : Role) (ms : List (List Token)) → list_all has_few_tokens ms ≡ true → HavePsksAt places 1 ms
    → length (message_lines role ms) ≤ 41 * length ms + 5
few-lines places role [] few psks = omega arith
few-lines places role (m ∷ ms) few psks =
    let sizes = and_parts (has_few_tokens m) (list_all has_few_tokens ms) few in
    let first : length (more_words (front 1 places)) ≤ 5 = few-psk 0 places in
    omega (
      arith,
      first,
      few-message places 1 m psks.0 sizes.0,
      few-line role m,
      few-later places 2 (other role) ms (omega arith) sizes.1 psks.1,
      length-append (token_line role m) (message_lines (other role) ms),
    )

pub few-text : (p : Plan) → IsPattern p → length (text_of p) ≤ 413
few-text p h = search (rules, few_messages, few-section, few-lines, length-append)
