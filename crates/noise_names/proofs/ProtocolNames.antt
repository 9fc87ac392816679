-- A protocol name is read exactly if it is spelled so, and else its first fault is reported.
use Rattle.std.proofs.Common.{rules, ◌≡◌, ℕ, ◌+◌, ◌*◌, ◌≤◌, Bool, true, false, not, cond, eqb, ltb, List, [], ◌∷◌, ◌++◌, Result, Ok, Err, refl, ap, sym, ◌∙◌, subst, map, length, length-append, take, drop, take_while, arith}
use Rattle.noise_names.proofs.Common.{codes, bytes_eq, join_with_byte, drop_at, drop-drop, bytes_eq-Decides, NameFault, Length, Prefix, Base, Modifier, ModifierOrder, Algorithm, is_section_byte, Section, IsSection, Names, modifier, section_bytes, name_bytes, prefix, suffix, section_part, algorithm_part, has_fault, IsFirstNameFault, unless_section_fault, section_in, section_read, name_read, section_bytes-all, eqb-true, le-ltb, not-false}
use Rattle.noise_names.proofs.Numbers.{places_from-few, are_places-from}
use Rattle.noise_names.proofs.Sections.{base_few, front_is, front_split, section_keeps, section_in-spelled, unless_section_ok, take-front, kept_section, all_weaker}

-- the first of the tests that holds
first_by : (bytes : List ℕ) (fault : NameFault) (result : Section) (l p b m o a : Bool)
    → has_fault bytes Length ≡ l → has_fault bytes Prefix ≡ p → has_fault bytes Base ≡ b → has_fault bytes Modifier ≡ m → has_fault bytes ModifierOrder ≡ o
    → has_fault bytes Algorithm ≡ a
    → cond l (Err Length) (cond p (Err Prefix)
    (cond b (Err Base) (cond m (Err Modifier) (cond o (Err ModifierOrder) (cond a (Err Algorithm) (Ok result)))))) ≡ Err fault
    → IsFirstNameFault bytes fault
first_by bytes fault result true p b m o a hl hp hb hm ho ha e = search rules
first_by bytes fault result false true b m o a hl hp hb hm ho ha e = search rules
first_by bytes fault result false false true m o a hl hp hb hm ho ha e = search rules
first_by bytes fault result false false false true o a hl hp hb hm ho ha e = search rules
first_by bytes fault result false false false false true a hl hp hb hm ho ha e = search rules
first_by bytes fault result false false false false false true hl hp hb hm ho ha e = search rules
first_by bytes fault result false false false false false false hl hp hb hm ho ha e = absurd (cc)

pub name_fault : (bytes : List ℕ) (fault : NameFault) → name_read bytes ≡ Err fault → IsFirstNameFault bytes fault
name_fault bytes fault e = search first_by

-- what is read spells the name
name_ok : (l p a : Bool) (s : Section) (rest : Result Section NameFault) → cond l (Err Length) (cond p (Err Prefix) rest) ≡ Ok s
    → (l ≡ false) × (p ≡ false) × (rest ≡ Ok s)
name_ok true p a s rest e = absurd (cc)
name_ok false true a s rest e = absurd (cc)
name_ok false false a s rest e = (refl, refl, e)

last_ok : (a : Bool) (s t : Section) → cond (not a) (Err Algorithm) (Ok t) ≡ Ok s → (a ≡ true) × (t ≡ s)
last_ok true s t e = (refl, cc)
last_ok false s t e = absurd (cc)

pub name_spelled : (bytes : List ℕ) (s : Section) → name_read bytes ≡ Ok s → Names bytes s
name_spelled bytes s e =
    let rest : Result Section NameFault = cond (not (bytes_eq (algorithm_part bytes) suffix)) (Err Algorithm) (Ok (section_in (section_part bytes))) in
    let top = name_ok (ltb 255 (length bytes)) (not (bytes_eq (take 6 bytes) prefix)) true s (unless_section_fault (section_part bytes) rest) e in
    let sections = unless_section_ok (section_part bytes) rest s top.2 in
    let last = last_ok (bytes_eq (algorithm_part bytes) suffix) s (section_in (section_part bytes)) sections.1 in
    let kept = kept_section (section_part bytes) sections.0 in
    let prefix_is : take 6 bytes ≡ prefix = (bytes_eq-Decides (take 6 bytes) prefix).0 (not-false _ top.1) in
    let suffix_is : algorithm_part bytes ≡ suffix = (bytes_eq-Decides (algorithm_part bytes) suffix).0 last.0 in
    let after : drop 6 bytes ≡ section_part bytes ++ algorithm_part bytes =
    front_split (λ b. not (eqb b 95)) (drop 6 bytes) ∙ ap (λ (xs : List ℕ). section_part bytes ++ xs) (drop-drop (length (section_part bytes)) 6 bytes) in
    let whole : bytes ≡ prefix ++ (section_part bytes ++ suffix) = search rules in
    let spelled : bytes ≡ name_bytes (section_in (section_part bytes)) = search in
    subst (λ (t : Section). Names bytes t) last.1 (record { is_section = kept.0; spelled = spelled })

-- what spells a name is read
modifiers_len : (ns : List ℕ) → length (join_with_byte 43 (map modifier ns)) ≤ 5 * length ns
modifiers_len [] = omega arith
modifiers_len (n ∷ []) = omega arith
modifiers_len (n ∷ m ∷ ns) = omega (arith, modifiers_len (m ∷ ns))

section_few : (s : Section) → IsSection s → length (section_bytes s.base s.places) ≤ 53
section_few s h =
    let places : length s.places + 0 ≤ 9 = places_from-few 0 s.places (sym (are_places-from s.places) ∙ h.places) (omega arith) in
    omega (arith, length-append s.base (join_with_byte 43 (map modifier s.places)), modifiers_len s.places, base_few s.base h.base)

no_underscore : (x : ℕ) → is_section_byte x ≡ true → not (eqb x 95) ≡ true
no_underscore x h = at (eqb x 95) refl where
  at : (b : Bool) → eqb x 95 ≡ b → not b ≡ true
  at true e = let bad : is_section_byte 95 ≡ true = subst (λ (n : ℕ). is_section_byte n ≡ true) (eqb-true x 95 e) h in absurd (cc)
  at false e = refl

part_of : (s : Section) → IsSection s → section_part (name_bytes s) ≡ section_bytes s.base s.places
part_of s h = front_is (λ b. not (eqb b 95)) (section_bytes s.base s.places) 95 (codes "25519_ChaChaPoly_SHA256")
    (all_weaker is_section_byte (λ b. not (eqb b 95)) (section_bytes s.base s.places) no_underscore (section_bytes-all s h)) refl

after_of : (s : Section) → IsSection s → algorithm_part (name_bytes s) ≡ suffix
after_of s h = search (rules, part_of, drop_at)

pub name_every : (bytes : List ℕ) (s : Section) → Names bytes s → name_read bytes ≡ Ok s
name_every bytes s h = ap name_read h.spelled ∙ read where
  short : ltb 255 (length (name_bytes s)) ≡ false
  short = le-ltb 255 (length (name_bytes s))
      (omega (
        arith,
        length-append (prefix ++ section_bytes s.base s.places) suffix,
        length-append prefix (section_bytes s.base s.places),
        section_few s h.is_section,
      ))

  suffix_is : bytes_eq (algorithm_part (name_bytes s)) suffix ≡ true
  suffix_is = (bytes_eq-Decides (algorithm_part (name_bytes s)) suffix).1 (after_of s h.is_section)

  read : name_read (name_bytes s) ≡ Ok s
  read = rw (short, suffix_is, part_of s h.is_section) (section_keeps s (Ok (section_in (section_bytes s.base s.places))) h.is_section
      ∙ ap (λ (t : Section). Ok t) (section_in-spelled s h.is_section))

-- the parts of a name that is read
pub section_is : (bytes after section : List ℕ) (n : ℕ) → after ≡ drop 6 bytes → n ≡ length (take_while (λ b. not (eqb b 95)) after)
    → section ≡ take n after → section ≡ section_part bytes
section_is bytes after section n here e f = search (rules, take-front)

pub algorithm_is : (bytes after algorithm : List ℕ) (n : ℕ) → after ≡ drop 6 bytes → n ≡ length (take_while (λ b. not (eqb b 95)) after)
    → algorithm ≡ drop n after → algorithm ≡ algorithm_part bytes
algorithm_is bytes after algorithm n here e f =
    f ∙ ap (λ (k : ℕ). drop k after) (e ∙ ap (λ (bs : List ℕ). length (take_while (λ b. not (eqb b 95)) bs)) here)
    ∙ ap (λ (bs : List ℕ). drop (length (section_part bytes)) bs) here
    ∙ drop-drop (length (section_part bytes)) 6 bytes

within : (bytes : List ℕ) (rest : Result Section NameFault) → length bytes ≤ 255 → bytes_eq (take 6 bytes) prefix ≡ true
    → cond (ltb 255 (length bytes)) (Err Length) (cond (not (bytes_eq (take 6 bytes) prefix)) (Err Prefix) rest) ≡ rest
within bytes rest short front = rw (le-ltb 255 (length bytes) short, front) refl

pub name_section_err : (bytes section : List ℕ) (fault : NameFault) → length bytes ≤ 255 → bytes_eq (take 6 bytes) prefix ≡ true
    → section ≡ section_part bytes → section_read section ≡ Err fault → name_read bytes ≡ Err fault
name_section_err bytes section fault short front here read = search rules

pub name_section_ok : (bytes section algorithm : List ℕ) (s : Section) → length bytes ≤ 255 → bytes_eq (take 6 bytes) prefix ≡ true
    → section ≡ section_part bytes → algorithm ≡ algorithm_part bytes → section_read section ≡ Ok s
    → name_read bytes ≡ cond (not (bytes_eq algorithm suffix)) (Err Algorithm) (Ok s)
name_section_ok bytes section algorithm s short front here end read = search rules
