-- A pattern section and a protocol name are read exactly if they are spelled so.
use Rattle.std.proofs.Common.{rules, ◌≡◌, ℕ, suc, ◌+◌, ◌≤◌, Bool, true, false, not, cond, List, [], ◌∷◌, ◌++◌, Result, Ok, Err, refl, ap, sym, ◌∙◌, append-nil, map, length, take, drop, take_while, arith}
use Rattle.std.proofs.lemmas.List.{take-append-drop, length-take}
use Rattle.noise_names.proofs.Common.{list_all, join_with_byte, prefix_len, take_min, drop_at, NameFault, Base, Modifier, ModifierOrder, Section, IsSection, is_base_byte, is_base, base_front, after_base, modifier, pieces_of, is_modifier, digit_of, rises, section_bytes, numbers_in, modifiers_read, unless_section_fault, section_in, section_read, join_with_byte-slice_split, and_parts, not-false}
use Rattle.noise_names.proofs.Modifiers.{all_modifiers, pieces_of-modifiers, are_modifiers, digits_rise, same_numbers, places_rise}

-- a front, and what is after it
pub take-front : (test : ℕ → Bool) (bytes : List ℕ) → take (length (take_while test bytes)) bytes ≡ take_while test bytes
take-front test bytes = ap (λ (n : ℕ). take n bytes) (length-take (prefix_len test bytes) bytes) ∙ take_min (prefix_len test bytes) bytes

pub front_split : (test : ℕ → Bool) (bytes : List ℕ) → bytes ≡ take_while test bytes ++ drop (length (take_while test bytes)) bytes
front_split test bytes = search (rules, take-append-drop, take-front)

take_while-yes : (test : ℕ → Bool) (x : ℕ) (xs : List ℕ) → test x ≡ true → take_while test (x ∷ xs) ≡ x ∷ take_while test xs
take_while-yes test x xs h = rw h (ap (λ (n : ℕ). take n (x ∷ xs)) (one_more (prefix_len test xs))) where
  one_more : (n : ℕ) → 1 + n ≡ suc n
  one_more n = omega arith

-- the front of bytes that pass, where what follows begins with none
pub front_is : (test : ℕ → Bool) (front : List ℕ) (b : ℕ) (rest : List ℕ) → list_all test front ≡ true → test b ≡ false
    → take_while test (front ++ b ∷ rest) ≡ front
front_is test [] b rest all stops = rw stops refl
front_is test (x ∷ front) b rest all stops =
    let a : (test x ≡ true) × (list_all test front ≡ true) = and_parts (test x) (list_all test front) all in
    take_while-yes test x (front ++ b ∷ rest) a.0 ∙ ap (λ (xs : List ℕ). x ∷ xs) (front_is test front b rest a.1 stops)

front_all : (test : ℕ → Bool) (front : List ℕ) → list_all test front ≡ true → take_while test front ≡ front
front_all test [] all = refl
front_all test (x ∷ front) all =
    let a : (test x ≡ true) × (list_all test front ≡ true) = and_parts (test x) (list_all test front) all in
    take_while-yes test x front a.0 ∙ ap (λ (xs : List ℕ). x ∷ xs) (front_all test front a.1)

pub all_weaker : (test other : ℕ → Bool) (xs : List ℕ) → ((x : ℕ) → test x ≡ true → other x ≡ true) → list_all test xs ≡ true → list_all other xs ≡ true
all_weaker test other [] each h = refl
all_weaker test other (x ∷ xs) each h =
    let a : (test x ≡ true) × (list_all test xs ≡ true) = and_parts (test x) (list_all test xs) h in
    rw (each x a.0) (all_weaker test other xs each a.1)

-- a base has bytes of a base, and few
pub base_all : (base : List ℕ) → is_base base ≡ true → list_all is_base_byte base ≡ true
base_all [] h = absurd (cc)
base_all (b ∷ bs) h = search rules

pub base_few : (base : List ℕ) → is_base base ≡ true → length base ≤ 8
base_few [] h = absurd (cc)
base_few (b ∷ bs) h = search rules

-- no byte of a base begins modifiers
modifiers_begin : (ns : List ℕ) (base : List ℕ) → list_all is_base_byte base ≡ true → base_front (base ++ join_with_byte 43 (map modifier ns)) ≡ base
modifiers_begin [] base h = rw append-nil (front_all is_base_byte base h)
modifiers_begin (n ∷ []) base h = front_is is_base_byte base 112 (115 ∷ 107 ∷ (48 + n) ∷ []) h refl
modifiers_begin (n ∷ m ∷ ns) base h = front_is is_base_byte base 112 (115 ∷ 107 ∷ (48 + n) ∷ 43 ∷ join_with_byte 43 (map modifier (m ∷ ns))) h refl

-- the result after modifiers that are read
modifiers_ok : {A : Type 0} (m o : Bool) (xs ns : List ℕ) (result : Result A NameFault) → cond m (Err Modifier) (cond o (Err ModifierOrder) (Ok xs)) ≡ Ok ns
    → (cond m (Err Modifier) (cond o (Err ModifierOrder) result) ≡ result) × (xs ≡ ns)
modifiers_ok true o xs ns result e = absurd (cc)
modifiers_ok false true xs ns result e = absurd (cc)
modifiers_ok false false xs ns result e = (refl, cc)

-- a section whose parts are read
pub section_ok : (section base modifiers ns : List ℕ) → base ≡ base_front section → modifiers ≡ after_base section → is_base base ≡ true
    → modifiers_read modifiers ≡ Ok ns → section_read section ≡ Ok (record { base = base; places = ns })
section_ok section base modifiers ns e f h read =
    let base_is : is_base (base_front section) ≡ true = ap is_base (sym e) ∙ h in
    let read_after : modifiers_read (after_base section) ≡ Ok ns = ap modifiers_read (sym f) ∙ read in
    let parts = modifiers_ok (not (list_all is_modifier (pieces_of (after_base section)))) (not (rises (map digit_of (pieces_of (after_base section)))))
    (numbers_in (after_base section)) ns (Ok (section_in section)) read_after in
    rw base_is (parts.0 ∙ same (base_front section) base (numbers_in (after_base section)) ns (sym e) parts.1)
  where
    same : (a b : List ℕ) (xs ys : List ℕ) → a ≡ b → xs ≡ ys
        → (let s : Result Section NameFault = Ok (record { base = a; places = xs }) in
        let t : Result Section NameFault = Ok (record { base = b; places = ys }) in s ≡ t)
    same a b xs ys p q = rw (p, q) refl

pub section_err : (section base modifiers : List ℕ) (fault : NameFault) → base ≡ base_front section → modifiers ≡ after_base section → is_base base ≡ true
    → modifiers_read modifiers ≡ Err fault → section_read section ≡ Err fault
section_err section base modifiers fault e f h read = search rules

-- what a section without a fault is
abbrev pub KeepsSection : List ℕ → Type 0
KeepsSection section =
    (is_base (base_front section) ≡ true) × (list_all is_modifier (pieces_of (after_base section)) ≡ true)
    × (rises (map digit_of (pieces_of (after_base section))) ≡ true)

pub kept_section : (section : List ℕ) → KeepsSection section
    → IsSection (section_in section) × (section ≡ section_bytes (section_in section).base (section_in section).places)
kept_section section h =
    let all = all_modifiers (pieces_of (after_base section)) h.1 in
    let numbers : List ℕ = numbers_in (after_base section) in
    let rising : rises numbers ≡ true = sym (digits_rise numbers) ∙ ap (λ (ps : List (List ℕ)). rises (map digit_of ps)) (sym all.0) ∙ h.2 in
    let joined : after_base section ≡ join_with_byte 43 (map modifier numbers) = sym (join-pieces (after_base section)) ∙ ap (join_with_byte 43) all.0 in (
      record { base = h.0; places = places_rise numbers all.1 ∙ rising },
      front_split is_base_byte section ∙ ap (λ (bs : List ℕ). base_front section ++ bs) joined,
    )
  where
    join-pieces : (modifiers : List ℕ) → join_with_byte 43 (pieces_of modifiers) ≡ modifiers
    join-pieces [] = refl
    join-pieces (b ∷ bs) = join_with_byte-slice_split 43 (b ∷ bs)

unless_ok : {A : Type 0} (b m o : Bool) (result : Result A NameFault) (x : A)
    → cond b (Err Base) (cond m (Err Modifier) (cond o (Err ModifierOrder) result)) ≡ Ok x → (b ≡ false) × (m ≡ false) × (o ≡ false) × (result ≡ Ok x)
unless_ok true m o result x e = absurd (cc)
unless_ok false true o result x e = absurd (cc)
unless_ok false false true result x e = absurd (cc)
unless_ok false false false result x e = (refl, refl, refl, e)

pub unless_section_ok : {A : Type 0} (section : List ℕ) (result : Result A NameFault) (x : A) → unless_section_fault section result ≡ Ok x
    → KeepsSection section × (result ≡ Ok x)
unless_section_ok section result x e =
    let h = unless_ok (not (is_base (base_front section))) (not (list_all is_modifier (pieces_of (after_base section))))
    (not (rises (map digit_of (pieces_of (after_base section))))) result x e in
    ((not-false _ h.0, not-false _ h.1, not-false _ h.2), h.3)

-- a section without a fault spells what is read of it
pub section_read-spelled : (section : List ℕ) (s : Section) → section_read section ≡ Ok s → section ≡ section_bytes s.base s.places
section_read-spelled section s e =
    let h = unless_section_ok section (Ok (section_in section)) s e in
    let same : section_in section ≡ s = cc in
    (kept_section section h.0).1 ∙ ap (λ (t : Section). section_bytes t.base t.places) same

-- the parts of what a section spells
front_of : (s : Section) → IsSection s → base_front (section_bytes s.base s.places) ≡ s.base
front_of s h = modifiers_begin s.places s.base (base_all s.base h.base)

after_of : (s : Section) → IsSection s → after_base (section_bytes s.base s.places) ≡ join_with_byte 43 (map modifier s.places)
after_of s h = drop_at s.base (join_with_byte 43 (map modifier s.places)) _ (sym (ap length (front_of s h)))

-- what spells a section has no fault, and gives the section
pub section_keeps : {A : Type 0} (s : Section) (result : Result A NameFault) → IsSection s
    → unless_section_fault (section_bytes s.base s.places) result ≡ result
section_keeps s result h = search (rules, after_of, pieces_of-modifiers, are_modifiers, digits_rise, front_of)

pub section_in-spelled : (s : Section) → IsSection s → section_in (section_bytes s.base s.places) ≡ s
section_in-spelled s h = search (rules, after_of, pieces_of-modifiers, same_numbers, front_of)

pub section_read-every : (s : Section) → IsSection s → section_read (section_bytes s.base s.places) ≡ Ok s
section_read-every s h = section_keeps s (Ok (section_in (section_bytes s.base s.places))) h ∙ ap (λ (t : Section). Ok t) (section_in-spelled s h)

-- no bytes spell two sections
pub one_section : (s t : Section) → IsSection s → IsSection t → section_bytes s.base s.places ≡ section_bytes t.base t.places → s ≡ t
one_section s t h k e = sym (section_in-spelled s h) ∙ ap section_in e ∙ section_in-spelled t k
