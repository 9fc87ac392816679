-- Numbers with commas between them, as they are read one after the other.
use Rattle.std.proofs.Common.{rules, arith, ◌≡◌, ◌∙◌, ◌+◌, ◌-◌, ◌<◌, ap, sym, refl, subst, lit<, ℕ, List, ◌∷◌, ◌++◌, map, codes, length, Bool, true, false, Option, Some, None, []}
use Rattle.std.specs.Prelude.{decimal, if◌then◌else◌}
use Rattle.noise_vectors.proofs.Common.{nat_le, nat_lt, slice_index_or, IfSome, All, join_with_byte, and_parts, ltb-true, decimal_injective, decimal_nonempty, append_assoc, length-append, All-head, All-tail, AreCuts, AreLengths, lengths_word, lacks}
use Rattle.noise_events.specs.Cuts.{are_cuts}
use Rattle.noise_vectors.proofs.WordLemmas.{lacks-decimal, not_lacks}

-- the numbers, each with a comma (44) after it
abbrev pub before : List ℕ → List ℕ
before [] = []
before (n ∷ ns) = decimal n ++ 44 ∷ before ns

pub before-push : (ns : List ℕ) (n : ℕ) → before (ns ++ n ∷ []) ≡ before ns ++ (decimal n ++ 44 ∷ [])
before-push [] n = refl
before-push (m ∷ ns) n = ap (λ (t : List ℕ). decimal m ++ 44 ∷ t) (before-push ns n) ∙ sym (append_assoc (decimal m) (44 ∷ before ns) (decimal n ++ 44 ∷ []))

join-first : (text : List ℕ) (ns : List ℕ) (n : ℕ)
    → join_with_byte 44 (text ∷ map decimal (ns ++ n ∷ [])) ≡ text ++ 44 ∷ join_with_byte 44 (map decimal (ns ++ n ∷ []))
join-first text [] n = refl
join-first text (m ∷ ns) n = refl

join-before : (ns : List ℕ) (n : ℕ) → join_with_byte 44 (map decimal (ns ++ n ∷ [])) ≡ before ns ++ decimal n
join-before [] n = refl
join-before (m ∷ ns) n = search (rules, join-first, append_assoc, (join-before ns n))

lengths_word-push : (ns : List ℕ) (n : ℕ) → lengths_word (ns ++ n ∷ []) ≡ join_with_byte 44 (map decimal (ns ++ n ∷ []))
lengths_word-push [] n = refl
lengths_word-push (m ∷ ns) n = refl

-- the last number has no comma after it
pub lengths_word-last : (ns : List ℕ) (n : ℕ) → lengths_word (ns ++ n ∷ []) ≡ before ns ++ decimal n
lengths_word-last ns n = lengths_word-push ns n ∙ join-before ns n

-- one number more is read
pub before-more : (word rest first more : List ℕ) (ns : List ℕ) (n : ℕ) → word ≡ before ns ++ rest → rest ≡ first ++ 44 ∷ more → first ≡ decimal n
    → word ≡ before (ns ++ n ∷ []) ++ more
before-more word rest first more ns n whole split number = search (rules, append_assoc, before-push)

-- ---- what is still to be read

abbrev pub are_small : ℕ → Type 0
are_small n = n < 65536

-- of all numbers these are done, and the rest is the word of the others
pub record Left (all done rest : List ℕ) : Type 0 where
  pub next : ℕ
  pub others : List ℕ
  pub all_are : all ≡ done ++ next ∷ others
  pub rest_is : rest ≡ lengths_word (next ∷ others)
  pub small : next < 65536
  pub others_small : All (λ n. n < 65536) others

pub Left-start : (n : ℕ) (ns word : List ℕ) → AreLengths (n ∷ ns) → word ≡ lengths_word (n ∷ ns) → Left (n ∷ ns) [] word
Left-start n ns word h e = record {
  next = n;
  others = ns;
  all_are = refl;
  rest_is = e;
  small = All-head are_small n ns h.1;
  others_small = All-tail are_small n ns h.1;
}

-- there is room for the next
pub Left-room : (all done rest : List ℕ) → Left all done rest → AreLengths all → length done < 8
Left-room all done rest l h = search (rules, length-append)

-- what a split at the first comma gives
abbrev pub Splits : List ℕ → List ℕ → List ℕ → Type 0
Splits rest first more = (b h : List ℕ) → lacks 44 b ≡ true → rest ≡ b ++ 44 ∷ h → (first ≡ b) × (more ≡ h)

-- the first of the rest's words is a number, and another one follows
pub record First (all done first more : List ℕ) : Type 0 where
  pub next : ℕ
  pub second : ℕ
  pub others : List ℕ
  pub all_are : all ≡ done ++ next ∷ second ∷ others
  pub first_is : first ≡ decimal next
  pub more_is : more ≡ lengths_word (second ∷ others)
  pub small : next < 65536
  pub others_small : All (λ n. n < 65536) (second ∷ others)

pub lacks-comma : (n : ℕ) → n < 65536 → lacks 44 (decimal n) ≡ true
lacks-comma n h = lacks-decimal 44 n (lit< tt) (omega arith)

first-of : (all done rest first more : List ℕ) (next : ℕ) (others : List ℕ) → all ≡ done ++ next ∷ others → rest ≡ lengths_word (next ∷ others)
    → next < 65536 → All (λ n. n < 65536) others → rest ≡ first ++ 44 ∷ more → Splits rest first more → First all done first more
first-of all done rest first more next [] all_are rest_is small others_small parts every =
    absurd (not_lacks 44 first more (subst (λ (t : List ℕ). lacks 44 t ≡ true) (sym rest_is ∙ parts) (lacks-comma next small)))
first-of all done rest first more next (k ∷ ks) all_are rest_is small others_small parts every =
    let split = every (decimal next) (lengths_word (k ∷ ks)) (lacks-comma next small) rest_is in
    record {
      next = next;
      second = k;
      others = ks;
      all_are = all_are;
      first_is = split.0;
      more_is = split.1;
      small = small;
      others_small = others_small;
    }

pub Left-first : (all done rest first more : List ℕ) → Left all done rest → rest ≡ first ++ 44 ∷ more → Splits rest first more
    → First all done first more
Left-first all done rest first more l parts every = search first-of

same-number : (m n : ℕ) (word : List ℕ) → m < 65536 → n < 65536 → word ≡ decimal m → word ≡ decimal n → m ≡ n
same-number m n word hm hn em en = decimal_injective m n (omega arith) (omega arith) (sym em ∙ en)

-- where the first is read, one number more is done
pub First-step : (all done first more : List ℕ) (n : ℕ) → First all done first more → n < 65536 → first ≡ decimal n
    → Left all (done ++ n ∷ []) more
First-step all done first more n f h e =
    let same : n ≡ f.next = same-number n f.next first h f.small e f.first_is in
    record {
      next = f.second;
      others = f.others;
      all_are = f.all_are ∙ ap (λ (m : ℕ). done ++ m ∷ f.second ∷ f.others) (sym same) ∙ sym (append_assoc done (n ∷ []) (f.second ∷ f.others));
      rest_is = f.more_is;
      small = All-head are_small f.second f.others f.others_small;
      others_small = All-tail are_small f.second f.others f.others_small;
    }

-- without a comma the rest is the last number
pub record Last (all done rest : List ℕ) : Type 0 where
  pub last : ℕ
  pub all_are : all ≡ done ++ last ∷ []
  pub rest_is : rest ≡ decimal last
  pub small : last < 65536

last-of : (all done rest : List ℕ) (next : ℕ) (others : List ℕ) → all ≡ done ++ next ∷ others → rest ≡ lengths_word (next ∷ others)
    → next < 65536 → ((b h : List ℕ) → lacks 44 b ≡ true → rest ≡ b ++ 44 ∷ h → Unit {0} → ⊥) → Last all done rest
last-of all done rest next [] all_are rest_is small none = record { last = next; all_are = all_are; rest_is = rest_is; small = small }
last-of all done rest next (k ∷ ks) all_are rest_is small none = search (rules, lacks-comma)

pub Left-last : (all done rest : List ℕ) → Left all done rest → ((b h : List ℕ) → lacks 44 b ≡ true → rest ≡ b ++ 44 ∷ h → Unit {0} → ⊥)
    → Last all done rest
Left-last all done rest l none = last-of all done rest l.next l.others l.all_are l.rest_is l.small none

pub Last-done : (all done rest : List ℕ) (n : ℕ) → Last all done rest → n < 65536 → rest ≡ decimal n → done ++ n ∷ [] ≡ all
Last-done all done rest n l h e = search (rules, same-number)

-- ---- whole words

-- a hyphen is the word of no numbers
pub hyphen-cuts : (word cuts : List ℕ) → AreLengths cuts → word ≡ codes "-" → word ≡ lengths_word cuts → cuts ≡ []
hyphen-cuts word [] h hyphen e = refl
hyphen-cuts word (n ∷ []) h hyphen e =
    let same : decimal n ≡ codes "-" = sym e ∙ hyphen in
    let small : n < 65536 = All-head are_small n [] h.1 in
    let none = lacks-decimal 45 n (lit< tt) (omega arith) in
    absurd (not_lacks 45 [] [] (subst (λ (t : List ℕ). lacks 45 t ≡ true) same none))
hyphen-cuts word (n ∷ m ∷ ms) h hyphen e =
    let same : decimal n ++ 44 ∷ lengths_word (m ∷ ms) ≡ codes "-" = sym e ∙ hyphen in
    let small : n < 65536 = All-head are_small n (m ∷ ms) h.1 in
    let some : 0 < length (decimal n) = decimal_nonempty n (omega arith) in
    let len : length (decimal n) + length (44 ∷ lengths_word (m ∷ ms)) ≡ 1 =
    sym (length-append (decimal n) (44 ∷ lengths_word (m ∷ ms))) ∙ ap length same in
    absurd (omega arith)

-- any other word is that of the numbers that are read
pub other-cuts : (word read cuts : List ℕ) → ¬ (word ≡ codes "-")
    → ((n : ℕ) (ns : List ℕ) → AreLengths (n ∷ ns) → word ≡ lengths_word (n ∷ ns) → read ≡ n ∷ ns)
    → AreLengths cuts → word ≡ lengths_word cuts → read ≡ cuts
other-cuts word read [] hyphen every h e = absurd (hyphen e)
other-cuts word read (n ∷ ns) hyphen every h e = every n ns h e

pub no-cuts : (word cuts : List ℕ) → ¬ (word ≡ codes "-")
    → ((n : ℕ) (ns : List ℕ) → AreLengths (n ∷ ns) → word ≡ lengths_word (n ∷ ns) → Unit {0} → ⊥)
    → AreLengths cuts → ¬ (word ≡ lengths_word cuts)
no-cuts word [] hyphen none h e = hyphen e
no-cuts word (n ∷ ns) hyphen none h e = none n ns h e tt

-- ---- cuts of lengths

-- what cuts are made of these lengths, whose word it is
pub cuts-word : (made : Option (List ℕ)) (word ns : List ℕ) → made ≡ (if are_cuts ns then Some ns else None) → word ≡ lengths_word ns
    → IfSome made (λ cuts. word ≡ lengths_word cuts)
cuts-word made word ns e is = at (are_cuts ns) refl where
  at : (test : Bool) → are_cuts ns ≡ test → IfSome made (λ cuts. word ≡ lengths_word cuts)
  at true same = rw (e, same) is
  at false same = rw (e, same) tt

-- of right cuts they are made
pub cuts-made : (made : Option (List ℕ)) (ns cuts : List ℕ) → made ≡ (if are_cuts ns then Some ns else None) → ns ≡ cuts → AreCuts cuts
    → made ≡ Some cuts
cuts-made made ns cuts e same h = search rules

-- what is made of such numbers is right
pub cuts-right : (made : Option (List ℕ)) (ns : List ℕ) → made ≡ (if are_cuts ns then Some ns else None) → AreLengths ns → IfSome made AreCuts
cuts-right made ns e h = rw e (at (are_cuts ns) refl) where
  at : (test : Bool) → are_cuts ns ≡ test → IfSome (if test then Some ns else None) AreCuts
  at true holds =
      (h, ltb-true 0 (slice_index_or ns (length ns - 1) 1) (and_parts (nat_le (length ns) 8) (nat_lt 0 (slice_index_or ns (length ns - 1) 1)) holds).1)
  at false over = tt
