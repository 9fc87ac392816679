-- What is read of a written text.
use Rattle.std.proofs.Common.{rules, ◌≡◌, ◌≢◌, ℕ, ◌+◌, ◌<◌, ◌≤◌, Bool, true, false, not, cond, List, [], ◌∷◌, ◌++◌, refl, ap, sym, ◌∙◌, append_assoc, append-nil, length, length-append, arith, map, subst, get_or, take, drop, take-append-drop, eqb, suc, Some, None, Bor, ◌⊎◌, inl, inr, ◌&&◌, leb, Result, Ok, Err}
use Rattle.std.specs.Cmp.Lexicographic.{pointwise}
use Rattle.noise_names.proofs.Common.{Decides-eqb, nat_tests, strip_prefix_is, length-map, list_any-append, list_all-append, NameFault, Plan, plan_of, plain_of, has_psk, is_section_byte, Section, IsSection, section_bytes, is_base, section_read, IsPattern, Placed, first_beyond, has_few_tokens, is_pre_message, codes, bytes_eq, ⊤, list_all, list_any, Role, Initiator, Responder, Token, E, S, Ee, Es, Se, Ss, Psk, other, is_psk, own_tokens, words, word_of, line, arrow_of, token_line, message_lines, pre_line, pre_lines, Spells, is_lower, and_parts, body_of}
use Rattle.noise_names.specs.Fundamental.{fundamental_of, fundamentals}
use Rattle.noise_names.proofs.Fundamentals.{found_map, fundamentals_plain, plain_messages}
use Rattle.noise_names.proofs.PskTokens.{no_psk_own, own_of_plain}
use Rattle.noise_names.proofs.Sections.{all_weaker, front_is, section_read-every, section_read-spelled}
use Rattle.std.specs.Prelude.{take_while}
use Rattle.std.proofs.Math.Seq.{take-append_seam, drop-append_seam}
use Rattle.std.proofs.lemmas.Option.{MatchOption-at_some}
use Rattle.noise_names.specs.Placing.{none-beyond, placed-once}

own-first : (u : Token) (us : List Token) → own_tokens (u ∷ us) ≡ own_tokens (u ∷ []) ++ own_tokens us
own-first u us = at (not (is_psk u)) where
  at : (b : Bool) → cond b (u ∷ own_tokens us) (own_tokens us) ≡ cond b (u ∷ []) [] ++ own_tokens us
  at true = refl
  at false = refl

two_heads : (list xs ys : List ℕ) (x y : ℕ) → list ≡ x ∷ xs → list ≡ y ∷ ys → x < y → ⊥
two_heads list xs ys x y e f h = search rules

-- what `strip_prefix` says
pub stripped : (s p : List ℕ) (x : Bor (List ℕ))
    → (pointwise eqb (take (length p) s) p ≡ true) × (x.now ≡ drop (length p) s) × (length x.now + length p ≡ length s) → s ≡ p ++ x.now
stripped s p x h = strip_prefix_is Decides-eqb s p (Some x) h

pub not-stripped : (s p : List ℕ) → pointwise eqb (take (length p) s) p ≡ false → (rest : List ℕ) → s ≢ p ++ rest
not-stripped s p h = strip_prefix_is {A = ℕ} Decides-eqb s p None h

-- what follows the first word of a list
abbrev after_word : List Token → List ℕ → List ℕ
after_word [] rest = rest
after_word (v ∷ vs) rest = 44 ∷ 32 ∷ (words (v ∷ vs) ++ rest)

word-first : (u : Token) (us : List Token) (rest : List ℕ) → words (u ∷ us) ++ rest ≡ word_of u ++ after_word us rest
word-first u [] rest = refl
word-first u (v ∷ vs) rest = append_assoc (word_of u ++ codes ", ") (words (v ∷ vs)) rest ∙ append_assoc (word_of u) (codes ", ") (words (v ∷ vs) ++ rest)

-- a list of words of which some tokens were read
pub record IsLeft (kept : List Token) (left : List ℕ) (own : List Token) (more : List ℕ) : Type 0 where
  pub first : Token
  pub others : List Token
  pub tokens : own ≡ kept ++ own_tokens (first ∷ others)
  pub spelled : left ≡ words (first ∷ others) ++ 10 ∷ more

-- what a token and what is after it are in such a list
abbrev pub IsFirstWord : List ℕ → Token → List ℕ → Type 0
IsFirstWord left token beyond = (t : Token) (b : ℕ) (more : List ℕ) → is_lower b ≡ false → left ≡ word_of t ++ b ∷ more → (token ≡ t) × (beyond ≡ b ∷ more)

-- the token was kept
abbrev pub IsKept : List Token → Token → List Token → Type 0
IsKept kept token kept' = length kept + length (own_tokens (token ∷ [])) ≤ 8 → kept' ≡ kept ++ own_tokens (token ∷ [])

kept_is : (kept kept' own : List Token) (token u : Token) (us : List Token) → token ≡ u → own ≡ kept ++ own_tokens (u ∷ us) → length own ≤ 8
    → IsKept kept token kept' → (kept' ≡ kept ++ own_tokens (u ∷ [])) × (own ≡ kept' ++ own_tokens us)
kept_is kept kept' own token u us same e few k =
    let all : own ≡ kept ++ (own_tokens (u ∷ []) ++ own_tokens us) = e ∙ ap (λ (ts : List Token). kept ++ ts) (own-first u us) in
    let count : length own ≡ length kept + (length (own_tokens (u ∷ [])) + length (own_tokens us)) = simp length-append at (ap length all) in
    let one : length (own_tokens (token ∷ [])) ≡ length (own_tokens (u ∷ [])) = ap (λ (t : Token). length (own_tokens (t ∷ []))) same in
    let is : kept' ≡ kept ++ own_tokens (u ∷ []) = k (omega arith) ∙ ap (λ (t : Token). kept ++ own_tokens (t ∷ [])) same in
    (is, all ∙ sym (append_assoc kept (own_tokens (u ∷ [])) (own_tokens us)) ∙ ap (λ (ts : List Token). ts ++ own_tokens us) (sym is))

pub left-more : (kept kept' own : List Token) (left beyond rest more : List ℕ) (token : Token) → IsLeft kept left own more → length own ≤ 8
    → IsFirstWord left token beyond → IsKept kept token kept' → beyond ≡ codes ", " ++ rest → IsLeft kept' rest own more
left-more kept kept' own left beyond rest more token l few w k e = at l.first l.others l.tokens l.spelled where
  at : (u : Token) (us : List Token) → own ≡ kept ++ own_tokens (u ∷ us) → left ≡ words (u ∷ us) ++ 10 ∷ more → IsLeft kept' rest own more
  at u [] o s =
      let is : (token ≡ u) × (beyond ≡ 10 ∷ more) = w u 10 more refl s in
      absurd (two_heads beyond more (32 ∷ rest) 10 44 is.1 e (omega arith))
  at u (v ∷ vs) o s =
      let is : (token ≡ u) × (beyond ≡ 44 ∷ 32 ∷ (words (v ∷ vs) ++ 10 ∷ more)) =
      w u 44 (32 ∷ (words (v ∷ vs) ++ 10 ∷ more)) refl (s ∙ word-first u (v ∷ vs) (10 ∷ more)) in
      let and_parts : 44 ∷ 32 ∷ rest ≡ 44 ∷ 32 ∷ (words (v ∷ vs) ++ 10 ∷ more) = sym e ∙ is.1 in
      record { first = v; others = vs; tokens = (kept_is kept kept' own token u (v ∷ vs) is.0 o few k).1; spelled = cc }

pub left-end : (kept kept' own : List Token) (left beyond more : List ℕ) (token : Token) → IsLeft kept left own more → length own ≤ 8
    → IsFirstWord left token beyond → IsKept kept token kept' → ((rest : List ℕ) → beyond ≢ codes ", " ++ rest) → (kept' ≡ own) × (beyond ≡ 10 ∷ more)
left-end kept kept' own left beyond more token l few w k e = at l.first l.others l.tokens l.spelled where
  at : (u : Token) (us : List Token) → own ≡ kept ++ own_tokens (u ∷ us) → left ≡ words (u ∷ us) ++ 10 ∷ more → (kept' ≡ own) × (beyond ≡ 10 ∷ more)
  at u [] o s =
      let is : (token ≡ u) × (beyond ≡ 10 ∷ more) = w u 10 more refl s in
      ((kept_is kept kept' own token u [] is.0 o few k).0 ∙ sym o, is.1)
  at u (v ∷ vs) o s =
      let is : (token ≡ u) × (beyond ≡ 44 ∷ 32 ∷ (words (v ∷ vs) ++ 10 ∷ more)) =
      w u 44 (32 ∷ (words (v ∷ vs) ++ 10 ∷ more)) refl (s ∙ word-first u (v ∷ vs) (10 ∷ more)) in
      absurd (e (words (v ∷ vs) ++ 10 ∷ more) is.1)

pub left-word : (kept own : List Token) (left more : List ℕ) → IsLeft kept left own more
    → ((t : Token) (b : ℕ) (more : List ℕ) → is_lower b ≡ false → left ≡ word_of t ++ b ∷ more → ⊥) → ⊥
left-word kept own left more l w = at l.first l.others l.spelled where
  at : (u : Token) (us : List Token) → left ≡ words (u ∷ us) ++ 10 ∷ more → ⊥
  at u [] s = w u 10 more refl s
  at u (v ∷ vs) s = w u 44 (32 ∷ (words (v ∷ vs) ++ 10 ∷ more)) refl (s ∙ word-first u (v ∷ vs) (10 ∷ more))

pub line-after : (beyond rest more : List ℕ) → beyond ≡ 10 ∷ more → beyond ≡ codes "\n" ++ rest → rest ≡ more
line-after beyond rest more e f = let and_parts : 10 ∷ more ≡ 10 ∷ rest = sym e ∙ f in cc

-- what reading a line of a party answers: its tokens and what is after it, or nothing
abbrev pub There : Role → List ℕ → List Token → List ℕ → Type 0
There role lines tokens rest = (t : Token) (ts : List Token) (more : List ℕ) → length (own_tokens (t ∷ ts)) ≤ 8 → lines ≡ token_line role (t ∷ ts) ++ more
    → (tokens ≡ own_tokens (t ∷ ts)) × (rest ≡ more)

abbrev pub Absent : Role → List ℕ → List Token → List ℕ → Type 0
Absent role lines tokens rest = ((x : List ℕ) → lines ≡ codes "  " ++ (arrow_of role ++ x) → ⊥) → (tokens ≡ []) × (rest ≡ lines)

pre-read : (role : Role) (ts tokens : List Token) (lines rest more : List ℕ) → There role lines tokens rest → Absent role lines tokens rest
    → is_pre_message ts ≡ true → lines ≡ pre_line role ts ++ more → ((x : List ℕ) → more ≡ codes "  " ++ (arrow_of role ++ x) → ⊥)
    → (tokens ≡ ts) × (rest ≡ more)
pre-read role [] tokens lines rest more there absent pre e other_line = let a = absent (λ x f. other_line x (sym e ∙ f)) in (a.0, a.1 ∙ e)
pre-read role (t ∷ ts) tokens lines rest more there absent pre e other_line = search rules

third_differs : (xs ys : List ℕ) (a b : ℕ) → get_or xs 2 0 ≡ a → get_or ys 2 0 ≡ b → xs ≡ ys → (a ≡ b → ⊥) → ⊥
third_differs xs ys a b p q e differ = differ (sym p ∙ ap (λ (k : List ℕ). get_or k 2 0) e ∙ q)

-- the lines after pre-messages are no lines of the initiator

after-first : (r : List Token) (rest x : List ℕ) → pre_line Responder r ++ (codes "  ...\n" ++ rest) ≡ codes "  " ++ (arrow_of Initiator ++ x) → ⊥
after-first [] rest x e = third_differs _ _ 46 45 refl refl e (λ h. omega arith)
after-first (u ∷ us) rest x e = third_differs _ _ 60 45 refl refl e (λ h. omega arith)

-- the lines of messages do not begin with the line that ends the pre-messages
messages-first : (role : Role) (ms : List (List Token)) (x : List ℕ) → message_lines role ms ≡ codes "  ...\n" ++ x → ⊥
messages-first role [] x e = cc
messages-first Initiator (m ∷ ms) x e = third_differs _ _ 45 46 refl refl e (λ h. omega arith)
messages-first Responder (m ∷ ms) x e = third_differs _ _ 60 46 refl refl e (λ h. omega arith)

few : (m : List Token) → has_few_tokens m ≡ true → (1 ≤ length (own_tokens m)) × (length (own_tokens m) ≤ 8)
few m h = search rules

-- a line of messages is passed
message-read : (role : Role) (ms : List (List Token)) (tokens : List Token) (lines rest : List ℕ) → There role lines tokens rest
    → Absent role lines tokens rest → list_all has_few_tokens ms ≡ true → lines ≡ message_lines role ms
    → (more : List (List Token)) × (rest ≡ message_lines (other role) more) × (list_all has_few_tokens more ≡ true)
message-read role [] tokens lines rest there absent sizes e = search rules
message-read role ([] ∷ ms) tokens lines rest there absent sizes e = absurd (let bad : false ≡ true = sizes in cc)
message-read role ((t ∷ ts) ∷ ms) tokens lines rest there absent sizes e = search (rules, and_parts)

-- what is read of both pre-messages
pub record ArePreMessages (i r first second : List Token) (lines rest : List ℕ) (ms : List (List Token)) : Type 0 where
  pub first_is : first ≡ i
  pub second_is : second ≡ r
  pub rest_is : rest ≡ codes "  ...\n" ++ message_lines Initiator ms

pub record AreNone (i r : List Token) (lines rest : List ℕ) (ms : List (List Token)) : Type 0 where
  pub no_first : i ≡ []
  pub no_second : r ≡ []
  pub lines_are : lines ≡ message_lines Initiator ms
  pub no_dots : (x : List ℕ) → rest ≢ codes "  ...\n" ++ x

pre-there : (i r first second : List Token) (lines beyond rest : List ℕ) (ms : List (List Token)) → There Initiator lines first beyond
    → Absent Initiator lines first beyond → There Responder beyond second rest → Absent Responder beyond second rest → is_pre_message i ≡ true
    → is_pre_message r ≡ true → lines ≡ pre_line Initiator i ++ (pre_line Responder r ++ (codes "  ...\n" ++ message_lines Initiator ms))
    → ArePreMessages i r first second lines rest ms
pre-there i r first second lines beyond rest ms there absent there2 absent2 pi pr e =
    let a = pre-read Initiator i first lines beyond (pre_line Responder r ++ (codes "  ...\n" ++ message_lines Initiator ms)) there absent pi e
    (after-first r (message_lines Initiator ms)) in
    let b = pre-read Responder r second beyond rest (codes "  ...\n" ++ message_lines Initiator ms) there2 absent2 pr a.1
    (λ x f. third_differs _ _ 46 60 refl refl f (λ h. omega arith)) in
    record { first_is = a.0; second_is = b.0; rest_is = b.1 }

pub pre-both : (i r first second : List Token) (lines beyond rest : List ℕ) (ms : List (List Token)) → There Initiator lines first beyond
    → Absent Initiator lines first beyond → There Responder beyond second rest → Absent Responder beyond second rest → is_pre_message i ≡ true
    → is_pre_message r ≡ true → list_all has_few_tokens ms ≡ true → lines ≡ pre_lines i r ++ message_lines Initiator ms
    → ArePreMessages i r first second lines rest ms ⊎ AreNone i r lines rest ms
pre-both [] [] first second lines beyond rest ms there absent there2 absent2 pi pr sizes e =
    let a = message-read Initiator ms first lines beyond there absent sizes e in
    let b = message-read Responder a.0 second beyond rest there2 absent2 a.2 a.1 in
    inr (record { no_first = refl; no_second = refl; lines_are = e; no_dots = λ x f. messages-first Initiator b.0 x (sym b.1 ∙ f) })
pre-both [] (u ∷ us) first second lines beyond rest ms there absent there2 absent2 pi pr sizes e = search (rules, append_assoc)
pre-both (t ∷ ts) r first second lines beyond rest ms there absent there2 absent2 pi pr sizes e =
    inl (pre-there (t ∷ ts) r first second lines beyond rest ms there absent there2 absent2 pi pr (e
    ∙ append_assoc (pre_line Initiator (t ∷ ts) ++ pre_line Responder r) (codes "  ...\n") (message_lines Initiator ms)
    ∙ append_assoc (pre_line Initiator (t ∷ ts)) (pre_line Responder r) (codes "  ...\n" ++ message_lines Initiator ms)))

pub dots-stripped : (rest x y : List ℕ) → rest ≡ codes "  ...\n" ++ x → rest ≡ codes "  ...\n" ++ y → x ≡ y
dots-stripped rest x y e f = let and_parts : codes "  ...\n" ++ x ≡ codes "  ...\n" ++ y = sym e ∙ f in cc

-- messages of which some were read
pub record AreLeft (kept : List (List Token)) (role : Role) (left : List ℕ) (own : List (List Token)) : Type 0 where
  pub more : List (List Token)
  pub messages : own ≡ kept ++ map own_tokens more
  pub sizes : list_all has_few_tokens more ≡ true
  pub spelled : left ≡ message_lines role more

-- what reading one more line gives
abbrev pub IsLine : Role → List ℕ → List Token → List ℕ → Type 0
IsLine role left tokens rest = (t : Token) (ts : List Token) (more : List ℕ) → length (own_tokens (t ∷ ts)) ≤ 8 → left ≡ token_line role (t ∷ ts) ++ more
    → (tokens ≡ own_tokens (t ∷ ts)) × (rest ≡ more)

pub record IsNext (kept : List (List Token)) (role : Role) (tokens : List Token) (rest : List ℕ) (own : List (List Token)) : Type 0 where
  pub some : 1 ≤ length tokens
  pub room : length kept < length own
  pub after : AreLeft (kept ++ tokens ∷ []) (other role) rest own

pub next-line : (kept own : List (List Token)) (role : Role) (left rest : List ℕ) (tokens : List Token) → AreLeft kept role left own
    → length rest < length left → IsLine role left tokens rest → IsNext kept role tokens rest own
next-line kept own role left rest tokens l shorter line = at l.more l.messages l.sizes l.spelled where
  at : (more : List (List Token)) → own ≡ kept ++ map own_tokens more → list_all has_few_tokens more ≡ true → left ≡ message_lines role more
      → IsNext kept role tokens rest own
  at [] o z s = absurd (let none : length left ≡ 0 = ap length s in omega arith)
  at ([] ∷ ms) o z s = absurd (let bad : false ≡ true = z in cc)
  at ((t ∷ ts) ∷ ms) o z s =
      let a = and_parts (has_few_tokens (t ∷ ts)) (list_all has_few_tokens ms) z in
      let b = few (t ∷ ts) a.0 in
      let c = line t ts (message_lines (other role) ms) b.1 s in
      let count : length own ≡ length kept + suc (length (map own_tokens ms)) = simp length-append at (ap length o) in
      record {
        some = rw (c.0) b.0;
        room = omega arith;
        after = record {
          more = ms;
          messages = search (rules, append_assoc);
          sizes = a.1;
          spelled = c.1;
        };
      }

pub last-line : (kept own : List (List Token)) (role : Role) (left : List ℕ) → AreLeft kept role left own
    → ((t : Token) (ts : List Token) (more : List ℕ) → length (own_tokens (t ∷ ts)) ≤ 8 → left ≡ token_line role (t ∷ ts) ++ more → ⊥) → kept ≡ own
last-line kept own role left l none = at l.more l.messages l.sizes l.spelled where
  at : (more : List (List Token)) → own ≡ kept ++ map own_tokens more → list_all has_few_tokens more ≡ true → left ≡ message_lines role more → kept ≡ own
  at [] o z s = sym (o ∙ append-nil kept)
  at ([] ∷ ms) o z s = absurd (let bad : false ≡ true = z in cc)
  at ((t ∷ ts) ∷ ms) o z s =
      absurd (none t ts (message_lines (other role) ms) (few (t ∷ ts) (and_parts (has_few_tokens (t ∷ ts)) (list_all has_few_tokens ms) z).0).1 s)

-- one message more
pub plain-push : (kept : List (List Token)) (m : List Token) → list_any (λ tokens. list_any is_psk tokens) kept ≡ false → list_any is_psk m ≡ false
    → list_any (λ tokens. list_any is_psk tokens) (kept ++ m ∷ []) ≡ false
plain-push kept m a b = list_any-append (λ tokens. list_any is_psk tokens) kept (m ∷ []) ∙ rw (a, b) refl

pub sizes-push : (kept : List (List Token)) (m : List Token) → list_all has_few_tokens kept ≡ true → list_any is_psk m ≡ false → 1 ≤ length m → length m ≤ 8
    → list_all has_few_tokens (kept ++ m ∷ []) ≡ true
sizes-push kept m a b low high = search (rules, no_psk_own, list_all-append)

pub length-own : (ms : List (List Token)) → length (map own_tokens ms) ≡ length ms
length-own ms = length-map ms own_tokens

-- a heading
pub heading-parts : (text section beyond front back : List ℕ) (n : ℕ) → list_all is_section_byte section ≡ true → text ≡ (section ++ codes ":") ++ beyond
    → n ≡ length (take_while (λ b. not (eqb b 58)) text) → front ≡ take n text → back ≡ drop n text → (front ≡ section) × (back ≡ codes ":" ++ beyond)
heading-parts text section beyond front back n all e n_is f b =
    let test : ℕ → Bool = λ c. not (eqb c 58) in
    let whole : text ≡ section ++ (58 ∷ beyond) = e ∙ append_assoc section (codes ":") beyond in
    let other_bytes : list_all test section ≡ true = all_weaker is_section_byte test section no_colon all in
    let front_part : take_while test text ≡ section = ap (take_while test) whole ∙ front_is test section 58 beyond other_bytes refl in
    let n_is_length : n ≡ length section = n_is ∙ ap length front_part in (
      f ∙ rw (n_is_length, whole) (take-append_seam section (58 ∷ beyond)),
      b ∙ rw (n_is_length, whole) (drop-append_seam section (58 ∷ beyond)),
    )
  where
    no_colon : (x : ℕ) → is_section_byte x ≡ true → not (eqb x 58) ≡ true
    no_colon x h = grind (arith, nat_tests)

pub heading-rest : (back beyond rest : List ℕ) → back ≡ codes ":" ++ beyond → back ≡ codes ":" ++ rest → rest ≡ beyond
heading-rest back beyond rest e f = let same : codes ":" ++ beyond ≡ codes ":" ++ rest = sym e ∙ f in cc

-- a heading that is read is that of the section
pub heading-spelled : (text front back after : List ℕ) (n : ℕ) (s : Section) → front ≡ take n text → back ≡ drop n text → back ≡ codes ":" ++ after
    → section_read front ≡ Ok s → text ≡ (section_bytes s.base s.places ++ codes ":") ++ after
heading-spelled text front back after n s f b e read =
    let spelled : front ≡ section_bytes s.base s.places = section_read-spelled front s read in
    sym (take-append-drop n text) ∙ ap (λ (x : List ℕ). x ++ drop n text) (sym f ∙ spelled)
    ∙ ap (λ (x : List ℕ). section_bytes s.base s.places ++ x) (sym b ∙ e)
    ∙ sym (append_assoc (section_bytes s.base s.places) (codes ":") after)

-- the bytes of a section give it back
pub section-of : (s : Section) (front : List ℕ) (read : Result Section NameFault) → IsSection s → front ≡ section_bytes s.base s.places
    → read ≡ section_read front → read ≡ Ok s
section-of s front read h e r = r ∙ ap section_read e ∙ section_read-every s h

pub within-eight : (n : ℕ) → 1 ≤ n → n ≤ 8 → leb 1 n && leb n 8 ≡ true
within-eight n low high = search rules

-- the pattern of these parts, whose base is no fundamental pattern's
pub plain-pattern : (base : List ℕ) (i r : List Token) (ms : List (List Token)) → is_base base ≡ true → fundamental_of base ≡ None → is_pre_message i ≡ true
    → is_pre_message r ≡ true → 1 ≤ length ms → length ms ≤ 8 → list_all has_few_tokens ms ≡ true → list_any (λ tokens. list_any is_psk tokens) ms ≡ false
    → IsPattern (record { base = base; places = []; initiator = i; responder = r; messages = ms })
plain-pattern base i r ms b unknown pi pr low high sizes plain = record {
  base = b;
  places = refl;
  initiator = pi;
  responder = pr;
  count = within-eight (length ms) low high;
  sizes = sizes;
  psks = record { tokens = plain_messages 1 ms (own_of_plain ms plain); in_range = refl };
  known = rw unknown tt;
}

-- a fundamental pattern is plain, and is that of each pattern of its base
pub known-plain : (base : List ℕ) (f : Plan) → fundamental_of base ≡ Some f → has_psk f ≡ false
unfolding fundamental_of
known-plain base f found =
    let plain : plain_of f ≡ f = found_map (λ q. bytes_eq q.base base) plain_of (λ q. q) fundamentals f found fundamentals_plain in
    subst (λ (q : Plan). has_psk q ≡ false) plain (no_psk f.messages)
  where
    none : (ts : List Token) → list_any is_psk (own_tokens ts) ≡ false
    none [] = refl
    none (E ∷ ts) = none ts
    none (S ∷ ts) = none ts
    none (Ee ∷ ts) = none ts
    none (Es ∷ ts) = none ts
    none (Se ∷ ts) = none ts
    none (Ss ∷ ts) = none ts
    none (Psk ∷ ts) = none ts

    no_psk : (ms : List (List Token)) → list_any (λ tokens. list_any is_psk tokens) (map own_tokens ms) ≡ false
    no_psk [] = refl
    no_psk (m ∷ ms) = rw (none m) (no_psk ms)

pub known-same : (p f : Plan) (base : List ℕ) → IsPattern p → p.base ≡ base → fundamental_of base ≡ Some f → f ≡ plain_of p
known-same p f base h same found = sym (MatchOption-at_some ⊤ (λ g. plain_of p ≡ g) f (ap fundamental_of same ∙ found) h.known)

-- a pattern has psk tokens at its places
placed-itself : (p plain : Plan) (places : List ℕ) → IsPattern p → plain ≡ plain_of p → places ≡ p.places → Placed plain places p
placed-itself p plain places h is places_is = search rules

pub placed-same : (p q plain : Plan) (places : List ℕ) → IsPattern p → plain ≡ plain_of p → places ≡ p.places → Placed plain places q → q ≡ p
placed-same p q plain places h is places_is placed = placed-once plain places q p placed (placed-itself p plain places h is places_is)

pub within-places : (p plain : Plan) (places : List ℕ) (n : ℕ) → IsPattern p → plain ≡ plain_of p → places ≡ p.places → first_beyond plain places ≡ Some n → ⊥
within-places p plain places n h is places_is e = none-beyond plain places p n (placed-itself p plain places h is places_is) e

pub plan-same : (b c : List ℕ) (ps qs : List ℕ) (i j r s : List Token) (ms ks : List (List Token)) → b ≡ c → ps ≡ qs → i ≡ j → r ≡ s → ms ≡ ks
    → plan_of b ps i r ms ≡ plan_of c qs j s ks
plan-same b c ps qs i j r s ms ks e f g h k = cc

pub ok-same : (r : Result Section NameFault) (x y : Section) → r ≡ Ok x → r ≡ Ok y → x ≡ y
ok-same r x y e f = let same : Ok x ≡ r = sym e in cc

pub ok-not-err : (r : Result Section NameFault) (x : NameFault) (y : Section) → r ≡ Err x → r ≡ Ok y → ⊥
ok-not-err r x y e f = absurd (cc)

pub equal_from_test : (b : Bool) (n k : ℕ) → b ≡ eqb n k → b ≡ true → n ≡ k
equal_from_test b n k e t = let same : eqb n k ≡ true = sym e ∙ t in grind (arith, nat_tests)

pub differ_from_test : (b : Bool) (n k : ℕ) → b ≡ eqb n k → b ≡ false → n ≢ k
differ_from_test b n k e t = let same : eqb n k ≡ false = sym e ∙ t in grind (arith, nat_tests)

-- the parts of a text
pub spelled-parts : (text : List ℕ) (p : Plan) → Spells text p → text ≡ (section_bytes p.base p.places ++ codes ":") ++ 10 ∷ body_of p
spelled-parts text p h = search (rules, append_assoc)

pub pattern-section : (p : Plan) → IsPattern p → IsSection (record { base = p.base; places = p.places })
pattern-section p h = record { base = h.base; places = h.places }

pub none-not-some : (x : Plan) → None ≡ Some x → ⊥
none-not-some x e = absurd (cc)

pub true-not-false : (b : Bool) → b ≡ true → b ≡ false → ⊥
true-not-false b e f = absurd (let bad : true ≡ false = sym e ∙ f in cc)

pub counted : (p : Plan) → IsPattern p → (1 ≤ length p.messages) × (length p.messages ≤ 8)
counted p h = search rules
