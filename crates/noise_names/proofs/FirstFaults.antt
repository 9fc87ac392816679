-- The first fault of a text, from what was judged of its lines.
use Rattle.std.proofs.Common.{rules, ◌≡◌, ◌≢◌, ◌⊎◌, ◌↔◌, ℕ, ◌+◌, Bool, true, false, ◌&&◌, not, leb, eqb, List, [], ◌∷◌, ◌++◌, refl, ap, sym, ◌∙◌, cond, append_assoc, append-nil, length, arith, inl, inr, subst}
use Rattle.std.specs.Prelude.{IsTrue}
use Rattle.noise_names.proofs.Common.{codes, list_all, nat_tests, TextFaultKind, Role, Initiator, Responder, Token, IsLineBefore, IsNextOf, IsWrong, RightLines, Matches, right_lines, Section, IsSection, section_bytes, line, message_lines, pre_line, pre_lines, words, BeginsRight, IsAfter, IsLike, IsTextFault, IsTextFaultAt, IsWrongLine, arrow_then, body_of, first_line, has_dots, heading_of, line_feeds, nil_from_length}
use Rattle.noise_names.specs.declared.text.fault.Judged.{Judged}
use Rattle.noise_names.specs.declared.faults.TextFault.{TextFault}
use Rattle.noise_names.proofs.Judging.{AreRight, ahead-lines}
use Rattle.noise_names.proofs.Lines.{dots-line, is_other, take-while-all}
use Rattle.noise_names.proofs.RightTexts.{IsExtended, extended, whole}
use Rattle.noise_names.proofs.Rows.{no_feed-row, tokens_of}
use Rattle.noise_names.proofs.WrongLines.{excluded}
use Rattle.noise_names.specs.FaultLines.{feeds-append}
use Rattle.noise_names.specs.declared.faults.TextFaultKind.TheVariants as kinds

-- ---- lines before the line after the pre-messages

dots-pre : (party : Role) (tokens : List Token) (after : List ℕ) → has_dots (pre_line party tokens ++ after) ≡ has_dots after
dots-pre party [] after = refl
dots-pre Initiator (t ∷ ts) after = dots-line (arrow_then Initiator (words (t ∷ ts))) after (no_feed-row (tokens_of Initiator (t ∷ ts)))
dots-pre Responder (t ∷ ts) after = dots-line (arrow_then Responder (words (t ∷ ts))) after (no_feed-row (tokens_of Responder (t ∷ ts)))

dots-ahead : (s : RightLines) (after : List ℕ) → s.ahead ≡ true → has_dots (right_lines s ++ after) ≡ has_dots after
dots-ahead s after h =
    ap (λ (x : List ℕ). has_dots (x ++ after)) (ahead-lines s h)
    ∙ ap has_dots (append_assoc (pre_line Initiator s.initiator) (pre_line Responder s.responder) after)
    ∙ dots-pre Initiator s.initiator (pre_line Responder s.responder ++ after) ∙ dots-pre Responder s.responder after

dots-none : (s : RightLines) → s.ahead ≡ true → has_dots (right_lines s) ≡ false
dots-none s h = ap has_dots (sym (append-nil (right_lines s))) ∙ dots-ahead s [] h

dots-left : (places lines rest : List ℕ) (number : ℕ) (j : Judged) (r : AreRight places lines rest number j) → r.passed.ahead ≡ true → has_dots rest ≡ true
dots-left places lines rest number j r h = sym (dots-ahead r.passed rest h) ∙ ap has_dots (sym r.lines_are) ∙ r.are.form.1 (inl h)

-- ---- a right pattern that begins so

abbrev text_with : Section → List ℕ → List ℕ
text_with s lines = line (heading_of s) ++ lines

like-lines : (places lines body : List ℕ) (dotted : Bool) (s : RightLines) (x : IsExtended places dotted s) → dotted ≡ has_dots lines → lines ≡ body
    → IsLike places body x.p
like-lines places lines body dotted s x d e = search rules

abbrev begins-so : (s : Section) (lines rest : List ℕ) (number : ℕ) (j : Judged) (passed : RightLines) → IsSection s → (r : AreRight s.places lines rest number j)
    → (x : IsExtended s.places (has_dots lines) passed) → (more : List ℕ) × (body_of x.p ≡ right_lines r.passed ++ more)
    → BeginsRight (text_with s lines) (right_lines r.passed) rest
begins-so s lines rest number j passed h r x begun = record {
  heading = s;
  is_section = h;
  text_is = ap (λ (y : List ℕ). line (heading_of s) ++ y) r.lines_are;
  ended = r.ended;
  p = x.p;
  like = like-lines s.places lines (right_lines r.passed ++ rest) (has_dots lines) passed x refl r.lines_are;
  begun = begun;
}

abbrev begins-right : (s : Section) (lines rest : List ℕ) (number : ℕ) (j : Judged) → IsSection s → (r : AreRight s.places lines rest number j)
    → IsExtended s.places (has_dots lines) r.passed → BeginsRight (text_with s lines) (right_lines r.passed) rest
begins-right s lines rest number j h r x = begins-so s lines rest number j r.passed h r x x.begun

at-message : (places : List ℕ) (dotted : Bool) (s : RightLines) (x : IsExtended places dotted s) → s.ahead ≡ false → IsAfter x.p s.messages (right_lines s)
at-message places dotted s x h = search rules

-- ---- a wrong line

abbrev wrong-line : (s : Section) (lines rest : List ℕ) (number : ℕ) (j : Judged) (kind : TextFaultKind) → IsSection s
    → (r : AreRight s.places lines rest number j) → IsExtended s.places (has_dots lines) r.passed
    → rest ≢ [] → IsWrong s.places r.passed (first_line rest) kind → IsWrongLine (text_with s lines) number
wrong-line s lines rest number j kind h r x some w = record {
  front = right_lines r.passed;
  left = rest;
  some = some;
  it = begins-right s lines rest number j h r x;
  counted = r.counted;
  wrong = λ q more like. excluded s.places (has_dots lines) r.passed (first_line rest) kind r.are w (take-while-all is_other rest) q like.is_pattern
      like.places_are
      (subst (λ (y : List ℕ). pre_lines q.initiator q.responder ≢ [] ↔ IsTrue (has_dots y)) (sym r.lines_are) like.pre_messages) more;
}

pub fault-in-line : (s : Section) (lines rest : List ℕ) (number : ℕ) (j : Judged) (kind : TextFaultKind) → IsSection s
    → (r : AreRight s.places lines rest number j) → IsExtended s.places (has_dots lines) r.passed
    → rest ≢ [] → IsWrong s.places r.passed (first_line rest) kind → IsTextFaultAt (text_with s lines) number kind
fault-in-line s lines rest number j kinds.Arrow h r x some w = (wrong-line s lines rest number j kinds.Arrow h r x some w, w)
fault-in-line s lines rest number j kinds.Token h r x some w = (wrong-line s lines rest number j kinds.Token h r x some w, w)
fault-in-line s lines rest number j kinds.PreMessage h r x some (inl w) =
    (wrong-line s lines rest number j kinds.PreMessage h r x some (inl w), inl w.0)
fault-in-line s lines rest number j kinds.PreMessage h r x some (inr (ahead, (party, tokens, are, w))) = (
  wrong-line s lines rest number j kinds.PreMessage h r x some (inr (ahead, (party, tokens, are, w))),
  inr ((dots-none r.passed ahead, dots-left s.places lines rest number j r ahead), (party, tokens, are)),
)
fault-in-line s lines rest number j kinds.Turn h r x some (behind, (tokens, are)) = (
  wrong-line s lines rest number j kinds.Turn h r x some (behind, (tokens, are)),
  (r.passed.messages, tokens, at-message s.places (has_dots lines) r.passed x behind, are),
)
fault-in-line s lines rest number j kinds.Limit h r x some (behind, (tokens, are, few)) = (
  wrong-line s lines rest number j kinds.Limit h r x some (behind, (tokens, are, few)),
  (r.passed.messages, tokens, (at-message s.places (has_dots lines) r.passed x behind, are), few),
)
fault-in-line s lines rest number j kinds.PskPlace h r x some (behind, (tokens, are, within, psks)) = inl (
  wrong-line s lines rest number j kinds.PskPlace h r x some (behind, (tokens, are, within, psks)),
  (r.passed.messages, tokens, (at-message s.places (has_dots lines) r.passed x behind, are), within),
)
fault-in-line s lines rest number j kinds.Heading h r x some w = absurd (w)
fault-in-line s lines rest number j kinds.NameTaken h r x some w = absurd (w)
fault-in-line s lines rest number j kinds.Ending h r x some w = absurd (w)

-- ---- a line with no line feed

pub cut-in-line : (s : Section) (lines rest bytes : List ℕ) (number : ℕ) (j next : Judged) → IsSection s → (r : AreRight s.places lines rest number j)
    → rest ≢ [] → bytes ≡ first_line rest → rest ≡ bytes → (n : IsNextOf s.places (has_dots lines) r.passed bytes next)
    → IsTextFaultAt (text_with s lines) number kinds.Ending
cut-in-line s lines rest bytes number j next h r some is cut n =
    let x = extended s.places (has_dots lines) n.passed h.places n.are_right in
    let more : List ℕ = x.begun.0 in
    let begun : body_of x.p ≡ right_lines r.passed ++ (line bytes ++ more) = x.begun.1
    ∙ ap (λ (y : List ℕ). y ++ more) n.lines ∙ append_assoc (right_lines r.passed) (line bytes) more in
    inr (record {
      front = right_lines r.passed;
      left = rest;
      it = begins-so s lines rest number j n.passed h r x (line bytes ++ more, begun);
      last = cut ∙ is;
      counted = r.counted;
      next = inl (more, some, begun ∙ ap (λ (y : List ℕ). right_lines r.passed ++ (line y ++ more)) (sym cut));
    })

-- ---- one more right line

feeds-none : (xs : List ℕ) → list_all is_other xs ≡ true → line_feeds xs ≡ 0
feeds-none [] h = refl
feeds-none (x ∷ xs) h = feeds-append (x ∷ []) xs ∙ at (eqb x 10) h (feeds-none xs) where
  at : (b : Bool) → not b && list_all is_other xs ≡ true → (list_all is_other xs ≡ true → line_feeds xs ≡ 0) → (0 + cond b 1 0) + line_feeds xs ≡ 0
  at true k more = absurd (let bad : false ≡ true = k in cc)
  at false k more = let none : line_feeds xs ≡ 0 = more k in omega arith

pub line-more : (places lines rest bytes after : List ℕ) (number : ℕ) (j next : Judged) (r : AreRight places lines rest number j) → bytes ≡ first_line rest
    → rest ≡ line bytes ++ after → IsNextOf places (has_dots lines) r.passed bytes next → AreRight places lines after (number + 1) next
line-more places lines rest bytes after number j next r is whole n = record {
  passed = n.passed;
  matches = n.matches;
  are = n.are_right;
  lines_are = search (rules, append_assoc);
  counted =
      let one : line_feeds (line bytes) ≡ 1 = feeds-append bytes (10 ∷ []) ∙ ap (λ (k : ℕ). k + 1)
      (feeds-none bytes (ap (list_all is_other) is ∙ take-while-all is_other rest)) in
      let all : line_feeds (right_lines n.passed) ≡ line_feeds (right_lines r.passed) + line_feeds (line bytes) =
      ap line_feeds n.lines ∙ feeds-append (right_lines r.passed) (line bytes) in
      let before = r.counted in
      omega arith;
  ended = inr (right_lines r.passed ++ bytes, n.lines ∙ sym (append_assoc (right_lines r.passed) bytes (10 ∷ [])));
}

-- ---- all lines are right

behind : (places lines : List ℕ) (number : ℕ) (j : Judged) (r : AreRight places lines [] number j) → r.passed.ahead ≡ false
behind places lines number j r = at r.passed.ahead refl where
  at : (b : Bool) → r.passed.ahead ≡ b → b ≡ false
  at true e = absurd (let bad : false ≡ true = dots-left places lines [] number j r e in cc)
  at false e = refl

no-message : (s : Section) (lines : List ℕ) (number : ℕ) (j : Judged) → IsSection s → (r : AreRight s.places lines [] number j)
    → IsExtended s.places (has_dots lines) r.passed → j.messages ≡ 0 → IsTextFaultAt (text_with s lines) number kinds.Ending
no-message s lines number j h r x none =
    let empty : r.passed.messages ≡ [] = nil_from_length r.passed.messages (sym r.matches.messages ∙ none) in
    inr (record {
      front = right_lines r.passed;
      left = [];
      it = begins-right s lines [] number j h r x;
      last = refl;
      counted = r.counted;
      next = inr (
        refl,
        subst (λ (ms : List (List Token)). IsAfter x.p ms (right_lines r.passed)) empty
            (at-message s.places (has_dots lines) r.passed x (behind s.places lines number j r)),
      );
    })

within-count : (j : Judged) (s : RightLines) (places : List ℕ) (b : Bool) → Matches j s → list_all (λ n. leb n j.messages) places ≡ b
    → list_all (λ n. leb n (length s.messages)) places ≡ b
within-count j s places b st h = ap (λ (k : ℕ). list_all (λ n. leb n k) places) (sym st.messages) ∙ h

some-messages : (j : Judged) (s : RightLines) → Matches j s → j.messages ≢ 0 → s.messages ≢ []
some-messages j s st some e = some (st.messages ∙ ap length e)

place-beyond : (s : Section) (lines : List ℕ) (number : ℕ) (j : Judged) → IsSection s → (r : AreRight s.places lines [] number j)
    → IsExtended s.places (has_dots lines) r.passed → j.messages ≢ 0 → list_all (λ n. leb n j.messages) s.places ≡ false
    → IsTextFaultAt (text_with s lines) 1 kinds.PskPlace
place-beyond s lines number j h r x some beyond = inr (
  refl,
  record {
    body = right_lines r.passed;
    it = begins-right s lines [] number j h r x;
    messages = r.passed.messages;
    some = some-messages j r.passed r.matches some;
    are = at-message s.places (has_dots lines) r.passed x (behind s.places lines number j r);
    beyond = within-count j r.passed s.places false r.matches beyond;
  },
)

name-taken : (s : Section) (lines : List ℕ) (number : ℕ) (j : Judged) → IsSection s → (r : AreRight s.places lines [] number j)
    → j.messages ≢ 0 → list_all (λ n. leb n j.messages) s.places ≡ true → IsTextFaultAt (text_with s lines) 1 kinds.NameTaken
name-taken s lines number j h r some within =
    let w = whole s.places (has_dots lines) r.passed h.places r.are (behind s.places lines number j r) (some-messages j r.passed r.matches some)
    (within-count j r.passed s.places true r.matches within) in
    let body : lines ≡ body_of w.p = r.lines_are ∙ append-nil (right_lines r.passed) ∙ sym w.body_is in
    let heading : line (section_bytes s.base s.places ++ codes ":") ≡ line (section_bytes s.base w.p.places ++ codes ":") =
    ap (λ (ns : List ℕ). line (section_bytes s.base ns ++ codes ":")) (sym w.places_are) in (
      refl,
      (
        w.p,
        s.base,
        w.is_pattern,
        w.own_name,
        h.base,
        ap (λ (y : List ℕ). line (heading_of s) ++ y) body
            ∙ ap (λ (y : List ℕ). y ++ body_of w.p) heading
            ∙ sym (append_assoc (line (section_bytes s.base w.p.places ++ codes ":")) (pre_lines w.p.initiator w.p.responder)
            (message_lines Initiator w.p.messages)),
      ),
    )

abbrev fault_at : ℕ → TextFaultKind → TextFault
fault_at number kind = record { line = number; kind = kind }

pub fault-of-all : (s : Section) (lines : List ℕ) (number : ℕ) (j : Judged) (fault : TextFault) → IsSection s → AreRight s.places lines [] number j
    → fault ≡ cond (eqb j.messages 0) (fault_at number kinds.Ending)
    (cond (list_all (λ n. leb n j.messages) s.places) (fault_at 1 kinds.NameTaken) (fault_at 1 kinds.PskPlace))
    → IsTextFault (text_with s lines) fault
fault-of-all s lines number j fault h r e =
    subst (λ (f : TextFault). IsTextFault (text_with s lines) f) (sym e)
    (at (eqb j.messages 0) (list_all (λ n. leb n j.messages) s.places) refl refl)
  where
    x : IsExtended s.places (has_dots lines) r.passed
    x = extended s.places (has_dots lines) r.passed h.places r.are

    zero_is : eqb j.messages 0 ≡ true → j.messages ≡ 0
    zero_is t = grind (arith, nat_tests)

    some_is : eqb j.messages 0 ≡ false → j.messages ≢ 0
    some_is t = grind (arith, nat_tests)

    at : (none within : Bool) → eqb j.messages 0 ≡ none → list_all (λ n. leb n j.messages) s.places ≡ within
        → IsTextFault (text_with s lines) (cond none (fault_at number kinds.Ending) (cond within (fault_at 1 kinds.NameTaken) (fault_at 1 kinds.PskPlace)))
    at true within t u = no-message s lines number j h r x (zero_is t)
    at false true t u = name-taken s lines number j h r (some_is t) u
    at false false t u = place-beyond s lines number j h r x (some_is t) u

-- ---- the start

pub right-start : (places lines : List ℕ) (j : Judged) → j ≡ record { dots_ahead = has_dots lines; initiator = false; responder = false; messages = 0 }
    → AreRight places lines lines 2 j
right-start places lines j e =
    subst (λ (k : Judged). AreRight places lines lines 2 k) (sym e) (at (has_dots lines) refl)
  where
    none : (b : Bool) → right_lines (record { ahead = b; initiator = []; responder = []; messages = [] }) ≡ []
    none true = refl
    none false = refl

    no-lines : pre_lines [] [] ≢ [] → ⊥
    no-lines h = h refl

    form : (b : Bool) → IsTrue b ↔ (IsTrue b ⊎ (pre_lines [] [] ≢ []))
    form b = (λ t. inl t, λ t. elim t [ inl u ↦ u | inr u ↦ absurd (u refl) ])

    at : (b : Bool) → has_dots lines ≡ b
        → AreRight places lines lines 2 (record { dots_ahead = b; initiator = false; responder = false; messages = 0 })
    at b d = record {
      passed = record { ahead = b; initiator = []; responder = []; messages = [] };
      matches = record { ahead = refl; initiator = refl; responder = refl; messages = refl };
      are = search rules;
      lines_are = ap (λ (y : List ℕ). y ++ lines) (sym (none b));
      counted = ap (λ (y : List ℕ). line_feeds y + 2) (sym (none b));
      ended = inl (none b);
    }

-- ---- the same, where the psk places are those of the heading

pub line-fault : (places : List ℕ) (s : Section) (lines rest bytes : List ℕ) (number : ℕ) (j : Judged) (kind : TextFaultKind) (fault : TextFault) → IsSection s
    → s.places ≡ places → (r : AreRight places lines rest number j) → length rest ≢ 0 → bytes ≡ first_line rest → IsWrong places r.passed bytes kind
    → fault ≡ fault_at number kind → IsTextFault (text_with s lines) fault
line-fault places s lines rest bytes number j kind fault h same r some is w e =
    subst (λ (f : TextFault). IsTextFault (text_with s lines) f) (sym e)
    (subst (λ (ns : List ℕ). (q : AreRight ns lines rest number j) → IsWrong ns q.passed (first_line rest) kind → IsTextFaultAt (text_with s lines) number kind)
    same
    (λ q v. fault-in-line s lines rest number j kind h q (extended s.places (has_dots lines) q.passed h.places q.are) (λ f. some (ap length f)) v)
    r (subst (λ (b : List ℕ). IsWrong places r.passed b kind) is w))

cut-line : (text bytes after : List ℕ) (ended : Bool) → IsLineBefore text bytes ended after → ended ≡ false → text ≡ bytes
cut-line text bytes after true whole e = absurd (cc)
cut-line text bytes after false whole e = whole.0

pub cut-fault : (places : List ℕ) (s : Section) (lines rest bytes after : List ℕ) (ended : Bool) (number : ℕ) (j next : Judged) (fault : TextFault)
    → IsSection s → s.places ≡ places → (r : AreRight places lines rest number j) → length rest ≢ 0 → bytes ≡ first_line rest
    → IsLineBefore rest bytes ended after → ended ≡ false → IsNextOf places (has_dots lines) r.passed bytes next
    → fault ≡ fault_at number kinds.Ending → IsTextFault (text_with s lines) fault
cut-fault places s lines rest bytes after ended number j next fault h same r some is whole no_end n e =
    subst (λ (f : TextFault). IsTextFault (text_with s lines) f) (sym e)
    (subst (λ (ns : List ℕ). (q : AreRight ns lines rest number j) → IsNextOf ns (has_dots lines) q.passed bytes next
    → IsTextFaultAt (text_with s lines) number kinds.Ending)
    same
    (λ q m. cut-in-line s lines rest bytes number j next h q (λ f. some (ap length f)) is (cut-line rest bytes after ended whole no_end) m)
    r n)

ended-line : (text bytes after : List ℕ) (ended : Bool) → IsLineBefore text bytes ended after → ended ≡ true → text ≡ line bytes ++ after
ended-line text bytes after true whole e = whole
ended-line text bytes after false whole e = absurd (cc)

pub next-right : (places lines rest bytes after : List ℕ) (ended : Bool) (number : ℕ) (j next : Judged) (r : AreRight places lines rest number j)
    → bytes ≡ first_line rest → IsLineBefore rest bytes ended after → ended ≡ true → IsNextOf places (has_dots lines) r.passed bytes next
    → AreRight places lines after (number + 1) next
next-right places lines rest bytes after ended number j next r is whole end n =
    line-more places lines rest bytes after number j next r is (ended-line rest bytes after ended whole end) n

pub all-fault : (places : List ℕ) (s : Section) (lines rest : List ℕ) (number : ℕ) (j : Judged) (fault : TextFault) → IsSection s → s.places ≡ places
    → AreRight places lines rest number j → length rest ≡ 0
    → fault ≡ cond (eqb j.messages 0) (fault_at number kinds.Ending)
    (cond (list_all (λ n. leb n j.messages) places) (fault_at 1 kinds.NameTaken) (fault_at 1 kinds.PskPlace))
    → IsTextFault (text_with s lines) fault
all-fault places s lines rest number j fault h same r none e =
    fault-of-all s lines number j fault h
    (subst (λ (ns : List ℕ). AreRight ns lines [] number j) (sym same) (subst (λ (y : List ℕ). AreRight places lines y number j) (nil_from_length rest none) r))
    (e ∙ ap (λ (ns : List ℕ). cond (eqb j.messages 0) (fault_at number kinds.Ending)
    (cond (list_all (λ n. leb n j.messages) ns) (fault_at 1 kinds.NameTaken) (fault_at 1 kinds.PskPlace))) (sym same))

-- ---- the heading

-- what reading the heading answers
abbrev pub IsHeading : List ℕ → Section → List ℕ → Type 0
IsHeading text name after = (s : Section) (rest : List ℕ) → IsSection s → text ≡ heading_of s ++ rest → (name ≡ s) × (after ≡ rest)

pub no-heading : (text : List ℕ) (fault : TextFault) → ((s : Section) (rest : List ℕ) → IsSection s → text ≡ heading_of s ++ rest → ⊥)
    → fault ≡ fault_at 1 kinds.Heading → IsTextFault text fault
no-heading text fault none e =
    subst (λ (f : TextFault). IsTextFault text f) (sym e) (
      refl,
      λ s h. (
        λ f. none s [] h (f ∙ sym (append-nil (heading_of s))),
        λ rest f. none s (10 ∷ rest) h (f ∙ append_assoc (heading_of s) (10 ∷ []) rest),
      ),
    )

pub wrong-heading : (text : List ℕ) (name : Section) (after : List ℕ) (fault : TextFault) → IsHeading text name after → length after ≢ 0
    → ((rest : List ℕ) → after ≢ codes "\n" ++ rest) → fault ≡ fault_at 1 kinds.Heading → IsTextFault text fault
wrong-heading text name after fault every some no_feed e =
    subst (λ (f : TextFault). IsTextFault text f) (sym e) (
      refl,
      λ s h. (
        λ f. some (ap length (every s [] h (f ∙ sym (append-nil (heading_of s)))).1),
        λ rest f. no_feed rest (every s (10 ∷ rest) h (f ∙ append_assoc (heading_of s) (10 ∷ []) rest)).1,
      ),
    )

pub after-heading : (text : List ℕ) (name : Section) (after lines : List ℕ) (fault : TextFault) → text ≡ heading_of name ++ after
    → after ≡ codes "\n" ++ lines → IsTextFault (text_with name lines) fault → IsTextFault text fault
after-heading text name after lines fault e f reported =
    subst (λ (y : List ℕ). IsTextFault y fault)
    (append_assoc (heading_of name) (10 ∷ []) lines ∙ ap (λ (y : List ℕ). heading_of name ++ y) (sym f) ∙ sym e) reported
