-- The text of a pattern as lines none of which is `end`, and such lines as they are read.
use Rattle.std.proofs.Common.{rules, arith, inl, inr, ◌≡◌, ◌∙◌, ◌+◌, ◌-◌, ◌==◌, not, Bool, true, ap, refl, subst, sym, ℕ, List, ◌∷◌, ◌++◌, codes, length, take, []}
use Rattle.noise_vectors.proofs.Common.{All, take-append_seam, and_parts, append_assoc, length-append, All-append, All-cons, All-head, All-nil, All-push, All-tail, Role, Initiator, Responder, IsPattern, IsSection, Section, is_section_byte, section_bytes, Plan, message_lines, pre_line, pre_lines, token_line, word_of, words, section_bytes-all, IsInner, itself, IsRead, IsCutBlock, line_then, lines_of, lacks, Block, IsFirstLine, VectorFault, Line, Lines}
use Rattle.noise_names.specs.declared.token.Token.{Token}
use Rattle.noise_names.specs.declared.token.Token.TheVariants.{E}
use Rattle.noise_names.specs.Text.{text_of as pattern_text}
use Rattle.noise_names.specs.Tokens.{other}
use Rattle.noise_vectors.specs.OwnPattern.{HasName}
use Rattle.noise_vectors.proofs.LackLemmas.{all_weaker, lacks-append}
use Rattle.noise_vectors.proofs.LineLemmas.{lines_of-more}
use Rattle.noise_vectors.proofs.ReportedLemmas.{first-line}
use Rattle.noise_vectors.proofs.ReadingLemmas.{no_line_feed}
use Rattle.noise_vectors.proofs.UniqueWords.{parted-one}
use Rattle.noise_vectors.specs.declared.faults.LineKind.TheVariants as kinds

-- ---- lists of lines

lines_of-append : (xs ys : List (List ℕ)) (rest : List ℕ) → lines_of itself (xs ++ ys) rest ≡ lines_of itself xs (lines_of itself ys rest)
lines_of-append [] ys rest = refl
lines_of-append (x ∷ xs) ys rest = ap (λ (t : List ℕ). line_then x t) (lines_of-append xs ys rest)

lines_of-after : (xs : List (List ℕ)) (rest after : List ℕ) → lines_of itself xs rest ++ after ≡ lines_of itself xs (rest ++ after)
lines_of-after [] rest after = refl
lines_of-after (x ∷ xs) rest after = search (append_assoc, (lines_of-after xs rest after))

-- the text is that of lines which aren't the block's last one
pub record Lined (text : List ℕ) : Type 0 where
  pub before : List (List ℕ)
  pub inner : All IsInner before
  pub lines_are : text ≡ lines_of itself before []

lined-none : Lined []
lined-none = record { before = []; inner = All-nil IsInner; lines_are = refl }

lined-one : (text : List ℕ) → IsInner text → Lined (text ++ 10 ∷ [])
lined-one text h = record { before = text ∷ []; inner = All-cons IsInner text [] h (All-nil IsInner); lines_are = refl }

lined-append : (front after : List ℕ) → Lined front → Lined after → Lined (front ++ after)
lined-append front after f b = record {
  before = f.before ++ b.before;
  inner = All-append IsInner f.before b.before f.inner b.inner;
  lines_are = ap (λ (t : List ℕ). t ++ after) f.lines_are ∙ lines_of-after f.before [] after
      ∙ ap (λ (t : List ℕ). lines_of itself f.before t) b.lines_are ∙ sym (lines_of-append f.before b.before []);
}

-- ---- the lines of a pattern's text

lacks-word_of : (t : Token) → lacks 10 (word_of t) ≡ true
lacks-word_of E = refl
lacks-word_of _ = refl

lacks-words : (ts : List Token) → lacks 10 (words ts) ≡ true
lacks-words [] = refl
lacks-words (t ∷ []) = lacks-word_of t
lacks-words (t ∷ u ∷ ts) = search (lacks-append, lacks-word_of, (lacks-words (u ∷ ts)))

lined-token_line : (party : Role) (ts : List Token) → Lined (token_line party ts)
lined-token_line Initiator ts =
    lined-one (codes "  -> " ++ words ts) (lacks-append 10 (codes "  -> ") (words ts) refl (lacks-words ts), λ e. cc (e))
lined-token_line Responder ts =
    lined-one (codes "  <- " ++ words ts) (lacks-append 10 (codes "  <- ") (words ts) refl (lacks-words ts), λ e. cc (e))

lined-pre_line : (party : Role) (ts : List Token) → Lined (pre_line party ts)
lined-pre_line party [] = lined-none
lined-pre_line party (t ∷ ts) = lined-token_line party (t ∷ ts)

lined-both : (i r : List Token) → Lined (pre_line Initiator i ++ pre_line Responder r ++ (codes "  ..." ++ 10 ∷ []))
lined-both i r =
    lined-append (pre_line Initiator i ++ pre_line Responder r) (codes "  ..." ++ 10 ∷ [])
    (lined-append (pre_line Initiator i) (pre_line Responder r) (lined-pre_line Initiator i) (lined-pre_line Responder r))
    (lined-one (codes "  ...") (refl, λ e. cc (e)))

lined-pre_lines : (i r : List Token) → Lined (pre_lines i r)
lined-pre_lines [] [] = lined-none
lined-pre_lines [] (u ∷ us) = lined-both [] (u ∷ us)
lined-pre_lines (t ∷ ts) r = lined-both (t ∷ ts) r

lined-message_lines : (party : Role) (ms : List (List Token)) → Lined (message_lines party ms)
lined-message_lines party [] = lined-none
lined-message_lines party (m ∷ ms) =
    lined-append (token_line party m) (message_lines (other party) ms) (lined-token_line party m) (lined-message_lines (other party) ms)

pub heading-plain : (s : Section) → IsSection s → lacks 10 (section_bytes s.base s.places ++ codes ":") ≡ true
heading-plain s h =
    let plain = all_weaker is_section_byte (λ b. not (b == 10)) (section_bytes s.base s.places) no_line_feed (section_bytes-all s h) in
    lacks-append 10 (section_bytes s.base s.places) (codes ":") plain refl

lined-heading : (s : Section) → IsSection s → Lined ((section_bytes s.base s.places ++ codes ":") ++ 10 ∷ [])
lined-heading s h = search (rules, lined-one, heading-plain)

-- the text of a pattern is that of such lines
pub lined-pattern : (p : Plan) → IsPattern p → Lined (pattern_text p)
lined-pattern p h =
    let s : Section = record { base = p.base; places = p.places } in
    let heading = lined-heading s (record { base = h.base; places = h.places }) in
    lined-append (((section_bytes p.base p.places ++ codes ":") ++ 10 ∷ []) ++ pre_lines p.initiator p.responder) (message_lines Initiator p.messages)
    (lined-append ((section_bytes p.base p.places ++ codes ":") ++ 10 ∷ []) (pre_lines p.initiator p.responder) heading
    (lined-pre_lines p.initiator p.responder))
    (lined-message_lines Initiator p.messages)

-- and with `end` after it
pub block-lines : (p : Plan) (h : IsPattern p) (rest start : List ℕ) → start ≡ pattern_text p ++ line_then (codes "end") rest
    → start ≡ lines_of itself (lined-pattern p h).before (line_then (codes "end") rest)
block-lines p h rest start e = search (rules, lines_of-after)

-- ---- the lines before `end`, as they are read

-- these lines and `end` are still to be read
pub record Left (rest left : List ℕ) : Type 0 where
  pub others : List (List ℕ)
  pub inner : All IsInner others
  pub left_is : left ≡ lines_of itself others (line_then (codes "end") rest)

pub Left-start : (rest : List ℕ) (before : List (List ℕ)) (left : List ℕ) → All IsInner before
    → left ≡ lines_of itself before (line_then (codes "end") rest) → Left rest left
Left-start rest before left h e = record { others = before; inner = h; left_is = e }

-- what the next line is
abbrev pub IsNext : List ℕ → List ℕ → List ℕ → Bool → Type 0
IsNext left text after is_ended =
    (words more : List ℕ) → lacks 10 words ≡ true → left ≡ line_then words more → (text ≡ words) × (after ≡ more) × (is_ended ≡ true)

abbrev pub NoNext : List ℕ → Type 0
NoNext left = (words more : List ℕ) → lacks 10 words ≡ true → ¬ (left ≡ line_then words more)

-- there is a next line
next-of : (rest left : List ℕ) (others : List (List ℕ)) → All IsInner others → left ≡ lines_of itself others (line_then (codes "end") rest)
    → ¬ (NoNext left)
next-of rest left [] inner e none = none (codes "end") rest refl e
next-of rest left (x ∷ xs) inner e none = none x (lines_of itself xs (line_then (codes "end") rest)) (All-head IsInner x xs inner).0 e

pub Left-next : (rest left : List ℕ) → Left rest left → ¬ (NoNext left)
Left-next rest left l none = next-of rest left l.others l.inner l.left_is none

-- `end` is the last one
last-of : (rest left text after : List ℕ) (is_ended : Bool) (others : List (List ℕ)) → All IsInner others
    → left ≡ lines_of itself others (line_then (codes "end") rest) → IsNext left text after is_ended → text ≡ codes "end"
    → (left ≡ line_then (codes "end") rest) × (after ≡ rest) × (is_ended ≡ true)
last-of rest left text after is_ended [] inner e next is =
    let n = next (codes "end") rest refl e in
    (e, n.1, n.2)
last-of rest left text after is_ended (x ∷ xs) inner e next is =
    let first = All-head IsInner x xs inner in
    absurd (first.1 (sym (next x (lines_of itself xs (line_then (codes "end") rest)) first.0 e).0 ∙ is))

pub Left-last : (rest left text after : List ℕ) (is_ended : Bool) → Left rest left → IsNext left text after is_ended → text ≡ codes "end"
    → (left ≡ line_then (codes "end") rest) × (after ≡ rest) × (is_ended ≡ true)
Left-last rest left text after is_ended l next is = last-of rest left text after is_ended l.others l.inner l.left_is next is

-- after any other line the further ones are left
step-of : (rest left text after : List ℕ) (is_ended : Bool) (others : List (List ℕ)) → All IsInner others
    → left ≡ lines_of itself others (line_then (codes "end") rest) → IsNext left text after is_ended → ¬ (text ≡ codes "end")
    → Left rest after × (is_ended ≡ true)
step-of rest left text after is_ended [] inner e next is =
    absurd (is (next (codes "end") rest refl e).0)
step-of rest left text after is_ended (x ∷ xs) inner e next is =
    let n = next x (lines_of itself xs (line_then (codes "end") rest)) (All-head IsInner x xs inner).0 e in
    (record { others = xs; inner = All-tail IsInner x xs inner; left_is = n.1 }, n.2)

pub Left-step : (rest left text after : List ℕ) (is_ended : Bool) → Left rest left → IsNext left text after is_ended → ¬ (text ≡ codes "end")
    → Left rest after × (is_ended ≡ true)
Left-step rest left text after is_ended l next is = step-of rest left text after is_ended l.others l.inner l.left_is next is

-- what comes before the rest is the text of the lines before it
front-before : (text left : List ℕ) (before : List (List ℕ)) → text ≡ lines_of itself before left
    → take (length text - length left) text ≡ lines_of itself before []
front-before text left before e =
    let whole : text ≡ lines_of itself before [] ++ left = e ∙ sym (lines_of-after before [] left) in
    let len : length text ≡ length (lines_of itself before []) + length left = ap length whole ∙ length-append (lines_of itself before []) left in
    let n : length text - length left ≡ length (lines_of itself before []) = omega arith in
    let front : take (length (lines_of itself before [])) text ≡ lines_of itself before [] =
    ap (take (length (lines_of itself before []))) whole ∙ take-append_seam (lines_of itself before []) left in
    rw n front

pub front-is : (text left rest : List ℕ) (before : List (List ℕ)) → text ≡ lines_of itself before (line_then (codes "end") rest)
    → left ≡ line_then (codes "end") rest → take (length text - length left) text ≡ lines_of itself before []
front-is text left rest before e is = front-before text left before (e ∙ ap (lines_of itself before) (sym is))

-- ---- the lines that were read

-- none of these lines is the block's last one
pub record Read (start left : List ℕ) : Type 0 where
  pub lines : List (List ℕ)
  pub inner : All IsInner lines
  pub start_is : start ≡ lines_of itself lines left

pub Read-none : (start : List ℕ) → Read start start
Read-none start = record { lines = []; inner = All-nil IsInner; start_is = refl }

pub Read-step : (start left words after : List ℕ) → Read start left → IsInner words → left ≡ line_then words after → Read start after
Read-step start left words after r h e = record {
  lines = r.lines ++ words ∷ [];
  inner = All-push IsInner r.lines words r.inner h;
  start_is = lines_of-more itself start left words after r.lines words r.start_is e refl;
}

-- with `end` after them they are the block's
pub Read-end : (start : List ℕ) {before after : Lines} {text : List ℕ} → Read start before.rest.now → IsRead before text after → text ≡ codes "end"
    → (block : Block start) × (take (length start - length before.rest.now) start ≡ lines_of itself block.lines [])
Read-end start {before = before} r line_then is = (
  record {
    lines = r.lines;
    inner = r.inner;
    after = before.rest.now;
    ends = subst (λ (t : List ℕ). IsFirstLine t before.rest.now) is (first-line line_then);
    left_is = r.start_is;
  },
  front-before start before.rest.now r.lines r.start_is,
)

-- ---- where no line `end` is left

-- a line is no empty text
pub no-line : (words rest : List ℕ) → ¬ ([] ≡ line_then words rest)
no-line [] rest e = absurd (cc e)
no-line (b ∷ bs) rest e = absurd (cc e)

-- nor one without a line feed
no-feed : (words other rest : List ℕ) → lacks 10 words ≡ true → ¬ (words ≡ line_then other rest)
no-feed [] other rest plain e = no-line other rest e
no-feed (b ∷ bs) [] rest plain e =
    let first : b ≡ 10 = cc (e) in
    let parts = and_parts (not (b == 10)) (lacks 10 bs) plain in
    absurd (cc (rw first at parts.0))
no-feed (b ∷ bs) (d ∷ ds) rest plain e =
    let more : bs ≡ line_then ds rest = cc (e) in
    no-feed bs ds rest (and_parts (not (b == 10)) (lacks 10 bs) plain).1 more

-- the block's last line is another than this one
end-next : (left words after : List ℕ) → left ≡ line_then words after → IsInner words → ¬ IsFirstLine (codes "end") left
end-next left words after e h (plain, inl (is, some)) = no-feed (codes "end") words after refl (sym is ∙ e)
end-next left words after e h (plain, inr (rest, is)) = h.1 (sym (parted-one 10 (codes "end") words rest after refl h.0 (sym is ∙ e)).0)

-- what is left of a block after one line more
block-step : (left words after : List ℕ) (lines : List (List ℕ)) (end_ : List ℕ) → left ≡ line_then words after → IsInner words → All IsInner lines
    → IsFirstLine (codes "end") end_ → left ≡ lines_of itself lines end_ → Block after
block-step left words after [] end_ e h inner ends is =
    absurd (end-next left words after e h (subst (IsFirstLine (codes "end")) (sym is) ends))
block-step left words after (x ∷ xs) end_ e h inner ends is =
    record {
      lines = xs;
      inner = All-tail IsInner x xs inner;
      after = end_;
      ends = ends;
      left_is = (parted-one 10 words x after (lines_of itself xs end_) h.0 (All-head IsInner x xs inner).0 (sym e ∙ is)).1;
    }

-- and after the lines that were read
block-left : (start left : List ℕ) (lines : List (List ℕ)) → All IsInner lines → start ≡ lines_of itself lines left → Block start → Block left
block-left start left [] inner e b = subst Block e b
block-left start left (x ∷ xs) inner e b =
    block-left (lines_of itself xs left) left xs (All-tail IsInner x xs inner) refl
    (block-step start x (lines_of itself xs left) b.lines b.after e (All-head IsInner x xs inner) b.inner b.ends b.left_is)

-- there is none in a text without line feeds that isn't `end`
none-in : (left : List ℕ) (lines : List (List ℕ)) (end_ : List ℕ) → lacks 10 left ≡ true → ¬ (left ≡ codes "end") → IsFirstLine (codes "end") end_
    → ¬ (left ≡ lines_of itself lines end_)
none-in left [] end_ plain other (p, inl (is, some)) e = other (e ∙ is)
none-in left [] end_ plain other (p, inr (rest, is)) e = no-feed left (codes "end") rest plain (e ∙ is)
none-in left (x ∷ xs) end_ plain other ends e = no-feed left x (lines_of itself xs end_) plain e

pub no-block : (left : List ℕ) → lacks 10 left ≡ true → ¬ (left ≡ codes "end") → ¬ Block left
no-block left plain other b = none-in left b.lines b.after plain other b.ends b.left_is

-- nor in the text before it
pub Read-open : (start left : List ℕ) → Read start left → lacks 10 left ≡ true → ¬ (left ≡ codes "end") → ¬ Block start
Read-open start left r plain other b = no-block left plain other (block-left start left r.lines r.inner r.start_is b)

-- where `end` has no line feed the lines before it are the text's others
cut-end : (from text : List ℕ) (b : Block from) → text ≡ lines_of itself b.lines [] → ((rest : List ℕ) → ¬ (b.after ≡ line_then (codes "end") rest))
    → from ≡ text ++ codes "end"
cut-end from text b is none = at b.ends
  where
    at : IsFirstLine (codes "end") b.after → from ≡ text ++ codes "end"
    at (plain, inl (last, some)) = b.left_is ∙ ap (lines_of itself b.lines) last ∙ sym (lines_of-after b.lines [] (codes "end"))
        ∙ ap (λ (t : List ℕ). t ++ codes "end") (sym is)
    at (plain, inr (rest, more)) = absurd (none rest more)

pub block-cut : (name : Section) (from text : List ℕ) (total number : ℕ) (fault : VectorFault) (p : Plan) → IsPattern p → HasName p name
    → text ≡ pattern_text p → (block : Block from) × (text ≡ lines_of itself block.lines [])
    → ((before : List (List ℕ)) (rest : List ℕ) → All IsInner before → ¬ (from ≡ lines_of itself before (line_then (codes "end") rest)))
    → fault ≡ Line number kinds.Ending → number ≡ total + 1 → IsCutBlock name from total fault
block-cut name from text total number fault p right named spelled (b, is) none reported n = record {
  pattern = p;
  right = right;
  named = named;
  text_is = cut-end from text b is (λ rest more. none b.lines rest b.inner (b.left_is ∙ ap (lines_of itself b.lines) more))
      ∙ ap (λ (t : List ℕ). t ++ codes "end") spelled;
  fault_is = reported ∙ ap (λ (k : ℕ). Line k kinds.Ending) n;
}
