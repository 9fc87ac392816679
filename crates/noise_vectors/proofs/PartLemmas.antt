-- What a reader of lines of one kind reports.
use Rattle.std.proofs.Common.{rules, arith, ◌≡◌, ◌∙◌, ◌+◌, ◌-◌, ◌<◌, ◌≤◌, ◌^◌, min, inl, inr, ap, refl, subst, sym, true, false, Bool, ℕ, List, ◌∷◌, ◌++◌, codes, get_or, length, map, zero, []}
use Rattle.std.proofs.Math.Nat.{min-eq_left}
use Rattle.noise_vectors.proofs.Common.{All, append_assoc, length-append, All-head, All-push, All-tail, Section, itself, IsRead, last_number, IsWrongBlock, Listed, ReportsAfter, ReportsLine, header_words, line_then, lines_of, lacks, line_feeds, Block, IsWrongIn, LineKind, VectorFault, Line, Lines}
use Rattle.noise_names.specs.FaultLines.{fault-line, feeds-append}
use Rattle.noise_vectors.proofs.LineLemmas.{lines_of-push}
use Rattle.noise_vectors.proofs.UniqueWords.{numbers-apart, parted-one}
use Rattle.noise_vectors.proofs.ReportedLemmas.{ending-reported, feeds-few, wrong-line}
use Rattle.noise_vectors.specs.declared.faults.LineKind.TheVariants as kinds

-- a text after lines is one after the last of them
pub lines_of-after : {A : Type 0} (words : A → List ℕ) (xs : List A) (rest more : List ℕ) → lines_of words xs rest ++ more ≡ lines_of words xs (rest ++ more)
lines_of-after words [] rest more = refl
lines_of-after words (x ∷ xs) rest more = search (append_assoc, (lines_of-after words xs rest more))

-- the last line, which has no line feed, is one of them
pub lines_of-cut : {A : Type 0} (words : A → List ℕ) (from rest reported : List ℕ) (xs : List A) (x : A)
    → from ≡ lines_of words xs rest → rest ≡ reported → reported ≡ words x → from ++ codes "\n" ≡ lines_of words (xs ++ x ∷ []) []
lines_of-cut words from rest reported xs x before last is = search (rules, lines_of-after, lines_of-push)

-- no header is that of both versions
pub header-one : (a b : Bool) → header_words a ≡ header_words b → a ≡ b
header-one true false e = absurd (numbers-apart _ _ (ap (λ (t : List ℕ). get_or t 7 0) e) refl)
header-one false true e = absurd (numbers-apart _ _ (ap (λ (t : List ℕ). get_or t 7 0) e) refl)
header-one _ _ e = refl

pub header-lacks : (second : Bool) → lacks 10 (header_words second) ≡ true
header-lacks true = refl
header-lacks false = refl

-- ---- what a reader of one line reports

pub line-wrong : (IsGood : List ℕ → Type 0) {before after : Lines} {words : List ℕ} {kind : LineKind} {fault : VectorFault} → IsRead before words after
    → fault ≡ Line after.number kind → ¬ IsGood words → ReportsLine IsGood before.rest.now (last_number before) kind fault
line-wrong IsGood r is bad = inr (inr (wrong-line r refl is, bad))

pub line-cut : (IsGood : List ℕ → Type 0) (kind : LineKind) {before after : Lines} {words : List ℕ} {fault : VectorFault} → IsRead before words after
    → (after.is_ended ≡ false) × (fault ≡ Line after.number kinds.Ending) → IsGood words → ReportsLine IsGood before.rest.now (last_number before) kind fault
line-cut IsGood kind r is good = inr (inl (ending-reported r is, inr (subst IsGood (sym (r.last is.0).0) good)))

-- ---- what a reader of a pattern reports

-- a line that is reported of the block is one of its lines, or the next
place-few : (name : Section) (text : List ℕ) (place : ℕ) → IsWrongIn name text place → place ≤ line_feeds text + 1
place-few name text place (inl (none, one)) = omega (arith, one)
place-few name text place (inr (begun, (fault, reports, is))) = let few = fault-line text fault reports in omega (arith, few, is)

-- its number in the file is as many more as lines were read before
pub block-wrong : (name : Section) (lines : Lines) (text : List ℕ) (place number : ℕ) → lines.number + length lines.rest.now < 2 ^ 63
    → number ≡ min (lines.number + place) (2 ^ 64 - 1) → (block : Block lines.rest.now) × (text ≡ lines_of itself block.lines []) → IsWrongIn name text place
    → IsWrongBlock name lines.rest.now (last_number lines) (Line number kinds.Pattern)
block-wrong name lines text place number low sum (block, is) wrong =
    let whole : lines.rest.now ≡ text ++ block.after =
    block.left_is ∙ sym (lines_of-after itself block.lines [] block.after) ∙ ap (λ (t : List ℕ). t ++ block.after) (sym is) in
    let feeds = ap line_feeds whole ∙ feeds-append text block.after in
    let few = place-few name text place wrong in
    let all = feeds-few lines.rest.now in
    let small : lines.number + place ≤ 2 ^ 64 - 1 = omega (arith, feeds, few, all, low) in
    let same : number ≡ lines.number + place = sum ∙ min-eq_left small in
    record {
      block = block;
      place = place;
      wrong = subst (λ (t : List ℕ). IsWrongIn name t place) is wrong;
      number = number;
      counted = omega (arith, same);
      fault_is = refl;
    }

-- ---- what a reader of several reports

pub reports-wrong : {A : Type 0} (of : Listed A) (from : Lines) (done : List A) {before after : Lines} {words : List ℕ} {fault : VectorFault}
    → from.rest.now ≡ lines_of of.words done before.rest.now → All of.Good done → of.Few (length done) → ¬ of.Over before.rest.now
    → last_number before ≡ last_number from → IsRead before words after → fault ≡ Line after.number (of.kind done)
    → ((x : A) → of.Good x → words ≡ of.words x → of.Full (length done)) → ReportsAfter of from.rest.now (last_number from) fault
reports-wrong of from done {before = before} text are few stands same r is full =
    inr (inr (record {
      done = done;
      are = are;
      few = few;
      left = before.rest.now;
      text_is = text;
      stands = stands;
      it = wrong-line r same is;
      full = full;
    }))

pub reports-cut : {A : Type 0} (of : Listed A) (from : Lines) (done : List A) (x : A) {before after : Lines} {words : List ℕ} {fault : VectorFault}
    → from.rest.now ≡ lines_of of.words done before.rest.now → All of.Good done → of.Few (length done + 1)
    → last_number before ≡ last_number from → IsRead before words after → (after.is_ended ≡ false) × (fault ≡ Line after.number kinds.Ending)
    → words ≡ of.words x → of.Good x → ReportsAfter of from.rest.now (last_number from) fault
reports-cut of from done x {before = before} {words = words} text are few same r is found good =
    inr (inl (
      ending-reported r is ∙ ap (λ (k : ℕ). Line (k + 1) kinds.Ending) same,
      record {
        done = done ++ x ∷ [];
        are = All-push of.Good done x are good;
        few = subst of.Few (sym (length-append done (x ∷ []))) few;
        text_is = lines_of-cut of.words from.rest.now before.rest.now words done x text (r.last is.0).0 found;
      },
    ))

-- ---- two texts of such lines

-- Where such lines were read of a text of them, and what follows them isn't reached, one of them comes next.
pub record Next {A : Type 0} (of : Listed A) (done xs : List A) (left : List ℕ) : Type 0 where
  pub next : A
  pub after : List ℕ
  pub left_is : left ≡ line_then (of.words next) after
  pub good : of.Good next
  pub more : length done < length xs

pub next-of : {A : Type 0} (of : Listed A) → ((x : A) → of.Good x → lacks 10 (of.words x) ≡ true) → ((x : A) (rest : List ℕ) → ¬ of.Over (line_then (of.words x) rest))
    → (done xs : List A) (from left rest : List ℕ) → from ≡ lines_of of.words done left → All of.Good done → from ≡ lines_of of.words xs rest → All of.Good xs
    → of.Over rest → ¬ of.Over left → Next of done xs left
next-of {A = A} of plain stands done xs from left rest text are text_of good over ahead = at done xs are good (sym text ∙ text_of) where
  at : (done xs : List A) → All of.Good done → All of.Good xs → lines_of of.words done left ≡ lines_of of.words xs rest → Next of done xs left
  at [] [] h k e = absurd (ahead (subst of.Over (sym e) over))
  at [] (x ∷ xs) h k e =
      record { next = x; after = lines_of of.words xs rest; left_is = e; good = All-head of.Good x xs k; more = omega arith }
  at (d ∷ ds) [] h k e = absurd (stands d (lines_of of.words ds left) (subst of.Over (sym e) over))
  at (d ∷ ds) (x ∷ xs) h k e =
      let parts = parted-one 10 (of.words d) (of.words x) (lines_of of.words ds left) (lines_of of.words xs rest)
      (plain d (All-head of.Good d ds h)) (plain x (All-head of.Good x xs k)) e in
      let n = at ds xs (All-tail of.Good d ds h) (All-tail of.Good x xs k) parts.1 in
      record { next = n.next; after = n.after; left_is = n.left_is; good = n.good; more = omega (arith, n.more) }

-- Lines of one kind and one more that no right text has after them are fewer than those of a right text, of which it is one.
pub goes-on : {A : Type 0} (of : Listed A) → ((x : A) → of.Good x → lacks 10 (of.words x) ≡ true) → ((x : A) (rest : List ℕ) → ¬ of.Over (line_then (of.words x) rest))
    → (xs ys : List A) (reported rest after : List ℕ) → All of.Good xs → All of.Good ys → lacks 10 reported ≡ true → of.Over after → ¬ of.Over (line_then reported rest)
    → lines_of of.words ys after ≡ lines_of of.words xs (line_then reported rest)
    → (x : A) × of.Good x × (reported ≡ of.words x) × (length xs < length ys)
goes-on of plain stands [] [] reported rest after h k clear over bad e = absurd (bad (subst of.Over e over))
goes-on of plain stands (x ∷ xs) [] reported rest after h k clear over bad e = absurd (stands x (lines_of of.words xs (line_then reported rest)) (subst of.Over e over))
goes-on of plain stands [] (y ∷ ys) reported rest after h k clear over bad e =
    let good = All-head of.Good y ys k in
    let parts = parted-one 10 (of.words y) reported (lines_of of.words ys after) rest (plain y good) clear e in
    (y, good, sym parts.0, omega arith)
goes-on of plain stands (x ∷ xs) (y ∷ ys) reported rest after h k clear over bad e =
    let parts = parted-one 10 (of.words y) (of.words x) (lines_of of.words ys after) (lines_of of.words xs (line_then reported rest))
    (plain y (All-head of.Good y ys k)) (plain x (All-head of.Good x xs h)) e in
    let more = goes-on of plain stands xs ys reported rest after (All-tail of.Good x xs h) (All-tail of.Good y ys k) clear over bad parts.1 in
    (more.0, more.1, more.2, omega (arith, more.3))

-- They are those of one list, as far as it is seen, and what follows them is one text.
pub lines-same : {A B : Type 0} (words : A → List ℕ) (Good : A → Type 0) (Over : List ℕ → Type 0) (view : A → B)
    → ((x : A) → Good x → lacks 10 (words x) ≡ true) → ((x : A) (rest : List ℕ) → ¬ Over (line_then (words x) rest))
    → ((x y : A) → Good x → Good y → words x ≡ words y → view x ≡ view y)
    → (xs ys : List A) (u v : List ℕ) → All Good xs → All Good ys → Over u → Over v
    → lines_of words xs u ≡ lines_of words ys v → (map view xs ≡ map view ys) × (u ≡ v)
lines-same words Good Over view plain stands one [] [] u v h k hu hv e = (refl, e)
lines-same words Good Over view plain stands one [] (y ∷ ys) u v h k hu hv e = absurd (stands y (lines_of words ys v) (subst Over e hu))
lines-same words Good Over view plain stands one (x ∷ xs) [] u v h k hu hv e = absurd (stands x (lines_of words xs u) (subst Over (sym e) hv))
lines-same words Good Over view plain stands one (x ∷ xs) (y ∷ ys) u v h k hu hv e =
    let good = All-head Good x xs h in
    let also = All-head Good y ys k in
    let parts = parted-one 10 (words x) (words y) (lines_of words xs u) (lines_of words ys v) (plain x good) (plain y also) e in
    let first = one x y good also parts.0 in
    let more = lines-same words Good Over view plain stands one xs ys u v (All-tail Good x xs h) (All-tail Good y ys k) hu hv parts.1 in
    (cc (first, more.0), more.1)

pub lines-over : {A : Type 0} (of : Listed A) → ((x : A) → of.Good x → lacks 10 (of.words x) ≡ true) → ((x : A) (rest : List ℕ) → ¬ of.Over (line_then (of.words x) rest))
    → (xs ys : List A) (u v : List ℕ) → All of.Good xs → All of.Good ys → of.Over u → of.Over v
    → lines_of of.words xs u ≡ lines_of of.words ys v → u ≡ v
lines-over of plain stands xs ys u v h k hu hv e =
    (lines-same of.words of.Good of.Over (λ _. zero) plain stands (λ x y g l same. refl) xs ys u v h k hu hv e).1
