-- What a walk through a log says of the lines that are matched.
use Rattle.std.proofs.Common.{◌≡◌, ◌∙◌, ◌<◌, ◌≤◌, ℕ, suc, refl, sym, ap, subst, Bool, true, false, not, List, [], ◌∷◌, Option, Some, None, get_or, length, take}
use Rattle.std.specs.Prelude.{◌++◌, IfSome, drop, find, fold, if◌then◌else◌}
use Rattle.std.specs.List.{All, filter}
use Rattle.std.proofs.lemmas.List.Elements.{All-cons, All-head, All-nil, All-tail, filter-append}
use Rattle.std.proofs.lemmas.List.Folds.{fold_stays}
use Rattle.std.proofs.lemmas.List.{append_assoc, get_or_default, take-append-drop}
use Rattle.std.proofs.Math.Seq.{drop-cons}
use Rattle.noise_compare.specs.Differences.{Agrees, AllMatched, AreAmong, AreMatched, IsMatched, Stops, after_match, is_due, is_match, is_of_responder, of_role}
use Rattle.noise_compare.specs.Lines.{has_values, is_of_place}
use Rattle.noise_compare.specs.Walk.{Left, both, left_after, left_by, left_for, left_after_logged, left_from}
use Rattle.noise_compare.specs.declared.difference.Rule.{Rule}
use Rattle.noise_compare.specs.declared.difference.Rule.TheVariants.{InTurn, ByValues}
use Rattle.noise_compare.specs.declared.line.Line.{Line}

after_match-is : (rule : Rule) (logged : Line) (right rest : List Line) → after_match rule logged right ≡ Some rest → IsMatched rule logged right rest
after_match-is rule logged [] rest e = absurd (cc e)
after_match-is rule logged (line ∷ more) rest e =
    at (after_match-is rule logged more rest) (is_due rule logged line) refl (has_values logged line) refl
  where
    at : (after_match rule logged more ≡ Some rest → IsMatched rule logged more rest) → (p : Bool) → is_due rule logged line ≡ p → (v : Bool)
        → has_values logged line ≡ v → IsMatched rule logged (line ∷ more) rest
    at here true due true values =
        let whole : after_match rule logged (line ∷ more) ≡ Some more = rw (due, values) refl in
        let same : more ≡ rest = cc (whole, e) in
        record {
          passed = [];
          found = line;
          right_are = ap (λ (lines : List Line). line ∷ lines) same;
          others = All-nil (λ (l : Line). is_due rule logged l ≡ false);
          due = due;
          values = values;
        }
    at here true due false values =
        let none : after_match rule logged (line ∷ more) ≡ None = rw (due, values) refl in
        absurd (cc (none, e))
    at here false due v values =
        let later : after_match rule logged (line ∷ more) ≡ after_match rule logged more = rw due refl in
        let i = here (sym later ∙ e) in
        record {
          passed = line ∷ i.passed;
          found = i.found;
          right_are = ap (λ (lines : List Line). line ∷ lines) i.right_are;
          others = All-cons (λ (l : Line). is_due rule logged l ≡ false) line i.passed due i.others;
          due = i.due;
          values = i.values;
        }

-- where a line isn't matched by values, no line has its place and its values
unmatched-all : (logged : Line) (right : List Line) → after_match ByValues logged right ≡ None → All (λ line. is_match logged line ≡ false) right
unmatched-all logged [] e = All-nil (λ (l : Line). is_match logged l ≡ false)
unmatched-all logged (line ∷ more) e =
    at (unmatched-all logged more) (is_of_place logged line) refl (has_values logged line) refl
  where
    at : (after_match ByValues logged more ≡ None → All (λ l. is_match logged l ≡ false) more) → (p : Bool) → is_of_place logged line ≡ p
        → (v : Bool) → has_values logged line ≡ v → All (λ l. is_match logged l ≡ false) (line ∷ more)
    at here true place true values =
        let whole : after_match ByValues logged (line ∷ more) ≡ Some more = rw (place, values) refl in
        absurd (cc (whole, e))
    at here true place false values =
        let no : is_match logged line ≡ false = rw (place, values) refl in
        let later : after_match ByValues logged (line ∷ more) ≡ after_match ByValues logged more = rw (place, values) refl in
        All-cons (λ (l : Line). is_match logged l ≡ false) line more no (here (sym later ∙ e))
    at here false place v values =
        let no : is_match logged line ≡ false = rw place refl in
        let later : after_match ByValues logged (line ∷ more) ≡ after_match ByValues logged more = rw place refl in
        All-cons (λ (l : Line). is_match logged l ≡ false) line more no (here (sym later ∙ e))

-- where it isn't in turn, the first line with its place has other values
unmatched-differs : (logged : Line) (right : List Line) → after_match InTurn logged right ≡ None
    → IfSome (find (is_of_place logged) right) (λ line. has_values logged line ≡ false)
unmatched-differs logged [] e = tt
unmatched-differs logged (line ∷ more) e = at (unmatched-differs logged more) (is_of_place logged line) refl (has_values logged line) refl
  where
    at : (after_match InTurn logged more ≡ None → IfSome (find (is_of_place logged) more) (λ l. has_values logged l ≡ false)) → (p : Bool)
        → is_of_place logged line ≡ p → (v : Bool) → has_values logged line ≡ v
        → IfSome (find (is_of_place logged) (line ∷ more)) (λ l. has_values logged l ≡ false)
    at here true place true values =
        let whole : after_match InTurn logged (line ∷ more) ≡ Some more = rw (place, values) refl in
        absurd (cc (whole, e))
    at here true place false values = rw place values
    at here false place v values =
        let later : after_match InTurn logged (line ∷ more) ≡ after_match InTurn logged more = rw place refl in
        rw place (here (sym later ∙ e))

abbrev left_of : Bool → Left → List Line
left_of true left = left.responder
left_of false left = left.initiator

-- a line of the other role leaves the right lines of a role
one-other : (role : Bool) (line : Line) (more : List Line) → is_of_responder line ≡ not role → of_role role (line ∷ more) ≡ of_role role more
one-other true line more e = rw e refl
one-other false line more e = rw e refl

one-more : (role : Bool) (line : Line) (more : List Line) → is_of_responder line ≡ role → of_role role (line ∷ more) ≡ line ∷ of_role role more
one-more true line more e = rw e refl
one-more false line more e = rw e refl

one-taken : (rule : Rule) (role : Bool) (line : Line) (more right rest left : List Line) → is_of_responder line ≡ role
    → after_match rule line right ≡ Some rest → AreMatched rule (of_role role more) rest left
    → AreMatched rule (of_role role (line ∷ more)) right left
one-taken rule role line more right rest left e is h =
    subst (λ (lines : List Line). AreMatched rule lines right left) (sym (one-more role line more e)) (rest, after_match-is rule line right rest is, h)

one-skipped : (rule : Rule) (role : Bool) (line : Line) (more right left : List Line) → is_of_responder line ≡ not role
    → AreMatched rule (of_role role more) right left → AreMatched rule (of_role role (line ∷ more)) right left
one-skipped rule role line more right left e h = subst (λ (lines : List Line). AreMatched rule lines right left) (sym (one-other role line more e)) h

pub walked : (rule : Rule) (log : List Line) (from to : Left) → fold (left_after_logged rule) (Some from) log ≡ Some to → (role : Bool)
    → AreMatched rule (of_role role log) (left_of role from) (left_of role to)
walked rule [] from to e true = let same : to ≡ from = cc e in ap (left_of true) same
walked rule [] from to e false = let same : to ≡ from = cc e in ap (left_of false) same
walked rule (line ∷ more) from to e role =
    at (λ next. walked rule more next to) (is_of_responder line) refl (after_match rule line from.responder) refl (after_match rule line from.initiator) refl role
  where
    stops : left_after rule from line ≡ None → ⊥
    stops none =
        let stopped : fold (left_after_logged rule) (Some from) (line ∷ more) ≡ None =
        ap (λ (s : Option Left). fold (left_after_logged rule) s more) none ∙ fold_stays (left_after_logged rule) None (λ x. refl) more in
        cc (stopped, e)

    goes : (next : Left) → left_after rule from line ≡ Some next → fold (left_after_logged rule) (Some next) more ≡ Some to
    goes next is = sym (ap (λ (s : Option Left). fold (left_after_logged rule) s more) is) ∙ e

    at : ((next : Left) → fold (left_after_logged rule) (Some next) more ≡ Some to → (role : Bool) → AreMatched rule (of_role role more) (left_of role next) (left_of role to))
        → (b : Bool) → is_of_responder line ≡ b → (r : Option (List Line)) → after_match rule line from.responder ≡ r
        → (i : Option (List Line)) → after_match rule line from.initiator ≡ i → (role : Bool)
        → AreMatched rule (of_role role (line ∷ more)) (left_of role from) (left_of role to)
    at here true b None r i is role = absurd (stops (rw (b, r) refl))
    at here true b (Some rest) r i is true =
        one-taken rule true line more from.responder rest to.responder b r (here (both from.initiator rest) (goes (both from.initiator rest) (rw (b, r) refl)) true)
    at here true b (Some rest) r i is false =
        one-skipped rule false line more from.initiator to.initiator b (here (both from.initiator rest) (goes (both from.initiator rest) (rw (b, r) refl)) false)
    at here false b r is None i role = absurd (stops (rw (b, i) refl))
    at here false b r is (Some rest) i false =
        one-taken rule false line more from.initiator rest to.initiator b i (here (both rest from.responder) (goes (both rest from.responder) (rw (b, i) refl)) false)
    at here false b r is (Some rest) i true =
        one-skipped rule true line more from.responder to.responder b (here (both rest from.responder) (goes (both rest from.responder) (rw (b, i) refl)) true)

-- a line that is due and has the values has the place and the values
due-matches : (rule : Rule) (logged line : Line) → is_due rule logged line ≡ true → has_values logged line ≡ true → is_match logged line ≡ true
due-matches InTurn logged line due values = rw (due, values) refl
due-matches ByValues logged line due values = due

matched-among : (rule : Rule) (log right left : List Line) → AreMatched rule log right left → AreAmong log right
matched-among rule [] right left matched = tt
matched-among rule (logged ∷ more) right left matched =
    let is = matched.1 in
    (is.passed, is.found, matched.0, is.right_are, due-matches rule logged is.found is.due is.values, matched-among rule more matched.0 left matched.2)

-- the lines of each role are matched
pub walked-all : (rule : Rule) (right log : List Line) (to : Left) → left_by rule right log ≡ Some to → AllMatched rule right log
walked-all rule right log to e true = (to.responder, walked rule log (both right right) to e true)
walked-all rule right log to e false = (to.initiator, walked rule log (both right right) to e false)

-- a log whose lines are all matched agrees
pub walked-agrees : (rule : Rule) (right log : List Line) (to : Left) → left_by rule right log ≡ Some to → Agrees right log
walked-agrees rule right log to e true = matched-among rule (of_role true log) right to.responder (walked rule log (both right right) to e true)
walked-agrees rule right log to e false = matched-among rule (of_role false log) right to.initiator (walked rule log (both right right) to e false)

-- the right lines that are left for a line
pub walked-left : (rule : Rule) (right log : List Line) (to : Left) (line : Line) → left_by rule right log ≡ Some to
    → AreMatched rule (of_role (is_of_responder line) log) right (left_for to line)
walked-left rule right log to line e = at (is_of_responder line) refl
  where
    at : (b : Bool) → is_of_responder line ≡ b → AreMatched rule (of_role (is_of_responder line) log) right (left_for to line)
    at true b = rw b (walked rule log (both right right) to e true)
    at false b = rw b (walked rule log (both right right) to e false)

-- they are those from one of the two places on
pub left-from : (right : List Line) (initiator responder : ℕ) (line : Line)
    → left_for (left_from right initiator responder) line ≡ drop (if is_of_responder line then responder else initiator) right
left-from right initiator responder line = at (is_of_responder line) refl
  where
    at : (b : Bool) → is_of_responder line ≡ b
        → left_for (left_from right initiator responder) line ≡ drop (if is_of_responder line then responder else initiator) right
    at true b = rw b refl
    at false b = rw b refl

pub place-within : (right : List Line) (initiator responder : ℕ) (line : Line) (place : ℕ) → initiator ≤ length right → responder ≤ length right
    → place ≡ (if is_of_responder line then responder else initiator) → place ≤ length right
place-within right initiator responder line place i r e = at (is_of_responder line) refl
  where
    at : (b : Bool) → is_of_responder line ≡ b → place ≤ length right
    at true b = let same : place ≡ responder = e ∙ (rw b refl) in subst (λ n. n ≤ length right) (sym same) r
    at false b = let same : place ≡ initiator = e ∙ (rw b refl) in subst (λ n. n ≤ length right) (sym same) i

-- where a line isn't matched, it isn't by the lines that are left for its role
stopped-here : (rule : Rule) (left : Left) (line : Line) → left_after rule left line ≡ None → after_match rule line (left_for left line) ≡ None
stopped-here rule left line e = at (is_of_responder line) refl (after_match rule line left.responder) refl (after_match rule line left.initiator) refl
  where
    at : (b : Bool) → is_of_responder line ≡ b → (r : Option (List Line)) → after_match rule line left.responder ≡ r
        → (i : Option (List Line)) → after_match rule line left.initiator ≡ i
        → after_match rule line (left_for left line) ≡ None
    at true b None r i is = rw b r
    at true b (Some rest) r i is =
        let more : left_after rule left line ≡ Some (both left.initiator rest) = rw (b, r) refl in
        absurd (cc (more, e))
    at false b r is None i = rw b i
    at false b r is (Some rest) i =
        let more : left_after rule left line ≡ Some (both rest left.responder) = rw (b, i) refl in
        absurd (cc (more, e))

-- ---- the first match leaves no fewer lines than any other

-- what is left after the first match ends with what is left after another
later : (logged : Line) (p : List Line) (f : Line) (rest q : List Line) (g : Line) (other : List Line) → p ++ f ∷ rest ≡ q ++ g ∷ other
    → All (λ l. is_match logged l ≡ false) p → is_match logged g ≡ true → (between : List Line) × (rest ≡ between ++ other)
later logged [] f rest [] g other e a m = let same : rest ≡ other = cc e in ([], same)
later logged [] f rest (x ∷ q) g other e a m =
    let same : rest ≡ q ++ g ∷ other = cc e in (q ++ g ∷ [], same ∙ sym (append_assoc q (g ∷ []) other))
later logged (x ∷ p) f rest [] g other e a m =
    let same : x ≡ g = cc e in
    let no : is_match logged x ≡ false = All-head (λ l. is_match logged l ≡ false) x p a in
    let yes : is_match logged x ≡ true = ap (is_match logged) same ∙ m in
    absurd (cc (no, yes))
later logged (x ∷ p) f rest (y ∷ q) g other e a m =
    let same : p ++ f ∷ rest ≡ q ++ g ∷ other = cc e in
    later logged p f rest q g other same (All-tail (λ l. is_match logged l ≡ false) x p a) m

-- lines that are among these are among more
among-more : (log between right : List Line) → AreAmong log right → AreAmong log (between ++ right)
among-more [] between right h = tt
among-more (logged ∷ more) between right h =
    (between ++ h.0, h.1, h.2, ap (λ (lines : List Line). between ++ lines) h.3 ∙ sym (append_assoc between h.0 (h.1 ∷ h.2)), h.4, h.5)

last-of : (logged : Line) (p : List Line) (f : Line) (rest : List Line) → All (λ l. is_match logged l ≡ false) (p ++ f ∷ rest) → is_match logged f ≡ false
last-of logged [] f rest a = All-head (λ l. is_match logged l ≡ false) f rest a
last-of logged (x ∷ p) f rest a = last-of logged p f rest (All-tail (λ l. is_match logged l ≡ false) x (p ++ f ∷ rest) a)

-- where a line isn't matched, it and those before it aren't among the right lines in any way
not-among : (log : List Line) (line : Line) (right left : List Line) → AreMatched ByValues log right left
    → All (λ l. is_match line l ≡ false) left → AreAmong (log ++ line ∷ []) right → ⊥
not-among [] line right left same a h =
    let all : All (λ l. is_match line l ≡ false) (h.0 ++ h.1 ∷ h.2) = subst (All (λ l. is_match line l ≡ false)) (same ∙ h.3) a in
    let no : is_match line h.1 ≡ false = last-of line h.0 h.1 h.2 all in
    let yes : is_match line h.1 ≡ true = h.4 in
    cc (no, yes)
not-among (logged ∷ more) line right left matched a h =
    let rest = matched.0 in
    let is = matched.1 in
    let found = later logged is.passed is.found rest h.0 h.1 h.2 (sym is.right_are ∙ h.3) is.others h.4 in
    let wider : AreAmong (more ++ line ∷ []) rest =
    subst (AreAmong (more ++ line ∷ [])) (sym found.1) (among-more (more ++ line ∷ []) found.0 h.2 h.5) in
    not-among more line rest left matched.2 a wider

-- where a line isn't matched after these of its role, this is said of it
pub stopped : (rule : Rule) (left : Left) (line : Line) (before right : List Line) → AreMatched rule before right (left_for left line)
    → left_after rule left line ≡ None → Stops rule before line right (left_for left line)
stopped InTurn left line before right matched e = unmatched-differs line (left_for left line) (stopped-here InTurn left line e)
stopped ByValues left line before right matched e =
    not-among before line right (left_for left line) matched (unmatched-all line (left_for left line) (stopped-here ByValues left line e))

-- ---- lines that aren't among the right ones, at the front of a log

among-front : (front back right : List Line) → AreAmong (front ++ back) right → AreAmong front right
among-front [] back right h = tt
among-front (logged ∷ more) back right h = (h.0, h.1, h.2, h.3, h.4, among-front more back h.2 h.5)

of_role-append : (role : Bool) (a b : List Line) → of_role role (a ++ b) ≡ of_role role a ++ of_role role b
of_role-append true a b = filter-append is_of_responder a b
of_role-append false a b = filter-append (λ line. not (is_of_responder line)) a b

split-at : (log : List Line) (i : ℕ) (line : Line) → i < length log → line ≡ get_or log i line → log ≡ take i log ++ line ∷ drop (suc i) log
split-at log i line within is =
    let back : drop i log ≡ line ∷ drop (suc i) log = drop-cons log i line within ∙ ap (λ (l : Line). l ∷ drop (suc i) log) (sym is) in
    sym (take-append-drop i log) ∙ ap (λ (lines : List Line). take i log ++ lines) back

front-and-more : (role : Bool) (front : List Line) (line : Line) (more : List Line) → is_of_responder line ≡ role
    → of_role role (front ++ line ∷ more) ≡ (of_role role front ++ line ∷ []) ++ of_role role more
front-and-more role front line more e =
    of_role-append role front (line ∷ more) ∙ ap (λ (lines : List Line). of_role role front ++ lines) (one-more role line more e)
    ∙ sym (append_assoc (of_role role front) (line ∷ []) (of_role role more))

-- a log doesn't agree whose lines of a role up to one of them aren't among the right ones
pub disagrees : (right log : List Line) (i : ℕ) (line : Line) → i < length log → line ≡ get_or log i line
    → (AreAmong (of_role (is_of_responder line) (take i log) ++ line ∷ []) right → ⊥) → Agrees right log → ⊥
disagrees right log i line within is never agrees =
    let role = is_of_responder line in
    let whole : of_role role log ≡ (of_role role (take i log) ++ line ∷ []) ++ of_role role (drop (suc i) log) =
    ap (of_role role) (split-at log i line within is) ∙ front-and-more role (take i log) line (drop (suc i) log) refl in
    never (among-front (of_role role (take i log) ++ line ∷ []) (of_role role (drop (suc i) log)) right
    (subst (λ (lines : List Line). AreAmong lines right) whole (agrees role)))

-- a line that stands at an index is one
pub same-line : (log : List Line) (i : ℕ) (a b : Line) → i < length log → a ≡ get_or log i a → b ≡ get_or log i b → a ≡ b
same-line log i a b within e f = e ∙ get_or_default log i a b within ∙ sym f
