-- What comes of vector files that are tested.
use Rattle.std.proofs.Common.{rules, ◌≡◌, ◌∙◌, refl, sym, ap, ap₂, subst, ◌⊎◌, inl, inr, ◌<◌, ◌≤◌, ◌+◌, ℕ, Bool, true, false, not, ◌&&◌, ◌||◌, List, [], ◌∷◌, ◌++◌, Option, Some, None, String, drop, get_or, length, string_bytes, take, append_assoc, append-nil, arith}
use Rattle.std.specs.Prelude.{IfOk, IsTrue, Result, Ok, Err, cond, map}
use Rattle.std.proofs.lemmas.Grind.{flat_map-append}
use Rattle.noise_tool.proofs.Common.{IfErr, IfSome, count_by, Global, sum_by, Appends, Keeps, flat_map_more, map-append, map_more, map_push, take-append-drop, All-push, sum_by-append, Plan, status_of, lines_text, AppendsPrefix, error_text, Fault, bytes_of, IsVectorFile, file_text, Any, VectorFile, IsJudged, is_met, verdict_text, traces_of, IsFilePatternFault, IsStartFault, IsRunFault, IsRunOf, expected_in, all_lines, TestedName, EndsTest, HaveTested, IsBelowVerdict, IsOfFile, IsPatternOfText, IsPieceOf, IsTested, IsTestedFile, IsVerdictOn, RunsTo, TestsPrefix, tested_names, tested_names_after, asked_in, failed_in, is_input, passed_in, tally_line, tested_text, verdicts_text, HasTraces}
use Rattle.noise_tool.proofs.AnswerLemmas.{after-prefix, kept-appends, whole-prefix}
use Rattle.noise_tool.specs.Answers.{AnswerValue, IsPrinted, fault_value}
use Rattle.noise_tool.specs.TracedText.{front_if}
use Rattle.noise_names.specs.Names.{Section}
use Rattle.noise_names.specs.Text.{line}
use Rattle.noise_lines.specs.declared.verdict.Difference.{Difference}
use Rattle.noise_tool.specs.Testing.{Judged}
use Rattle.noise_tool.specs.declared.testing.TestedRun.{TestedRun}
use Rattle.noise_run.specs.declared.tracing.Traced.{Traced}
use Rattle.noise_lines.specs.declared.verdict.Verdict.{Verdict}
use Rattle.noise_lines.specs.declared.verdict.Verdict.TheVariants.{Differs, CannotRun, NamedTwice}
use Rattle.noise_lines.specs.declared.faults.Fault.TheVariants as fault

-- ---- the verdict on a file

-- what came of the run of a text, with a trace
pub runs-traced : (traces : Bool) (text : List ℕ) (file : VectorFile) (result : Result Traced Fault) → IsVectorFile file → text ≡ file_text file
    → IfOk result (λ t. HasTraces all_lines file (bytes_of t.outcome.lines.items) (bytes_of t.start.items) (traces_of t.traces.items))
    → IfOk result (λ t. bytes_of t.outcome.expected.items ≡ expected_in file.version) → length text ≤ 4194304 → IfOk result (RunsTo traces text)
runs-traced traces text file (Ok t) right spelled shown expected short = search
runs-traced traces text file (Err why) right spelled shown expected short = tt

-- and without one
pub runs-untraced : (traces : Bool) (text : List ℕ) (file : VectorFile) (result : Result Traced Fault) → traces ≡ false → IsVectorFile file
    → text ≡ file_text file → IfOk result (λ t. IsRunOf file (bytes_of t.outcome.lines.items))
    → IfOk result (λ t. bytes_of t.outcome.expected.items ≡ expected_in file.version) → length text ≤ 4194304 → IfOk result (RunsTo traces text)
runs-untraced traces text file (Ok t) none right spelled run expected short = record {
  file = file;
  right = right;
  text_is = spelled;
  short = short;
  run = run;
  expected = expected;
  shown = λ wanted. let bad = sym none ∙ wanted in cc bad;
}
runs-untraced traces text file (Err why) none right spelled run expected short = tt

-- why a text isn't run
pub start-fault : {T : Type 0} (text : List ℕ) (file : VectorFile) (result : Result T Fault) → IsVectorFile file → text ≡ file_text file
    → IfErr result (λ why. IsStartFault file why) → IfErr result (λ why. (status_of why ≡ 3) ⊎ IsRunFault Any text why)
start-fault text file (Ok t) right spelled is = tt
start-fault text file (Err why) right spelled is = inr (inr (inr (file, right, spelled, is)))

-- the same of a file's bytes, where they are known
pub ok-known : {T : Type 0} (P : List ℕ → T → Type 0) (known : Option (List ℕ)) (text items : List ℕ) (result : Result T Fault) → text ≡ items
    → IfSome known (λ bytes. items ≡ bytes) → IfOk result (P text) → IfOk result (λ t. IfSome known (λ bytes. P bytes t))
ok-known P None text items (Ok t) same bytes h = tt
ok-known P (Some known) text items (Ok t) same bytes h = subst (λ (b : List ℕ). P b t) (same ∙ bytes) h
ok-known P known text items (Err why) same bytes h = tt

pub fails-known : {T : Type 0} (known : Option (List ℕ)) (text items : List ℕ) (result : Result T Fault) → text ≡ items
    → IfSome known (λ bytes. items ≡ bytes) → IfErr result (λ why. (status_of why ≡ 3) ⊎ IsRunFault Any text why)
    → IfErr result (λ why. (status_of why ≡ 3) ⊎ IfSome known (λ bytes. IsRunFault Any bytes why))
fails-known known text items (Ok t) same bytes fails = tt
fails-known None text items (Err why) same bytes fails = inr tt
fails-known (Some known) text items (Err why) same bytes fails =
    subst (λ (b : List ℕ). (status_of why ≡ 3) ⊎ IsRunFault Any b why) (same ∙ bytes) fails

-- the lines that follow: these of the piece, and the front of this trace
abbrev pub below_of : Bool → Verdict → List (List ℕ) → Traced → List (List ℕ)
below_of traces (Differs d) piece t = piece ++ front_if traces t d.number
below_of traces verdict piece t = []

-- the lines that follow the two that differ
below-is : (traces : Bool) (text : List ℕ) (file : VectorFile) (t : Traced) (plan : Plan) (verdict : Verdict) (piece : List (List ℕ))
    → (traces ≡ true → HasTraces all_lines file (bytes_of t.outcome.lines.items) (bytes_of t.start.items) (traces_of t.traces.items))
    → IsPatternOfText text plan → IsPieceOf plan verdict piece
    → IsBelowVerdict traces text file (bytes_of t.outcome.lines.items) verdict (below_of traces verdict piece t)
below-is traces text file t plan (Differs d) piece shown pattern is = search rules
below-is traces text file t plan _ piece shown pattern is = tt

-- a verdict on lines is of the file
judged-file : (lines expected : List (List ℕ)) (verdict : Verdict) → IsJudged lines expected verdict → IsOfFile verdict
judged-file lines expected (CannotRun why) h = absurd h
judged-file lines expected NamedTwice h = absurd h
judged-file lines expected _ h = tt

pub judged-known : (traces : Bool) (known : Option (List ℕ)) (unreadable : Bool) (run : TestedRun) (verdict : Verdict) (piece : List (List ℕ))
    → IfSome known (λ bytes. RunsTo traces bytes run.traced) → IfSome known (λ bytes. IsPatternOfText bytes run.pattern)
    → IsJudged (bytes_of run.traced.outcome.lines.items) (bytes_of run.traced.outcome.expected.items) verdict
    → IsPieceOf run.pattern verdict piece → IsVerdictOn false traces known unreadable verdict (below_of traces verdict piece run.traced)
judged-known traces None unreadable run verdict piece runs pattern judged is = inr (judged-file _ _ verdict judged, tt)
judged-known traces (Some bytes) unreadable run verdict piece runs pattern judged is =
    let t = run.traced in
    inr (
      judged-file _ _ verdict judged,
      inr (record {
        file = runs.file;
        right = runs.right;
        text_is = runs.text_is;
        short = runs.short;
        lines = bytes_of t.outcome.lines.items;
        run = runs.run;
        judged = subst (λ (expected : List (List ℕ)). IsJudged (bytes_of t.outcome.lines.items) expected verdict) runs.expected judged;
        below_is = below-is traces bytes runs.file t run.pattern verdict piece runs.shown pattern is;
      }),
    )

-- a fault ends the command, or is a verdict
sort-of : (why : Fault) → EndsTest why ⊎ (why ≡ fault.Unreadable) ⊎ (status_of why ≤ 2)
sort-of fault.Unreadable = inr (inl refl)
sort-of fault.Unwritable = inl (inr refl)
sort-of fault.Memory = inl (inl refl)
sort-of _ = inr (inr (omega arith))

-- the verdict on a file that isn't run
pub fault-known : (traces : Bool) (known : Option (List ℕ)) (unreadable : Bool) (why : Fault) → ¬ EndsTest why
    → (why ≡ fault.Unreadable → IsTrue unreadable) → (status_of why ≡ 3) ⊎ IfSome known (λ bytes. IsRunFault Any bytes why)
    → IsVerdictOn false traces known unreadable (CannotRun why) []
fault-known traces known unreadable why other failed h = of-sort (sort-of why) known h
  where
    of-sort : EndsTest why ⊎ (why ≡ fault.Unreadable) ⊎ (status_of why ≤ 2) → (known : Option (List ℕ))
        → (status_of why ≡ 3) ⊎ IfSome known (λ bytes. IsRunFault Any bytes why) → IsVerdictOn false traces known unreadable (CannotRun why) []
    of-sort (inl ends) known h = absurd (other ends)
    of-sort (inr (inl is)) known h = inl (ap CannotRun is, failed is)
    of-sort (inr (inr few)) known (inl three) = absurd (omega (arith, few, three))
    of-sort (inr (inr few)) None (inr h) = inr (few, tt)
    of-sort (inr (inr few)) (Some bytes) (inr h) = inr (few, inl h)

-- two lists of lines
lines-both : (first more : List (List ℕ)) → lines_text (first ++ more) ≡ lines_text first ++ lines_text more
lines-both first more = flat_map-append line first more

-- the text of a run that differs
pub differs-text : (traces : Bool) (name : List ℕ) (d : Difference) (piece : List (List ℕ)) (t : Traced) (head text : List ℕ)
    → head ≡ verdict_text name (Differs d) ++ lines_text piece → text ≡ head ++ lines_text (front_if traces t d.number)
    → text ≡ tested_text name (Differs d) (below_of traces (Differs d) piece t)
differs-text traces name d piece t head text head_is is =
    is ∙ ap (λ (h : List ℕ). h ++ lines_text (front_if traces t d.number)) head_is
    ∙ append_assoc (verdict_text name (Differs d)) (lines_text piece) (lines_text (front_if traces t d.number))
    ∙ ap (λ (l : List ℕ). verdict_text name (Differs d) ++ l) (sym (lines-both piece (front_if traces t d.number)))

-- and of one that doesn't
pub plain-text : (traces : Bool) (name : List ℕ) (verdict : Verdict) (t : Traced) → ((d : Difference) → verdict ≡ Differs d → ⊥)
    → (tested_text name verdict (below_of traces verdict [] t) ≡ verdict_text name verdict) × ((plan : Plan) → IsPieceOf plan verdict [])
plain-text traces name (Differs d) t other = absurd (other d refl)
plain-text traces name _ t other = (refl, λ plan. tt)

pub tested-run : (traces : Bool) (known : Option (List ℕ)) (unreadable : Bool) (name : List ℕ) (run : TestedRun) (verdict : Verdict)
    (piece : List (List ℕ)) (text : List ℕ) (met : Bool)
    → IfSome known (λ bytes. RunsTo traces bytes run.traced) × IfSome known (λ bytes. IsPatternOfText bytes run.pattern)
    → IsJudged (bytes_of run.traced.outcome.lines.items) (bytes_of run.traced.outcome.expected.items) verdict
    → IsPieceOf run.pattern verdict piece → text ≡ tested_text name verdict (below_of traces verdict piece run.traced) → met ≡ is_met verdict
    → IsTestedFile false traces known unreadable name text met
tested-run traces known unreadable name run verdict piece text met comes judged is text_is met_is = record {
  verdict = verdict;
  below = below_of traces verdict piece run.traced;
  right = judged-known traces known unreadable run verdict piece comes.0 comes.1 judged is;
  text_is = text_is;
  met_is = met_is;
}

-- a file that isn't run
pub unrun-tested : (traces : Bool) (known : Option (List ℕ)) (unreadable : Bool) (name : List ℕ) (why : Fault) (verdict : Verdict) (text : List ℕ)
    (met : Bool) → verdict ≡ CannotRun why → ¬ EndsTest why → (why ≡ fault.Unreadable → IsTrue unreadable)
    → (status_of why ≡ 3) ⊎ IfSome known (λ bytes. IsRunFault Any bytes why) → text ≡ verdict_text name verdict → met ≡ false
    → IsTestedFile false traces known unreadable name text met
unrun-tested traces known unreadable name why verdict text met is other failed fails text_is met_is = record {
  verdict = CannotRun why;
  below = [];
  right = fault-known traces known unreadable why other failed fails;
  text_is = text_is ∙ ap (verdict_text name) is;
  met_is = met_is;
}

no-pattern-read : (block : Option Plan) (name : Section) → ¬ IsFilePatternFault block name fault.Unreadable
no-pattern-read None name h = h
no-pattern-read (Some pattern) name h = h

-- why a file has no pattern is why it has no ends
pattern-start : (file : VectorFile) (why : Fault) (block : Option Plan) → block ≡ file.block → IsFilePatternFault block file.protocol why
    → IsStartFault file why
pattern-start file (fault.Setup role f) None is h = absurd h
pattern-start file (fault.Setup role f) (Some plan) is h = absurd h
pattern-start file fault.Memory block is h = tt
pattern-start file why block is h = subst (λ (b : Option Plan). IsFilePatternFault b file.protocol why) is h

pub pattern-starts : {T : Type 0} (file : VectorFile) (block : Option Plan) (result : Result T Fault) → block ≡ file.block
    → IfErr result (λ why. IsFilePatternFault block file.protocol why) → IfErr result (λ why. IsStartFault file why)
pattern-starts file block (Ok t) is h = tt
pattern-starts file block (Err why) is h = pattern-start file why block is h

pub patterns-of : {T : Type 0} (P : Option Plan → T → Type 0) (block other : Option Plan) (result : Result T Fault) → block ≡ other
    → IfOk result (P block) → IfOk result (P other)
patterns-of P block other result is h = subst (λ (b : Option Plan). IfOk result (P b)) is h

pub start-unread : (file : VectorFile) (why : Fault) → IsStartFault file why → ¬ (why ≡ fault.Unreadable)
start-unread file why h = λ e. no-pattern-read file.block file.protocol (subst (IsStartFault file) e h)

-- ---- the piece of a message

pub start-read : {T : Type 0} (file : VectorFile) (result : Result T Fault) → IfErr result (λ why. IsStartFault file why)
    → IfErr result (λ why. ¬ (why ≡ fault.Unreadable))
start-read file (Ok t) h = tt
start-read file (Err why) h = λ e. no-pattern-read file.block file.protocol (subst (IsStartFault file) e h)

-- ---- several files

counted : {X : Type 0} (p : X → Bool) (xs : List X) (x : X) → count_by p (xs ++ x ∷ []) ≡ count_by p xs + cond (p x) 1 0
counted {X = X} p xs x =
    let last : 0 + cond (p x) 1 0 ≡ cond (p x) 1 0 = omega arith in
    sum_by-append (λ (y : X). cond (p y) 1 0) xs (x ∷ []) ∙ ap (λ (n : ℕ). sum_by (λ (y : X). cond (p y) 1 0) xs + n) last

tested-more : (traces : Bool) (bytes_at : List ℕ → Option (List ℕ)) (unreadable : List ℕ → Bool) (names : List TestedName) (name : List ℕ) (again : Bool) (a m e : Option (List ℕ)) (passed failed : ℕ)
    (met : Bool) (p f : ℕ) → HaveTested traces bytes_at unreadable names a m passed failed
    → (text : List ℕ) → IsTestedFile again traces (bytes_at name) (unreadable name) name text met → Appends m e text → p ≡ passed + cond met 1 0
    → f ≡ failed + cond (not met) 1 0 → HaveTested traces bytes_at unreadable (names ++ (name, again) ∷ []) a e p f
tested-more traces bytes_at unreadable names name again a m e passed failed met p f before text one written p_is f_is =
    let written_is : Appends m e (tested_text name one.verdict one.below) = subst (Appends m e) one.text_is written in
    let this : Judged = record { name = name; again = again; verdict = one.verdict; below = one.below } in
    record {
      verdicts = before.verdicts ++ this ∷ [];
      named = map_push asked_in before.verdicts this ∙ ap (λ (ns : List TestedName). ns ++ (name, again) ∷ []) before.named;
      right = All-push (λ (v : Judged). IsVerdictOn v.again traces (bytes_at v.name) (unreadable v.name) v.verdict v.below) before.verdicts this before.right one.right;
      printed = search (rules, flat_map_more);
      passed_is = search (rules, counted);
      failed_is = search (rules, counted);
    }

-- one file more, which passed
pub passed-more : (traces : Bool) (bytes_at : List ℕ → Option (List ℕ)) (unreadable : List ℕ → Bool) (names all : List TestedName) (name : List ℕ) (again : Bool) (a m e : Option (List ℕ))
    (passed failed : ℕ) (met : Bool) → all ≡ names ++ (name, again) ∷ [] → met ≡ true → HaveTested traces bytes_at unreadable names a m passed failed
    → (text : List ℕ) → IsTestedFile again traces (bytes_at name) (unreadable name) name text met → Appends m e text
    → HaveTested traces bytes_at unreadable all a e (passed + 1) failed
passed-more traces bytes_at unreadable names all name again a m e passed failed met all_is is before text one written =
    let more : passed + 1 ≡ passed + cond met 1 0 = rw is refl in
    let same : failed ≡ failed + cond (not met) 1 0 = rw is (omega arith) in
    rw all_is (tested-more traces bytes_at unreadable names name again a m e passed failed met (passed + 1) failed before text one written more same)

-- one file more, which failed
pub failed-more : (traces : Bool) (bytes_at : List ℕ → Option (List ℕ)) (unreadable : List ℕ → Bool) (names all : List TestedName) (name : List ℕ) (again : Bool) (a m e : Option (List ℕ))
    (passed failed : ℕ) (met : Bool) → all ≡ names ++ (name, again) ∷ [] → met ≡ false → HaveTested traces bytes_at unreadable names a m passed failed
    → (text : List ℕ) → IsTestedFile again traces (bytes_at name) (unreadable name) name text met → Appends m e text
    → HaveTested traces bytes_at unreadable all a e passed (failed + 1)
failed-more traces bytes_at unreadable names all name again a m e passed failed met all_is is before text one written =
    let same : passed ≡ passed + cond met 1 0 = rw is (omega arith) in
    let more : failed + 1 ≡ failed + cond (not met) 1 0 = rw is refl in
    rw all_is (tested-more traces bytes_at unreadable names name again a m e passed failed met passed (failed + 1) before text one written same more)

-- ---- a prefix of what is printed

pub err-any : {T E : Type 0} (result : Result T E) (P : Type 0) → P → IfErr result (λ _. P)
err-any (Ok x) P h = tt
err-any (Err e) P h = h

-- no file more than these
pub none-begun : (traces : Bool) (bytes_at : List ℕ → Option (List ℕ)) (unreadable : List ℕ → Bool) (names others : List TestedName) (all : List (List ℕ))
    (a e : Option (List ℕ)) (passed failed : ℕ) → names ++ others ≡ tested_names all → HaveTested traces bytes_at unreadable names a e passed failed
    → TestsPrefix traces bytes_at unreadable all a e
none-begun traces bytes_at unreadable names others all a e passed failed is before = search rules

-- the next file has begun
pub one-begun : (traces : Bool) (bytes_at : List ℕ → Option (List ℕ)) (unreadable : List ℕ → Bool) (names others : List TestedName) (all : List (List ℕ))
    (name : List ℕ) (again : Bool) (a m e : Option (List ℕ)) (passed failed : ℕ) (text : List ℕ) (met : Bool) → names ++ (name, again) ∷ others ≡ tested_names all
    → HaveTested traces bytes_at unreadable names a m passed failed → IsTestedFile again traces (bytes_at name) (unreadable name) name text met
    → AppendsPrefix m e text → TestsPrefix traces bytes_at unreadable all a e
one-begun traces bytes_at unreadable names others all name again a m e passed failed text met is before one begun =
    let this : Judged = record { name = name; again = again; verdict = one.verdict; below = one.below } in
    let shown = tested_text name one.verdict one.below in
    let begun_is : AppendsPrefix m e shown = subst (AppendsPrefix m e) one.text_is begun in
    let named : map asked_in (before.verdicts ++ this ∷ []) ≡ names ++ (name, again) ∷ [] = search (rules, map_push) in
    let whole : verdicts_text before.verdicts ++ shown ≡ verdicts_text (before.verdicts ++ this ∷ []) ++ [] =
    flat_map_more (λ (v : Judged). tested_text v.name v.verdict v.below) [] before.verdicts this
    ∙ sym (append-nil (verdicts_text (before.verdicts ++ this ∷ []))) in
    record {
      verdicts = before.verdicts ++ this ∷ [];
      others = others;
      named = ap (λ (ns : List TestedName). ns ++ others) named ∙ append_assoc names ((name, again) ∷ []) others ∙ is;
      right = All-push (λ (v : Judged). IsVerdictOn v.again traces (bytes_at v.name) (unreadable v.name) v.verdict v.below) before.verdicts this before.right one.right;
      last = [];
      last_is = inl refl;
      grown = subst (AppendsPrefix a e) whole (after-prefix a m e (verdicts_text before.verdicts) shown before.printed begun_is);
    }

-- all files are tested, and the last line has begun
pub last-begun : (traces : Bool) (bytes_at : List ℕ → Option (List ℕ)) (unreadable : List ℕ → Bool) (names : List (List ℕ)) (a m e : Option (List ℕ))
    (passed failed : ℕ) (tally : List ℕ) → HaveTested traces bytes_at unreadable (tested_names names) a m passed failed → tally ≡ tally_line passed failed
    → AppendsPrefix m e tally → TestsPrefix traces bytes_at unreadable names a e
last-begun traces bytes_at unreadable names a m e passed failed tally before tally_is grown = record {
  verdicts = before.verdicts;
  others = [];
  named = append-nil _ ∙ before.named;
  right = before.right;
  last = tally;
  last_is = inr (refl, tally_is ∙ ap₂ tally_line before.passed_is before.failed_is);
  grown = after-prefix a m e (verdicts_text before.verdicts) tally before.printed grown;
}

-- and written, and kept
pub kept-begun : (traces : Bool) (bytes_at : List ℕ → Option (List ℕ)) (unreadable : List ℕ → Bool) (names : List (List ℕ)) (a m n e : Option (List ℕ))
    (passed failed : ℕ) (tally : List ℕ) → HaveTested traces bytes_at unreadable (tested_names names) a m passed failed → tally ≡ tally_line passed failed
    → Appends m n tally → Keeps n e → TestsPrefix traces bytes_at unreadable names a e
kept-begun traces bytes_at unreadable names a m n e passed failed tally before tally_is written kept = search (last-begun, whole-prefix, kept-appends)

-- all of it is printed
pub tested-begun : (traces : Bool) (bytes_at : List ℕ → Option (List ℕ)) (unreadable : List ℕ → Bool) (names : List (List ℕ)) (a e : Option (List ℕ))
    (status : ℕ) → IsTested traces bytes_at unreadable names a e status → TestsPrefix traces bytes_at unreadable names a e
tested-begun traces bytes_at unreadable names a e status t = record {
  verdicts = t.verdicts;
  others = [];
  named = append-nil _ ∙ t.named;
  right = t.right;
  last = tally_line (passed_in t.verdicts) (failed_in t.verdicts);
  last_is = inr (refl, refl);
  grown = whole-prefix a e _ t.printed;
}

-- one more of the names
pub name-more : (names : List (String Global)) (i : ℕ) (item : String Global) (name : List ℕ) → i < length names → item ≡ get_or names i item
    → name ≡ string_bytes item → map string_bytes (take (i + 1) names) ≡ map string_bytes (take i names) ++ name ∷ []
name-more names i item name less is name_is =
    map_more string_bytes names i item less
    ∙ ap (λ (t : List ℕ). map string_bytes (take i names) ++ t ∷ []) (ap string_bytes (sym is) ∙ sym name_is)

-- the place of a file among the names
pub names-at : (names : List (String Global)) (i : ℕ) (name : List ℕ) → map string_bytes (take (i + 1) names) ≡ map string_bytes (take i names) ++ name ∷ []
    → map string_bytes (take i names) ++ name ∷ map string_bytes (drop (i + 1) names) ≡ map string_bytes names
names-at names i name here =
    sym (append_assoc (map string_bytes (take i names)) (name ∷ []) (map string_bytes (drop (i + 1) names)))
    ∙ ap (λ (ns : List (List ℕ)). ns ++ map string_bytes (drop (i + 1) names)) (sym here)
    ∙ sym (map-append string_bytes (take (i + 1) names) (drop (i + 1) names)) ∙ ap (map string_bytes) (take-append-drop (i + 1) names)

-- ---- standard input that is named again

-- whether standard input was named among these
abbrev pub named-after : Bool → List (List ℕ) → Bool
named-after named [] = named
named-after named (name ∷ more) = named-after (named || is_input name) more

named-more : (named : Bool) (names : List (List ℕ)) (name : List ℕ) → named-after named (names ++ name ∷ []) ≡ (named-after named names || is_input name)
named-more named [] name = refl
named-more named (n ∷ names) name = named-more (named || is_input n) names name

asked-append : (named : Bool) (names more : List (List ℕ))
    → tested_names_after named (names ++ more) ≡ tested_names_after named names ++ tested_names_after (named-after named names) more
asked-append named [] more = refl
asked-append named (n ∷ names) more = search ((asked-append (named || is_input n) names more))

-- one name more
asked-more : (names all : List (List ℕ)) (name : List ℕ) (again : Bool) → all ≡ names ++ name ∷ [] → again ≡ (is_input name && named-after false names)
    → tested_names all ≡ tested_names names ++ (name, again) ∷ []
asked-more names all name again all_is again_is = search (rules, asked-append)

-- the names up to one of them, by whether that is standard input again
pub asked-here : (names : List (String Global)) (i : ℕ) (item : String Global) (name : List ℕ) (again named : Bool) → i < length names
    → item ≡ get_or names i item → name ≡ string_bytes item → named ≡ named-after false (map string_bytes (take i names)) → again ≡ (is_input name && named)
    → tested_names (map string_bytes (take (i + 1) names)) ≡ tested_names (map string_bytes (take i names)) ++ (name, again) ∷ []
asked-here names i item name again named less item_is name_is named_is again_is = search (rules, asked-more, name-more)

-- and by whether standard input is named among them
pub named-here : (names : List (String Global)) (i : ℕ) (item : String Global) (name : List ℕ) (named next : Bool) → i < length names
    → item ≡ get_or names i item → name ≡ string_bytes item → named ≡ named-after false (map string_bytes (take i names)) → next ≡ (named || is_input name)
    → next ≡ named-after false (map string_bytes (take (i + 1) names))
named-here names i item name named next less item_is name_is named_is next_is =
    next_is ∙ ap (λ (b : Bool). b || is_input name) named_is ∙ sym (named-more false (map string_bytes (take i names)) name)
    ∙ ap (named-after false) (sym (name-more names i item name less item_is name_is))

-- the names, cut before one of them
asked-cut : (names : List (String Global)) (i : ℕ)
    → tested_names (map string_bytes (take i names)) ++ tested_names_after (named-after false (map string_bytes (take i names))) (map string_bytes (drop i names))
    ≡ tested_names (map string_bytes names)
asked-cut names i = sym (asked-append false (map string_bytes (take i names)) (map string_bytes (drop i names)))
    ∙ ap tested_names (sym (map-append string_bytes (take i names) (drop i names)) ∙ ap (map string_bytes) (take-append-drop i names))

-- the files after the first
abbrev pub others-at : List (String Global) → ℕ → List TestedName
others-at names i = tested_names_after (named-after false (map string_bytes (take i names))) (map string_bytes (drop i names))

-- the place of a file among them
pub asked-at : (names : List (String Global)) (i : ℕ) (name : List ℕ) (again : Bool)
    → tested_names (map string_bytes (take (i + 1) names)) ≡ tested_names (map string_bytes (take i names)) ++ (name, again) ∷ []
    → tested_names (map string_bytes (take i names)) ++ (name, again) ∷ others-at names (i + 1) ≡ tested_names (map string_bytes names)
asked-at names i name again here =
    sym (append_assoc (tested_names (map string_bytes (take i names))) ((name, again) ∷ []) (others-at names (i + 1)))
    ∙ ap (λ (fs : List TestedName). fs ++ others-at names (i + 1)) (sym here) ∙ asked-cut names (i + 1)

-- ---- where the command ends

abbrev Ended : AnswerValue → Type 0
Ended told = (told.out ≡ []) × (told.status ≡ 3) × ((f : Fault) × EndsTest f × (told.err ≡ error_text f))

of-memory : (told : AnswerValue) → told ≡ fault_value fault.Memory → Ended told
of-memory told is = (
  ap (λ (t : AnswerValue). t.out) is,
  ap (λ (t : AnswerValue). t.status) is,
  (fault.Memory, inl refl, ap (λ (t : AnswerValue). t.err) is),
)

of-unwritable : (told : AnswerValue) → told ≡ fault_value fault.Unwritable → Ended told
of-unwritable told is = (
  ap (λ (t : AnswerValue). t.out) is,
  ap (λ (t : AnswerValue). t.status) is,
  (fault.Unwritable, inr refl, ap (λ (t : AnswerValue). t.err) is),
)

ended : (why : Fault) (told : AnswerValue) → EndsTest why → (told ≡ fault_value why) ⊎ (told ≡ fault_value fault.Memory) → Ended told
ended why told (inl memory) (inl is) = of-memory told (is ∙ ap fault_value memory)
ended why told (inr unwritable) (inl is) = of-unwritable told (is ∙ ap fault_value unwritable)
ended why told ends (inr is) = of-memory told is

-- such a fault is printed: the output is as it was
pub ends-printed : {O E : Type 0} (printed : O → Option (List ℕ)) (reported : E → Option (List ℕ)) (why : Fault) (out out_after : O) (err err_after : E)
    (status : ℕ) → EndsTest why
    → (told : AnswerValue) × ((told ≡ fault_value why) ⊎ (told ≡ fault_value fault.Memory)) × IsPrinted printed reported told out out_after err err_after status
    → (out_after ≡ out) × (status ≡ 3) × ((f : Fault) × EndsTest f × AppendsPrefix (reported err) (reported err_after) (error_text f))
ends-printed printed reported why out out_after err err_after status ends (told, of, p) =
    let e = ended why told ends of in (
      p.unwritten e.0,
      elim p.ends [ inl whole ↦ whole.0 ∙ e.1 | inr cut ↦ cut.0 ],
      elim p.ends [
        | inl whole ↦ (e.2.0, e.2.1, subst (AppendsPrefix (reported err) (reported err_after)) e.2.2 whole.2)
        | inr cut ↦ (fault.Unwritable, inr refl, cut.1)
      ],
    )
