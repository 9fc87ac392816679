-- What is told of what comes of a command, and what comes of printing it.
use Rattle.std.proofs.Common.{◌≡◌, ◌≤◌, ◌∙◌, refl, sym, subst, inl, inr, ℕ, ◌==◌, ◌&&◌, Bool, true, false, List, [], ◌∷◌, ◌++◌, Vec, Option, Some, None, Result, Ok, Err, append_assoc, append-nil, arith, length, rules}
use Rattle.std.specs.Prelude.{IfOk, OnOk}
use Rattle.std.proofs.lemmas.Bool.{false≢true}
use Rattle.std.proofs.lemmas.Bool.Decides.{Decides-eqb}
use Rattle.noise_lines.specs.TracedLines.{with_traces}
use Rattle.noise_tool.proofs.Common.{Global, Appends, AppendsPrefix, IfErr, Fault, Keeps, bytes_of, fault_line, lines_text, status_of}
use Rattle.noise_tool.specs.Answers.{AnswerValue, IsPrinted, IsToldOf, Outcome, TellsFault, answer_value, fault_value, printed_text}
use Rattle.noise_names.specs.declared.faults.RuleFault.{RuleFault}
use Rattle.noise_tool.specs.declared.answers.Answer.{Answer}
use Rattle.noise_lines.specs.declared.faults.Fault.TheVariants as fault

-- ---- an empty text

no-append : (xs ys : List ℕ) → xs ++ ys ≡ [] → (xs ≡ []) × (ys ≡ [])
no-append [] ys e = (refl, e)
no-append (x ∷ xs) ys e = absurd (cc (e))

no-lines : (xs : List (List ℕ)) → lines_text xs ≡ [] → xs ≡ []
no-lines [] e = refl
no-lines ([] ∷ xs) e = absurd (cc (e))
no-lines ((b ∷ x) ∷ xs) e = absurd (cc (e))

no-traced : (start lines : List (Vec ℕ Global)) (traces : List (List (List ℕ))) → bytes_of start ++ with_traces (bytes_of lines) traces ≡ []
    → (start ≡ []) × (lines ≡ [])
no-traced [] [] traces e = (refl, refl)
no-traced [] (l ∷ lines) [] e = absurd (cc (e))
no-traced [] (l ∷ lines) (t ∷ traces) e = absurd (cc (e))
no-traced (s ∷ start) lines traces e = absurd (cc (e))

no-text : (head : List ℕ) (start lines : List (Vec ℕ Global)) (traces : List (List (List ℕ)))
    → head ++ lines_text (bytes_of start ++ with_traces (bytes_of lines) traces) ≡ [] → (head ≡ []) × (start ≡ []) × (lines ≡ [])
no-text head start lines traces e =
    let both = no-append head (lines_text (bytes_of start ++ with_traces (bytes_of lines) traces)) e in
    let two = no-traced start lines traces (no-lines (bytes_of start ++ with_traces (bytes_of lines) traces) both.1) in
    (both.0, two.0, two.1)

abbrev pub is_nothing : List ℕ → List (Vec ℕ Global) → List (Vec ℕ Global) → Bool
is_nothing head start lines = length head == 0 && length start == 0 && length lines == 0

and-true : (a b : Bool) → (a && b) ≡ true → (a ≡ true) × (b ≡ true)
and-true true b e = (refl, e)
and-true false b e = let bad : false ≡ true = e in absurd (false≢true bad)

no-items : {X : Type 0} (xs : List X) → (length xs == 0) ≡ true → xs ≡ []
no-items [] e = refl
no-items (x ∷ xs) e =
    let zero : length (x ∷ xs) ≡ 0 = (Decides-eqb (length (x ∷ xs)) 0).0 e in
    absurd (omega (arith, zero))

pub nothing-is : (head : List ℕ) (start lines : List (Vec ℕ Global)) (traces : List (List (List ℕ))) → is_nothing head start lines ≡ true
    → head ++ lines_text (bytes_of start ++ with_traces (bytes_of lines) traces) ≡ []
nothing-is head start lines traces e =
    let last = and-true (length head == 0 && length start == 0) (length lines == 0) e in
    let first = and-true (length head == 0) (length start == 0) last.0 in
    rw (no-items head first.0, no-items start first.1, no-items lines last.1) refl

pub something-is : (head : List ℕ) (start lines : List (Vec ℕ Global)) (traces : List (List (List ℕ))) → is_nothing head start lines ≡ false
    → head ++ lines_text (bytes_of start ++ with_traces (bytes_of lines) traces) ≡ [] → ⊥
something-is head start lines traces e none =
    let all = no-text head start lines traces none in
    let bad : is_nothing [] [] [] ≡ false = rw (all.0, all.1, all.2) at e in
    cc bad

-- ---- what is on an output

pub kept-appends : (a b c : Option (List ℕ)) (bs : List ℕ) → Appends a b bs → Keeps b c → Appends a c bs
kept-appends None b c bs p q = tt
kept-appends (Some x) None c bs p q = absurd p
kept-appends (Some x) (Some y) None bs p q = absurd q
kept-appends (Some x) (Some y) (Some z) bs p q = q ∙ p

pub whole-prefix : (a e : Option (List ℕ)) (text : List ℕ) → Appends a e text → AppendsPrefix a e text
whole-prefix a e text h = record { prefix = text; rest = []; begins = sym (append-nil text); appended = h }

pub more-prefix : (a e : Option (List ℕ)) (text more : List ℕ) → AppendsPrefix a e text → AppendsPrefix a e (text ++ more)
more-prefix a e text more p = search (rules, append_assoc)

pub after-prefix : (a m e : Option (List ℕ)) (first next : List ℕ) → Appends a m first → AppendsPrefix m e next → AppendsPrefix a e (first ++ next)
after-prefix a m e first next h p = search (rules, append_assoc)

pub ok-any : {T E : Type 0} (result : Result T E) (P : Type 0) → P → OnOk result P
ok-any (Ok x) P h = h
ok-any (Err e) P h = tt

-- ---- what is told

-- what holds of an answer and of each fault holds of what is told
told-by : (Is : AnswerValue → Type 0) (made : Result Answer Fault) (told : AnswerValue) → IfOk made (λ answer. Is (answer_value answer))
    → IfErr made (λ why. Is (fault_value why)) → Is (fault_value fault.Memory) → IsToldOf made told → Is told
told-by Is (Ok answer) told ok err memory is = subst Is (sym is) ok
told-by Is (Err why) told ok err memory (inl is) = subst Is (sym is) err
told-by Is (Err why) told ok err memory (inr is) = subst Is (sym is) memory

pub outcome-by : {O E : Type 0} (printed : O → Option (List ℕ)) (reported : E → Option (List ℕ)) (Is : AnswerValue → Type 0) (made : Result Answer Fault)
    (out out_after : O) (err err_after : E) (status : ℕ) → IfOk made (λ answer. Is (answer_value answer)) → IfErr made (λ why. Is (fault_value why))
    → Is (fault_value fault.Memory)
    → (told : AnswerValue) × IsToldOf made told × IsPrinted printed reported told out out_after err err_after status
    → Outcome printed reported Is out out_after err err_after status
outcome-by printed reported Is made out out_after err err_after status ok err_is memory (told, of, ends) =
    record { told = told; is = told-by Is made told ok err_is memory of; ends = ends }

-- the same where the faults that it ends with are such
pub outcome-told : {O E : Type 0} (printed : O → Option (List ℕ)) (reported : E → Option (List ℕ)) (Is : AnswerValue → Type 0) (Ends : Fault → Type 0)
    (made : Result Answer Fault) (out out_after : O) (err err_after : E) (status : ℕ) → ((told : AnswerValue) → TellsFault Ends told → Is told)
    → IfOk made (λ answer. Is (answer_value answer)) → IfErr made Ends → Ends fault.Memory
    → (told : AnswerValue) × IsToldOf made told × IsPrinted printed reported told out out_after err err_after status
    → Outcome printed reported Is out out_after err err_after status
outcome-told printed reported Is Ends (Ok answer) out out_after err err_after status give ok ends memory h =
    outcome-by printed reported Is (Ok answer) out out_after err err_after status ok tt (give (fault_value fault.Memory) (fault.Memory, memory, refl)) h
outcome-told printed reported Is Ends (Err why) out out_after err err_after status give ok ends memory h =
    outcome-by printed reported Is (Err why) out out_after err err_after status tt (give (fault_value why) (why, ends, refl))
    (give (fault_value fault.Memory) (fault.Memory, memory, refl)) h

-- ---- what is told of a fault

abbrev value : List ℕ → List ℕ → ℕ → AnswerValue
value out err status = record { out = out; err = err; status = status }

value-same : (out err out' err' : List ℕ) (status status' : ℕ) → out ≡ out' → err ≡ err' → status ≡ status' → value out err status ≡ value out' err' status'
value-same out err out' err' status status' a b c = rw (a, b, c) refl

pub told-rule : (f : RuleFault) (line : List ℕ) (answer : Answer) → line ≡ fault_line (fault.Rule f) ++ 10 ∷ [] → printed_text answer.out ≡ line
    → answer.err.items ≡ [] → answer.status ≡ status_of (fault.Rule f) → answer_value answer ≡ fault_value (fault.Rule f)
told-rule f line answer line_is out err status = value-same _ _ _ _ _ _ (out ∙ line_is) err status

pub told-other : (why : Fault) (line : List ℕ) (answer : Answer) → ((f : RuleFault) → why ≡ fault.Rule f → ⊥) → line ≡ fault_line why ++ 10 ∷ []
    → printed_text answer.out ≡ [] → answer.err.items ≡ line → answer.status ≡ status_of why → answer_value answer ≡ fault_value why
told-other (fault.Rule f) line answer other line_is out err status = absurd (other f refl)
told-other _ line answer other line_is out err status = value-same _ _ _ _ _ _ out (err ∙ line_is) status

pub status-bounds : (why : Fault) → (1 ≤ status_of why) × (status_of why ≤ 3)
status-bounds fault.Memory = (omega arith, omega arith)
status-bounds _ = (omega arith, omega arith)
