-- What `talk`, `replay`, `trace` and `convert` answer, and why they don't.
use Rattle.std.proofs.Common.{◌≡◌, ◌∙◌, refl, sym, ap, subst, ◌⊎◌, inl, inr, ◌<◌, ◌≤◌, ℕ, List, [], ◌∷◌, ◌++◌, Vec, Result, Ok, Err, length}
use Rattle.std.specs.Prelude.{◌≢◌, IfOk}
use Rattle.noise_lines.specs.TracedLines.{with_traces}
use Rattle.noise_tool.proofs.Common.{Global, IfErr, IsMet, of_vector, status_of, AreMet, Converts, DifferAt, IsReadVector, IsRunFault, IsRunText, IsTooLongConverted, Printing, lines_text, IsRunOf, expected_in, Fault, fault_line, bytes_of, IsAllowedFile, IsReadFault, IsVectorFile, file_text, AllowedEvents, VersionOne, VectorFile}
use Rattle.noise_tool.specs.Answers.{AnswerValue, IsOutput}
use Rattle.noise_run.specs.Conversion.{MeetsItself}
use Rattle.noise_tool.specs.Performing.{GivesText}
use Rattle.noise_tool.specs.TracedText.{IsOfTrace, trace_lines}
use Rattle.noise_lines.specs.Converted.{converted_text}
use Rattle.noise_run.specs.declared.run.Outcome.{Outcome}
use Rattle.noise_run.specs.declared.tracing.Traced.{Traced}
use Rattle.noise_vectors.specs.Expectations.{IsFirstUnmet}
use Rattle.noise_vectors.specs.WrongLine.{IsReported}
use Rattle.noise_vectors.specs.declared.faults.VectorFault.{VectorFault}
use Rattle.noise_vectors.specs.declared.vector.Version.TheVariants.{One}
use Rattle.noise_lines.specs.declared.faults.Fault.TheVariants as fault
use Rattle.noise_vectors.specs.declared.faults.VectorFault.TheVariants as vector

-- ---- a text that isn't read

no-file : (allowed : AllowedEvents) (text : List ℕ) (why : VectorFault)
    → ((file : VectorFile) → IsVectorFile file → IsAllowedFile allowed file → text ≡ file_text file → why ≡ vector.Memory) → IsReadFault allowed text why
no-file allowed text (vector.Line n kind) every = λ file right allow e. let bad = every file right allow e in absurd (cc (bad))
no-file allowed text vector.Memory every = tt

-- the fault of its reader is one of a run
pub unread : (allowed : AllowedEvents) (text : List ℕ) (why : VectorFault)
    → ((file : VectorFile) → IsVectorFile file → IsAllowedFile allowed file → text ≡ file_text file → why ≡ vector.Memory)
    → IsReported allowed text why → IsRunFault allowed text (of_vector why)
unread allowed text why every reported = inr (inl (why, refl, no-file allowed text why every, reported))

-- whatever else it may be
pub or-other : (allowed : AllowedEvents) (text : List ℕ) (fault : Fault) (Other : Type 0)
    → (status_of fault ≡ 3) ⊎ IsRunFault allowed text fault → (status_of fault ≡ 3) ⊎ IsRunFault allowed text fault ⊎ Other
or-other allowed text fault Other (inl outside) = inl outside
or-other allowed text fault Other (inr h) = inr (inl h)

-- ---- what is answered of a file that was read

-- this text is given, with status 0
pub gives-done : (Done : List ℕ → Type 0) (Differs : ℕ → List ℕ → Type 0) (told : AnswerValue) (text : List ℕ) → told.out ≡ text → IsOutput told 0
    → Done text → GivesText Done Differs told
gives-done Done Differs told text e alone h = inl (subst Done (sym e) h, alone)

-- lines that nothing follows
pub no-traces : (lines : List (List ℕ)) → with_traces lines [] ≡ lines
no-traces [] = refl
no-traces (line ∷ lines) = refl

module _ {allowed : AllowedEvents} {text : List ℕ} {file : VectorFile} (read : IsReadVector allowed text file) (Prints : Printing) (traced : Traced)
    (run : Prints file (bytes_of traced.outcome.lines.items) (trace_lines traced))
    (expected : bytes_of traced.outcome.expected.items ≡ expected_in file.version) where
  text-of : (ComeTo : VectorFile → List (List ℕ) → Type 0) (out : List ℕ) → out ≡ lines_text (trace_lines traced)
      → ComeTo file (bytes_of traced.outcome.lines.items) → IsRunText Prints ComeTo text out
  text-of ComeTo out is come_to = record {
    file = file;
    right = read.right;
    bytes_are = read.text_is;
    lines = bytes_of traced.outcome.lines.items;
    printed = trace_lines traced;
    run = run;
    text_is = is;
    come_to = come_to;
  }

  pub gives-run : (told : AnswerValue) → IsOfTrace traced told
      → GivesText (IsRunText Prints AreMet text) (λ number. IsRunText Prints (DifferAt number) text) told
  gives-run told (is, inl (met, quiet, zero)) =
      inl (text-of AreMet told.out is (subst (λ (es : List (List ℕ)). IsMet es (bytes_of traced.outcome.lines.items)) expected met), (quiet, zero))
  gives-run told (is, inr (why, (number, e, some, unmet), line, one)) =
      let differs : DifferAt number file (bytes_of traced.outcome.lines.items) =
      subst (λ (es : List (List ℕ)). (es ≢ []) × IsFirstUnmet (bytes_of traced.outcome.lines.items) es number) expected (some, unmet) in
      inr (number, text-of (DifferAt number) told.out is differs, line ∙ ap (λ (f : Fault). fault_line f ++ 10 ∷ []) e, one)

-- ---- of a converted file

pub converts-of : (text : List ℕ) (file : VectorFile) (outcome : Outcome) (lines : List (Vec ℕ Global)) (result : Result (Vec ℕ Global) Fault)
    → IsVectorFile file → file.version ≡ One → text ≡ file_text file → lines ≡ outcome.lines.items → IsRunOf file (bytes_of outcome.lines.items)
    → MeetsItself file (bytes_of outcome.lines.items) → IfOk result (λ converted. converted.items ≡ converted_text file (bytes_of lines))
    → IfOk result (λ converted. length converted.items ≤ 4194304) → IfOk result (λ converted. Converts text converted.items)
converts-of text file outcome lines (Ok converted) right one spelled same run meets is short = record {
  file = file;
  right = right;
  first = one;
  text_is = spelled;
  lines = bytes_of outcome.lines.items;
  run = run;
  meets = meets;
  short = short;
  converted_is = is ∙ ap (λ (ls : List (Vec ℕ Global)). converted_text file (bytes_of ls)) same;
}
converts-of text file outcome lines (Err why) right one spelled same run meets is short = tt

-- why there is none
pub no-converted : (text : List ℕ) (file : VectorFile) (outcome : Outcome) (lines : List (Vec ℕ Global)) (result : Result (Vec ℕ Global) Fault)
    → IsVectorFile file → file.version ≡ One → text ≡ file_text file → lines ≡ outcome.lines.items → IsRunOf file (bytes_of outcome.lines.items)
    → IfErr result (λ why. (why ≡ fault.Memory) ⊎ ((why ≡ fault.TooLong) × ((other : VectorFile) → other.version ≡ One → text ≡ file_text other
    → 4194304 < length (converted_text other (bytes_of lines)))))
    → IfErr result (λ why. (status_of why ≡ 3) ⊎ IsRunFault VersionOne text why ⊎ IsTooLongConverted text why)
no-converted text file outcome lines (Ok converted) right one spelled same run h = tt
no-converted text file outcome lines (Err why) right one spelled same run (inl memory) = inl (ap status_of memory)
no-converted text file outcome lines (Err why) right one spelled same run (inr (is, long)) =
    let more = subst (λ (ls : List (Vec ℕ Global)). 4194304 < length (converted_text file (bytes_of ls))) same (long file one spelled) in
    inr (inr (is, file, right, one, spelled, bytes_of outcome.lines.items, run, more))
