-- What is printed of the run of a file whose lines fit, and with which status it ends.
use Rattle.std.proofs.Common.{◌≡◌, ◌∙◌, refl, ap, sym, subst, ◌⊎◌, inl, inr, ◌<◌, ◌≤◌, ℕ, List, [], length, Option, Some, String, arith}
use Rattle.std.specs.Global.{Global}
use Rattle.std.specs.Io.KnownBytes.{Appends}
use Rattle.noise_transcript.proofs.Common.{◌↔◌, slice_get, Role, Plan, VectorTextsAreUnique, IsVectorFile, file_text, VectorFile, lines_text, IsRunOf, expected_in, HasFittingMessages, FittingMessagesRun, talked_lines}
use Rattle.noise_vectors.specs.Expectations.{IsFirstUnmet}
use Rattle.noise_lines.specs.Faults.{status_of}
use Rattle.noise_lines.specs.Prefixes.{AppendsPrefix}
use Rattle.noise_lines.specs.declared.faults.Fault.{Fault}
use Rattle.noise_lines.specs.Verdicts.{IsMet}
use Rattle.noise_run.specs.OneRun.{OneRun}
use Rattle.noise_tool.specs.Answers.{AnswerValue, IsPrinted, TellsFault, fault_value, output_text}
use Rattle.noise_tool.specs.Performing.{AreMet, DifferAt, GivesText, IsDone, IsFault, IsPlain, IsRunText, IsUnmet}
use Rattle.noise_words.specs.declared.orders.Chosen.TheVariants.{Talk}
use Rattle.noise_transcript.proofs.Refusals.{IsLeft, left-why}
use Rattle.noise_transcript.proofs.Same.{expected-are, run-alike}
use Rattle.noise_lines.specs.declared.faults.Fault.TheVariants as fault

-- a file has one text, and files of one text have one list of lines
pub record Once : Type 0 where
  pub runs : FittingMessagesRun
  pub once : OneRun
  pub unique : VectorTextsAreUnique

abbrev pub Met : VectorFile → Plan → List (Role × List ℕ) → Type 0
Met f p lines = IsMet (expected_in f.version) (talked_lines f p lines)

three-silent : (why : Fault) → status_of why ≡ 3 → output_text why ≡ []
three-silent (fault.Rule r) three = absurd (omega (arith, three))
three-silent _ three = refl

module _ (laws : Once) (f : VectorFile) (p : Plan) (lines : List (Role × List ℕ)) (fits : HasFittingMessages f p lines) where
  lines-of : (g : VectorFile) (printed : List (List ℕ)) → IsVectorFile g → file_text f ≡ file_text g → IsRunOf g printed → printed ≡ talked_lines f p lines
  lines-of g printed right same run =
      sym (laws.once f g (talked_lines f p lines) printed (run-alike f g (laws.unique f g fits.right right same)) (laws.runs f p lines fits) run)

  expected-of : (g : VectorFile) → IsVectorFile g → file_text f ≡ file_text g → expected_in g.version ≡ expected_in f.version
  expected-of g right same =
      sym (expected-are g.version) ∙ sym ((laws.unique f g fits.right right same).expected) ∙ expected-are f.version

  run-printed : (text : List ℕ) → IsRunText IsPlain AreMet (file_text f) text → (text ≡ lines_text (talked_lines f p lines)) × Met f p lines
  run-printed text h =
      let lines_are = lines-of h.file h.lines h.right h.bytes_are h.run.0 in
      let expected = expected-of h.file h.right h.bytes_are in (
        h.text_is ∙ ap lines_text (h.run.1 ∙ lines_are),
        subst (λ (ls : List (List ℕ)). IsMet (expected_in f.version) ls) lines_are (subst (λ (es : List (List ℕ)). IsMet es h.lines) expected h.come_to),
      )

  never-met : (expected : List (List ℕ)) (printed : List (List ℕ)) (n : ℕ) → ¬ (expected ≡ []) → IsFirstUnmet printed expected n → IsMet expected printed
      → ⊥
  never-met expected printed n some unmet (inl none) = some none
  never-met expected printed n some unmet (inr same) = unmet.differ (ap (λ (ls : List (List ℕ)). slice_get ls unmet.before) same)

  unmet-printed : (text : List ℕ) (n : ℕ) → IsRunText IsPlain (DifferAt n) (file_text f) text
      → (text ≡ lines_text (talked_lines f p lines)) × ¬ (Met f p lines)
  unmet-printed text n h =
      let same = lines-of h.file h.lines h.right h.bytes_are h.run.0 in
      let expected = expected-of h.file h.right h.bytes_are in (
        h.text_is ∙ ap lines_text (h.run.1 ∙ same),
        λ met. never-met (expected_in h.file.version) h.lines n h.come_to.0 h.come_to.1
            (subst (λ (ls : List (List ℕ)). IsMet (expected_in h.file.version) ls) (sym same)
            (subst (λ (es : List (List ℕ)). IsMet es (talked_lines f p lines)) (sym expected) met)),
      )

  -- what is answered, by the exit status
  abbrev pub Told : AnswerValue → Type 0
  Told told =
      ((told.status ≡ 0) × (told.out ≡ lines_text (talked_lines f p lines)) × Met f p lines)
      ⊎ ((told.status ≡ 1) × (told.out ≡ lines_text (talked_lines f p lines)) × ¬ (Met f p lines))
      ⊎ ((told.status ≡ 2) × (told.out ≡ []) × (4194304 < length (file_text f)))
      ⊎ ((told.status ≡ 3) × (told.out ≡ []))

  of-fault : (why : Fault) (told : AnswerValue) → told ≡ fault_value why → IsLeft f why → Told told
  of-fault why told e (inl memory) = inr (inr (inr (
    ap (λ (t : AnswerValue). t.status) e ∙ ap status_of memory,
    ap (λ (t : AnswerValue). t.out) e ∙ ap output_text memory,
  )))
  of-fault why told e (inr (long, bytes)) = inr (inr (inl (
    ap (λ (t : AnswerValue). t.status) e ∙ ap status_of long,
    ap (λ (t : AnswerValue). t.out) e ∙ ap output_text long,
    bytes,
  )))

  pub outside-told : (told : AnswerValue) → TellsFault (λ why. status_of why ≡ 3) told → Told told
  outside-told told (why, three, e) = inr (inr (inr (
    ap (λ (t : AnswerValue). t.status) e ∙ three,
    ap (λ (t : AnswerValue). t.out) e ∙ three-silent why three,
  )))

  pub answer-told : (name : String Global) (told : AnswerValue)
      → GivesText (IsDone (Talk name) (Some (file_text f))) (IsUnmet (Talk name) (Some (file_text f))) told
      ⊎ TellsFault (IsFault (Talk name) (Some (file_text f))) told → Told told
  answer-told name told (inl (inl (done, (quiet, none)))) =
      let both = run-printed told.out done in
      inl (none, both.0, both.1)
  answer-told name told (inl (inr (n, differs, line, one))) =
      let both = unmet-printed told.out n differs in
      inr (inl (one, both.0, both.1))
  answer-told name told (inr (why, is, e)) = of-fault why told e (left-why laws.unique f p lines why fits is)

  -- ---- what is printed of it

  module _ {O E : Type 0} (printed : O → Option (List ℕ)) (reported : E → Option (List ℕ)) (told : AnswerValue) (is : Told told)
      (out after : O) (err err_after : E) (status : ℕ) (p' : IsPrinted printed reported told out after err err_after status) where
    whole : status ≤ 1 → (status ≡ told.status) × Appends (printed out) (printed after) told.out
    whole low = elim p'.ends [ inl w ↦ (w.0, w.1) | inr cut ↦ absurd (omega (arith, cut.0, low)) ]

    pub printed-at : status ≤ 1 → Appends (printed out) (printed after) (lines_text (talked_lines f p lines))
    printed-at low =
        let w = whole low in
        elim is [
          | inl h ↦ subst (Appends (printed out) (printed after)) h.1 w.1
          | inr (inl h) ↦ subst (Appends (printed out) (printed after)) h.1 w.1
          | inr (inr (inl h)) ↦ absurd (omega (arith, h.0, w.0, low))
          | inr (inr (inr h)) ↦ absurd (omega (arith, h.0, w.0, low))
        ]

    pub met-at : status ≤ 1 → (status ≡ 0) ↔ Met f p lines
    met-at low =
        let w = whole low in
        elim is [
          | inl h ↦ (λ _. h.2, λ _. w.0 ∙ h.0)
          | inr (inl h) ↦ (λ e. absurd (omega (arith, h.0, w.0, e)), λ met. absurd (h.2 met))
          | inr (inr (inl h)) ↦ absurd (omega (arith, h.0, w.0, low))
          | inr (inr (inr h)) ↦ absurd (omega (arith, h.0, w.0, low))
        ]

    pub long-at : status ≡ 2 → 4194304 < length (file_text f)
    long-at two = elim p'.ends [
      | inl w ↦ elim is [
        | inl h ↦ absurd (omega (arith, h.0, w.0, two))
        | inr (inl h) ↦ absurd (omega (arith, h.0, w.0, two))
        | inr (inr (inl h)) ↦ h.2
        | inr (inr (inr h)) ↦ absurd (omega (arith, h.0, w.0, two))
      ]
      | inr cut ↦ absurd (omega (arith, cut.0, two))
    ]

    pub prefix-at : (after ≡ out) ⊎ AppendsPrefix (printed out) (printed after) (lines_text (talked_lines f p lines))
    prefix-at = elim is [
      | inl h ↦ inr (subst (AppendsPrefix (printed out) (printed after)) h.1 p'.prefix)
      | inr (inl h) ↦ inr (subst (AppendsPrefix (printed out) (printed after)) h.1 p'.prefix)
      | inr (inr (inl h)) ↦ inl (p'.unwritten h.1)
      | inr (inr (inr h)) ↦ inl (p'.unwritten h.1)
    ]
