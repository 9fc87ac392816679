-- What `talk` is asked for: it is done on the bytes of the file that it names.
use Rattle.std.proofs.Common.{◌≡◌, ◌∙◌, subst, inl, inr, ℕ, List, Option, Some, String, string_bytes}
use Rattle.std.specs.Global.{Global}
use Rattle.noise_transcript.proofs.Common.{Bool, Role, Plan, VectorFile, file_text, HasFittingMessages}
use Rattle.noise_tool.specs.Answers.{AnswerValue}
use Rattle.noise_tool.specs.Performing.{IsAnswerOn, IsCommandAnswer, OfAsked}
use Rattle.noise_words.specs.declared.orders.Chosen.TheVariants.{Talk}
use Rattle.noise_transcript.proofs.Printed.{Once, Told, answer-told, outside-told}

module _ (bytes_at : List ℕ → Option (List ℕ)) (unreadable : List ℕ → Bool) (name : String Global) where
  of-talk : (text : List ℕ) (P : Option (List ℕ) → Type 0) → bytes_at (string_bytes name) ≡ Some text → OfAsked bytes_at unreadable (Talk name) P
      → P (Some text)
  of-talk text P is h = elim h.asked [
    | inl known ↦ subst P (known ∙ is) h.holds
    | inr pattern ↦ let bad = pattern.1.taken in absurd (cc bad)
  ]

  pub told-of : (laws : Once) (f : VectorFile) (p : Plan) (lines : List (Role × List ℕ)) (fits : HasFittingMessages f p lines) (told : AnswerValue)
      → bytes_at (string_bytes name) ≡ Some (file_text f) → IsCommandAnswer bytes_at unreadable (Talk name) told → Told laws f p lines fits told
  told-of laws f p lines fits told is (inl outside) = outside-told laws f p lines fits told outside
  told-of laws f p lines fits told is (inr asked) =
      let h = of-talk (file_text f) (λ known. IsAnswerOn (Talk name) known told) is asked in
      answer-told laws f p lines fits name told h.is
