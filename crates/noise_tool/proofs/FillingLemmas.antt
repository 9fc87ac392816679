-- What is answered of a pattern and a file of values.
use Rattle.std.proofs.Common.{◌≡◌, ◌∙◌, refl, sym, ap, subst, ◌⊎◌, inl, inr, ℕ, ◌<◌, arith, List, Option, Some, None, Result, Ok, Err, length}
use Rattle.std.specs.Prelude.{Bool, IfOk, IsTrue, string_bytes}
use Rattle.noise_names.specs.Plan.{Plan}
use Rattle.noise_names.specs.Validity.{IsValid}
use Rattle.noise_tool.proofs.Common.{IfSome, status_of, Fault}
use Rattle.noise_lines.specs.declared.faults.Fault.TheVariants.{TooLong, Unreadable}
use Rattle.noise_lines.specs.declared.faults.Fault.TheVariants as fault
use Rattle.noise_explain.specs.KeyLines.{IsGivenBy, IsWrongFile}
use Rattle.noise_words.specs.declared.orders.Filled.{Filled}
use Rattle.noise_tool.specs.Answers.{IsOutput, answer_value}
use Rattle.noise_tool.specs.Filling.{IsFillAnswer, IsFilledBy, IsUnreadKeys, IsWordPattern, IsWrongKeys}
use Rattle.noise_tool.specs.declared.answers.Answer.{Answer}

at-known : (known : Option (List ℕ)) (text : List ℕ) (P : List ℕ → Type 0) → IfSome known (λ bytes. text ≡ bytes) → P text → IfSome known P
at-known None text P k h = tt
at-known (Some bytes) text P k h = subst P k h

two-three : (n m : ℕ) → n ≡ 2 → m ≡ 3 → n ≡ m → ⊥
two-three n m two three e = omega (arith, two, three, e)

module _ (names : Filled) (bytes_at : List ℕ → Option (List ℕ)) (unreadable : List ℕ → Bool) (p : Plan)
    (word : IsWordPattern (string_bytes names.pattern) bytes_at unreadable p) where
  -- what is answered of the pattern and of the values' text is answered of their bytes, where these are known
  pub fill-known : (text : List ℕ) (made : Result Answer Fault) → IfSome (bytes_at (string_bytes names.keys)) (λ bytes. text ≡ bytes)
      → IfOk made (λ answer. (IsValid p × IsFilledBy p (Some text) (answer_value answer).out × IsOutput (answer_value answer) 0)
      ⊎ IsWrongKeys p (string_bytes names.keys) (Some text) (answer_value answer))
      → IfOk made (λ answer. IsFillAnswer names bytes_at unreadable (answer_value answer))
  fill-known text (Ok answer) h (inl (valid, (given, gives, is), alone)) =
      inr (inl (p, word, inl (valid, (given, at-known (bytes_at (string_bytes names.keys)) text (λ keys. IsGivenBy p keys given) h gives, is), alone)))
  fill-known text (Ok answer) h (inr (number, why, wrong, line)) =
      inr (inl (p, word, inr (inr (inr (number, why, at-known (bytes_at (string_bytes names.keys)) text (λ keys. IsWrongFile p keys number why) h wrong, line)))))
  fill-known text (Err why) h made = tt

  -- a file of values that isn't read
  pub unread-known : (why : Fault) (made : Result Answer Fault)
      → (status_of why ≡ 3) ⊎ ((why ≡ TooLong) × IfSome (bytes_at (string_bytes names.keys)) (λ bytes. 4194304 < length bytes))
      → (why ≡ Unreadable → IsTrue (unreadable (string_bytes names.keys)))
      → IfOk made (λ answer. IsUnreadKeys (string_bytes names.keys) why (answer_value answer))
      → IfOk made (λ answer. IsFillAnswer names bytes_at unreadable (answer_value answer))
  unread-known why (Err other) read failed u = tt
  unread-known why (Ok answer) read failed (inl long, line) =
      let at : Fault → Type 0 = λ z. IsUnreadKeys (string_bytes names.keys) z (answer_value answer) in
      elim read [
        | inl three ↦ absurd (two-three (status_of TooLong) 3 refl refl (sym (ap status_of long) ∙ three))
        | inr more ↦ inr (inl (p, word, inr (inl (subst at long (inl long, line), more.1))))
      ]
  unread-known why (Ok answer) read failed (inr unread, line) =
      let at : Fault → Type 0 = λ z. IsUnreadKeys (string_bytes names.keys) z (answer_value answer) in
      inr (inl (p, word, inr (inr (inl (subst at unread (inr unread, line), failed unread)))))
