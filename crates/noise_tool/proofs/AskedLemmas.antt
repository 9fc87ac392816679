-- What a command answers on the bytes that were read, it answers on those that are known of its file.
use Rattle.std.proofs.Common.{◌≡◌, refl, ap, subst, ◌⊎◌, inl, inr, ◌≤◌, ℕ, List, Option, Some, None, length, string_bytes, arith}
use Rattle.std.specs.Prelude.{⊤, Bool, true, false, IfOk, IsTrue, Result, Ok, Err, Vec, if◌then◌else◌}
use Rattle.noise_tool.proofs.Common.{Global, IfErr, IfSome, MatchBool, status_of, IsDone, IsFault, IsUnmet, ReadsShort, TooLong, Fault}
use Rattle.noise_tool.specs.Answers.{AnswerValue, TellsFault, answer_value, fault_value}
use Rattle.noise_tool.specs.PatternNames.{NamesText}
use Rattle.noise_tool.specs.Performing.{GivesText, IsAnswerOn, IsCommandAnswer, IsKnownAs, IsLongFile, OfAsked, file_of, takes_pattern}
use Rattle.noise_tool.specs.declared.answers.Answer.{Answer}
use Rattle.noise_tool.proofs.Shortness.{short-read}
use Rattle.noise_explain.specs.Template.{names_protocol}
use Rattle.noise_words.specs.declared.orders.Chosen.{Chosen}
use Rattle.noise_words.specs.declared.orders.Chosen.TheVariants as order

-- ---- where no bytes are known

matched : (b : Bool) (A B : Type 0) → MatchBool b A B → MatchBool b A ⊤
matched true A B h = h
matched false A B h = tt

done-none : (chosen : Chosen) (bytes text : List ℕ) → IsDone chosen (Some bytes) text → IsDone chosen None text
done-none order.List bytes text h = h
done-none (order.Show name) bytes text h = h
done-none (order.Template word) bytes text h = matched (names_protocol (string_bytes word)) _ _ h
done-none _ bytes text h = tt

unmet-none : (chosen : Chosen) (bytes text : List ℕ) (number : ℕ) → IsUnmet chosen (Some bytes) number text → IsUnmet chosen None number text
unmet-none (order.Talk path) bytes text number h = tt
unmet-none (order.Replay path) bytes text number h = tt
unmet-none (order.Trace traced) bytes text number h = tt
unmet-none _ bytes text number h = h

fault-none : (chosen : Chosen) (bytes : List ℕ) (why : Fault) → IsFault chosen (Some bytes) why → IsFault chosen None why
fault-none order.List bytes why h = h
fault-none (order.Show name) bytes why h = h
fault-none (order.Template word) bytes why h = matched (names_protocol (string_bytes word)) _ _ h
fault-none _ bytes why h = tt

short-none : (chosen : Chosen) (bytes : List ℕ) → ReadsShort chosen (Some bytes) → ReadsShort chosen None
short-none order.List bytes h = h
short-none (order.Show name) bytes h = h
short-none (order.Template word) bytes h = matched (names_protocol (string_bytes word)) _ _ h
short-none _ bytes h = tt

is-none : (chosen : Chosen) (bytes : List ℕ) (told : AnswerValue)
    → GivesText (IsDone chosen (Some bytes)) (IsUnmet chosen (Some bytes)) told ⊎ TellsFault (IsFault chosen (Some bytes)) told
    → GivesText (IsDone chosen None) (IsUnmet chosen None) told ⊎ TellsFault (IsFault chosen None) told
is-none chosen bytes told (inl (inl (done, alone))) = inl (inl (done-none chosen bytes told.out done, alone))
is-none chosen bytes told (inl (inr (number, differs, line, one))) = inl (inr (number, unmet-none chosen bytes told.out number differs, line, one))
is-none chosen bytes told (inr (why, is, e)) = inr (why, fault-none chosen bytes why is, e)

long-none : (chosen : Chosen) (bytes : List ℕ) (status : ℕ) → (2 ≤ status) ⊎ ReadsShort chosen (Some bytes) → (2 ≤ status) ⊎ ReadsShort chosen None
long-none chosen bytes status (inl low) = inl low
long-none chosen bytes status (inr short) = inr (short-none chosen bytes short)

answer-at : (chosen : Chosen) (known : Option (List ℕ)) (bytes : List ℕ) (told : AnswerValue) → IsKnownAs bytes known → IsAnswerOn chosen (Some bytes) told
    → IsAnswerOn chosen known told
answer-at chosen None bytes told e h =
    record { long = long-none chosen bytes told.status h.long; is = is-none chosen bytes told h.is }
answer-at chosen (Some known) bytes told e h = subst (λ (t : List ℕ). IsAnswerOn chosen (Some t) told) e h

-- ---- of the bytes that are known

module _ (bytes_at : List ℕ → Option (List ℕ)) (unreadable : List ℕ → Bool) (chosen : Chosen) (bytes : List ℕ) (short : length bytes ≤ 4194304)
    (asked : OfAsked bytes_at unreadable chosen (IsKnownAs bytes)) where
  answered : (told : AnswerValue)
      → GivesText (IsDone chosen (Some bytes)) (IsUnmet chosen (Some bytes)) told ⊎ TellsFault (IsFault chosen (Some bytes)) told
      → IsCommandAnswer bytes_at unreadable chosen told
  answered told h = inr (record {
    known = asked.known;
    asked = asked.asked;
    holds = answer-at chosen asked.known bytes told asked.holds (record { long = inr (short-read chosen bytes short); is = h });
  })

  pub answer-asked : (made : Result Answer Fault)
      → IfOk made (λ answer. GivesText (IsDone chosen (Some bytes)) (IsUnmet chosen (Some bytes)) (answer_value answer))
      → IfOk made (λ answer. IsCommandAnswer bytes_at unreadable chosen (answer_value answer))
  answer-asked (Ok answer) h = answered (answer_value answer) (inl h)
  answer-asked (Err why) h = tt

  pub fault-asked : (made : Result Answer Fault) → IfErr made (λ why. (status_of why ≡ 3) ⊎ IsFault chosen (Some bytes) why)
      → IfErr made (λ why. IsCommandAnswer bytes_at unreadable chosen (fault_value why))
  fault-asked (Ok answer) h = tt
  fault-asked (Err why) (inl three) = inl (why, three, refl)
  fault-asked (Err why) (inr h) = answered (fault_value why) (inr (why, h, refl))

-- ---- a file that isn't read

if-map : (known : Option (List ℕ)) (P Q : List ℕ → Type 0) → ((text : List ℕ) → P text → Q text) → IfSome known P → IfSome known Q
if-map None P Q f h = tt
if-map (Some text) P Q f h = f text h

template-long : (b : Bool) (A Q : Type 0) (w word : List ℕ) → (if b then None else Some w) ≡ Some word → Q → MatchBool b A Q
template-long true A Q w word e q = absurd (cc e)
template-long false A Q w word e q = q

long-fault : (chosen : Chosen) (known : Option (List ℕ)) (why : Fault) → why ≡ TooLong → IsLongFile chosen known → IsFault chosen known why
long-fault order.List known why is h = let bad = h.word_is in absurd (cc bad)
long-fault (order.Show name) known why is h = let bad = h.word_is in absurd (cc bad)
long-fault (order.Template word) known why is h =
    template-long (names_protocol (string_bytes word)) _ _ (string_bytes word) h.word h.word_is (if-map known _ _ (λ text long. inl (is, long)) h.long)
long-fault (order.Convert path) known why is h = if-map known _ _ (λ text long. inl (inl (is, long))) h.long
long-fault _ known why is h = if-map known _ _ (λ text long. inl (is, long)) h.long

-- why the bytes aren't there
pub not-read : (bytes_at : List ℕ → Option (List ℕ)) (unreadable : List ℕ → Bool) (chosen : Chosen) (why : Fault)
    → (status_of why ≡ 3) ⊎ ((why ≡ TooLong) × OfAsked bytes_at unreadable chosen (IsLongFile chosen))
    → IsCommandAnswer bytes_at unreadable chosen (fault_value why)
not-read bytes_at unreadable chosen why (inl three) = inl (why, three, refl)
not-read bytes_at unreadable chosen why (inr (long, asked)) = inr (record {
  known = asked.known;
  asked = asked.asked;
  holds = record {
    long = inl (omega (arith, ap status_of long));
    is = inr (why, long-fault chosen asked.known why long asked.holds, refl);
  };
})

-- ---- the name of a file that can't be read, which may be that of a pattern

module _ (bytes_at : List ℕ → Option (List ℕ)) (unreadable : List ℕ → Bool) (chosen : Chosen) (name : List ℕ) (e : file_of chosen ≡ Some name)
    (bad : IsTrue (unreadable name)) where
  pub named-asked : (r : Result (Vec ℕ Global) Fault) → IfOk r (λ text. (takes_pattern chosen ≡ true) × NamesText name text.items)
      → IfOk r (λ text. OfAsked bytes_at unreadable chosen (IsKnownAs text.items))
  named-asked (Ok text) h = record {
    known = Some text.items;
    asked = inr (text.items, record { taken = h.0; word = name; word_is = e; no_file = bad; names = h.1 }, refl);
    holds = refl;
  }
  named-asked (Err why) h = tt
