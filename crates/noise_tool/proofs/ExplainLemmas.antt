-- What is said of files that are explained.
use Rattle.std.proofs.Common.{rules, ◌≡◌, ◌∙◌, refl, sym, ap, subst, inl, inr, arith, ◌≤◌, ◌<◌, ◌+◌, if◌then◌else◌, ℕ, Bool, true, false, nat_le, List, [], ◌∷◌, ◌++◌, Option, Some, None, String, drop, get_or, length, string_bytes, take}
use Rattle.std.specs.Prelude.{IfNone, IfOk, IsTrue, Result, Ok, Err, map}
use Rattle.noise_tool.proofs.Common.{Global, flat_map_more, map_push, take_all, All-push, fold-append, Fault, AreSaid, IsExplainedAt, IsUnreadName, Said, said_text, worse, worst_of}
use Rattle.noise_explain.specs.declared.explanation.Explained.{Explained}
use Rattle.noise_explain.specs.Shown.{unread_head}
use Rattle.noise_tool.specs.PatternNames.{NamesText}
use Rattle.noise_tool.specs.Answers.{AnswerValue}
use Rattle.noise_tool.specs.Explaining.{IsExplainAnswer}
use Rattle.noise_tool.proofs.TestingLemmas.{name-more, names-at}
use Rattle.noise_lines.specs.declared.faults.Fault.TheVariants as fault

-- it is said of one file more
said-of : (fixes : Bool) (bytes_at : List ℕ → Option (List ℕ)) (unreadable : List ℕ → Bool) (names : List (List ℕ)) (name : List ℕ) (said : List Said) (x : Explained) → AreSaid fixes bytes_at unreadable names said
    → IsExplainedAt fixes bytes_at unreadable name x → AreSaid fixes bytes_at unreadable (names ++ name ∷ []) (said ++ record { name = name; explained = x } ∷ [])
said-of fixes bytes_at unreadable names name said x are right =
    let this : Said = record { name = name; explained = x } in
    record {
      named = map_push (λ (s : Said). s.name) said this ∙ ap (λ (ns : List (List ℕ)). ns ++ name ∷ []) are.named;
      right = All-push (λ (s : Said). IsExplainedAt fixes bytes_at unreadable s.name s.explained) said this are.right right;
    }

text-of : (said : List Said) (name : List ℕ) (x : Explained)
    → said_text said ++ x.text.items ≡ said_text (said ++ record { name = name; explained = x } ∷ [])
text-of said name x = flat_map_more (λ (s : Said). s.explained.text.items) [] said (record { name = name; explained = x })

-- this is said of the files of these names so far
pub record HasSaid (fixes : Bool) (bytes_at : List ℕ → Option (List ℕ)) (unreadable : List ℕ → Bool) (names : List (List ℕ)) (text : List ℕ)
    (status : ℕ) : Type 0 where
  pub said : List Said
  pub are : AreSaid fixes bytes_at unreadable names said
  pub few : status ≤ 2
  pub text_is : text ≡ said_text said
  pub status_is : status ≡ worst_of said

worse-few : (first second worst : ℕ) → first ≤ 2 → second ≤ 2 → worst ≡ worse first second → worst ≤ 2
worse-few first second worst few few' is = at (nat_le first second) refl where
  at : (b : Bool) → nat_le first second ≡ b → worst ≤ 2
  at true e = let w : worst ≡ second = is ∙ ap (λ (b : Bool). if b then second else first) e in omega (arith, w, few')
  at false e = let w : worst ≡ first = is ∙ ap (λ (b : Bool). if b then second else first) e in omega (arith, w, few)

pub said-more : (fixes : Bool) (bytes_at : List ℕ → Option (List ℕ)) (unreadable : List ℕ → Bool) (names all : List (List ℕ)) (name text more : List ℕ)
    (status next : ℕ) (x : Explained) → all ≡ names ++ name ∷ [] → HasSaid fixes bytes_at unreadable names text status
    → IsExplainedAt fixes bytes_at unreadable name x → x.status ≤ 2 → more ≡ text ++ x.text.items → next ≡ worse status x.status
    → HasSaid fixes bytes_at unreadable all more next
said-more fixes bytes_at unreadable names all name text more status next x all_is before right few more_is next_is =
    let this : Said = record { name = name; explained = x } in
    subst (λ (ns : List (List ℕ)). HasSaid fixes bytes_at unreadable ns more next) (sym all_is) (record {
      said = before.said ++ this ∷ [];
      are = said-of fixes bytes_at unreadable names name before.said x before.are right;
      few = worse-few status x.status next before.few few next_is;
      text_is = more_is ∙ ap (λ (t : List ℕ). t ++ x.text.items) before.text_is ∙ text-of before.said name x;
      status_is = search (rules, fold-append);
    })

-- a file of these can't be read
pub explains-first : (fixes : Bool) (bytes_at : List ℕ → Option (List ℕ)) (unreadable : List ℕ → Bool) (names : List (String Global)) (i : ℕ) (item : String Global)
    (name text : List ℕ) (status : ℕ) (told : AnswerValue) → i < length names → item ≡ get_or names i item → name ≡ string_bytes item
    → HasSaid fixes bytes_at unreadable (map string_bytes (take i names)) text status → IsUnreadName unreadable name → told.out ≡ text
    → told.err ≡ unread_head name fault.Unreadable → told.status ≡ 3 → IsExplainAnswer fixes bytes_at unreadable (map string_bytes names) told
explains-first fixes bytes_at unreadable names i item name text status told less is name_is before bad out err three = inr (inl (record {
  first = map string_bytes (take i names);
  name = name;
  others = map string_bytes (drop (i + 1) names);
  names_are = names-at names i name (name-more names i item name less is name_is);
  said = before.said;
  are = before.are;
  unread = bad;
  out = out ∙ before.text_is;
  err = err;
  status = three;
}))

-- all are explained
pub explains-all : (fixes : Bool) (bytes_at : List ℕ → Option (List ℕ)) (unreadable : List ℕ → Bool) (names : List (String Global)) (i : ℕ) (text : List ℕ)
    (status : ℕ) (told : AnswerValue) → length names ≤ i → HasSaid fixes bytes_at unreadable (map string_bytes (take i names)) text status
    → told.out ≡ text → told.err ≡ [] → told.status ≡ status → IsExplainAnswer fixes bytes_at unreadable (map string_bytes names) told
explains-all fixes bytes_at unreadable names i text status told past before out err is =
    let whole : HasSaid fixes bytes_at unreadable (map string_bytes names) text status = search (rules, take_all) in
    inl (record {
      said = whole.said;
      are = whole.are;
      few = omega (arith, whole.few, whole.status_is);
      out = out ∙ whole.text_is;
      alone = (err, is ∙ whole.status_is);
    })

-- ---- where the file can't be read, and its name may be that of a pattern

module _ (bytes_at : List ℕ → Option (List ℕ)) (unreadable : List ℕ → Bool) (name : List ℕ) (bad : IsTrue (unreadable name)) where
  pub named-unread : (r : Result (Option Explained) Fault)
      → IfOk r (λ found. IfNone found ((text : List ℕ) → NamesText name text → ⊥)) → IfOk r (λ found. IfNone found (IsUnreadName unreadable name))
  named-unread (Ok (Some e)) h = tt
  named-unread (Ok None) h = (bad, h)
  named-unread (Err why) h = tt
