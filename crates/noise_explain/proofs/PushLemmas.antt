-- What is appended, line by line.
use Rattle.std.proofs.Common.{◌≡◌, ◌∙◌, refl, sym, ap, ℕ, ◌+◌, Bool, true, false, cond, eqb, List, [], ◌∷◌, ◌++◌, length, codes, append_assoc, arith, Result, Ok, Err, OnOk}
use Rattle.std.specs.Prelude.{IfOk, if◌then◌else◌, is_ok}
use Rattle.std.proofs.lemmas.Bool.Decides.{nat_tests}
use Rattle.noise_names.specs.declared.token.Role.TheVariants.{Initiator, Responder}
use Rattle.noise_names.specs.declared.token.Token.{Token}
use Rattle.noise_names.specs.Fundamental.{fundamental_of}
use Rattle.noise_names.specs.Names.{name_bytes}
use Rattle.noise_names.specs.Plan.{Plan}
use Rattle.noise_keys.specs.Table.{TableEntry}
use Rattle.noise_vectors.specs.VectorText.{answer_words, block_text, line_then, lines_of}
use Rattle.noise_vectors.specs.HexWord.{hex_of}
use Rattle.noise_explain.specs.Template.{Turn, head_text, name_of, say_words, speakers, unless_known, writers}
use Rattle.noise_explain.specs.Values.{value_in}
use Rattle.noise_explain.specs.declared.values.Given.{Given}
use Rattle.noise_explain.specs.declared.values.Place.TheVariants.{Prologue}

lines-join : {A : Type 0} (words : A → List ℕ) (xs ys : List A) → lines_of words (xs ++ ys) [] ≡ lines_of words xs [] ++ lines_of words ys []
lines-join words [] ys = refl
lines-join words (x ∷ xs) ys =
    ap (line_then (words x)) (lines-join words xs ys) ∙ sym (append_assoc (words x) (10 ∷ lines_of words xs []) (lines_of words ys []))

abbrev answers : List TableEntry → List ℕ
answers entries = lines_of answer_words entries []

-- five texts, one after the other
pub five : (old n1 n2 n3 n4 n5 a b c d e : List ℕ) → n1 ≡ old ++ a → n2 ≡ n1 ++ b → n3 ≡ n2 ++ c → n4 ≡ n3 ++ d → n5 ≡ n4 ++ e
    → n5 ≡ old ++ (a ++ b ++ c ++ d ++ e)
five old n1 n2 n3 n4 n5 a b c d e e1 e2 e3 e4 e5 =
    e5 ∙ ap (λ (t : List ℕ). t ++ e) (e4 ∙ ap (λ (t : List ℕ). t ++ d) (e3 ∙ ap (λ (t : List ℕ). t ++ c) (e2 ∙ ap (λ (t : List ℕ). t ++ b) e1)))
    ∙ simp append_assoc

-- two texts, of which the second may be refused
pub two-ok : {T E : Type 0} (r : Result T E) (old n1 n2 a b : List ℕ) → n1 ≡ old ++ a → OnOk r (n2 ≡ n1 ++ b) → OnOk r (n2 ≡ old ++ (a ++ b))
two-ok (Ok u) old n1 n2 a b e1 e2 = e2 ∙ ap (λ (t : List ℕ). t ++ b) e1 ∙ append_assoc old a b
two-ok (Err u) old n1 n2 a b e1 e2 = tt

-- seven texts, one after the other
seven : (old n1 n2 n3 n4 n5 n6 n7 a b c d e f g : List ℕ) → n1 ≡ old ++ a → n2 ≡ n1 ++ b → n3 ≡ n2 ++ c → n4 ≡ n3 ++ d → n5 ≡ n4 ++ e → n6 ≡ n5 ++ f
    → n7 ≡ n6 ++ g → n7 ≡ old ++ (a ++ b ++ c ++ d ++ e ++ f ++ g)
seven old n1 n2 n3 n4 n5 n6 n7 a b c d e f g e1 e2 e3 e4 e5 e6 e7 =
    e7 ∙ ap (λ (t : List ℕ). t ++ g) (e6 ∙ ap (λ (t : List ℕ). t ++ f) (five old n1 n2 n3 n4 n5 a b c d e e1 e2 e3 e4 e5)) ∙ simp append_assoc

-- what an append leaves, where it succeeds
pub on-ok : {T E : Type 0} (r : Result T E) (n a b x : List ℕ) → n ≡ (if is_ok r then a else b) → (n ≡ a → n ≡ x) → OnOk r (n ≡ x)
on-ok (Ok u) n a b x h f = f h
on-ok (Err e) n a b x h f = tt

-- a text in other words
pub same-text : {T E : Type 0} (bytes_of : T → List ℕ) (r : Result T E) (had wanted : List ℕ) → IfOk r (λ s. bytes_of s ≡ had) → had ≡ wanted
    → IfOk r (λ s. bytes_of s ≡ wanted)
same-text bytes_of (Ok s) had wanted is same = is ∙ same
same-text bytes_of (Err e) had wanted is same = tt

-- the lines before the psks
pub head-pushed : (given : List Given) (p : Plan) (old n1 n2 n3 n4 n5 n6 n7 a b e f : List ℕ) → a ≡ codes "vector 1\nprotocol " → b ≡ name_bytes (name_of p)
    → e ≡ codes "prologue " → f ≡ codes "\ninterval 0\n" → n1 ≡ old ++ a → n2 ≡ n1 ++ b → n3 ≡ n2 ++ 10 ∷ []
    → n4 ≡ n3 ++ block_text (unless_known (fundamental_of p.base) p) [] → n5 ≡ n4 ++ e → n6 ≡ n5 ++ hex_of (value_in given Prologue) → n7 ≡ n6 ++ f
    → n7 ≡ old ++ head_text given p
head-pushed given p old n1 n2 n3 n4 n5 n6 n7 a b e f ea eb ee ef e1 e2 e3 e4 e5 e6 e7 =
    seven old n1 n2 n3 n4 n5 n6 n7 (codes "vector 1\nprotocol ") (name_bytes (name_of p)) (10 ∷ []) (block_text (unless_known (fundamental_of p.base) p) [])
    (codes "prologue ") (hex_of (value_in given Prologue)) (codes "\ninterval 0\n") (e1 ∙ ap (λ (t : List ℕ). old ++ t) ea)
    (e2 ∙ ap (λ (t : List ℕ). n1 ++ t) eb) e3 e4 (e5 ∙ ap (λ (t : List ℕ). n4 ++ t) ee) e6 (e7 ∙ ap (λ (t : List ℕ). n6 ++ t) ef)

-- the line of a party's keys, and its answers
pub party-pushed : (first : List ℕ) (es fs gs hs : List TableEntry) (old n1 n2 n3 n4 n5 : List ℕ) → n1 ≡ old ++ (first ++ 10 ∷ []) → n2 ≡ n1 ++ answers es
    → n3 ≡ n2 ++ answers fs → n4 ≡ n3 ++ answers gs → n5 ≡ n4 ++ answers hs
    → n5 ≡ old ++ line_then first (lines_of answer_words (es ++ fs ++ gs ++ hs) [])
party-pushed first es fs gs hs old n1 n2 n3 n4 n5 e1 e2 e3 e4 e5 =
    let join : answers (es ++ fs ++ gs ++ hs) ≡ answers es ++ answers fs ++ answers gs ++ answers hs =
    lines-join answer_words (es ++ fs ++ gs) hs
    ∙ ap (λ (t : List ℕ). t ++ answers hs) (lines-join answer_words (es ++ fs) gs ∙ ap (λ (t : List ℕ). t ++ answers gs) (lines-join answer_words es fs)) in
    five old n1 n2 n3 n4 n5 (first ++ 10 ∷ []) (answers es) (answers fs) (answers gs) (answers hs) e1 e2 e3 e4 e5
    ∙ five-line old first (answers es) (answers fs) (answers gs) (answers hs)
    ∙ ap (λ (t : List ℕ). old ++ line_then first t) (sym join)
  where
    five-line : (old first b c d e : List ℕ) → old ++ ((first ++ 10 ∷ []) ++ b ++ c ++ d ++ e) ≡ old ++ line_then first (b ++ c ++ d ++ e)
    five-line old first b c d e = simp append_assoc

-- what is said in a one-way pattern
pub one-way-said : (given : List Given) (ms : List (List Token)) (old n1 n2 : List ℕ) → length ms ≡ 1
    → n1 ≡ old ++ lines_of (say_words given) (writers 1 Initiator ms) [] → n2 ≡ n1 ++ (say_words given (length ms + 1, Initiator) ++ 10 ∷ [])
    → n2 ≡ old ++ lines_of (say_words given) (speakers ms) []
one-way-said given ms old n1 n2 one e1 e2 =
    let first : Turn = (length ms + 1, Initiator) in
    let second : Turn = (length ms + 2, Responder) in
    let test : eqb (length ms) 1 ≡ true = grind (arith, nat_tests) in
    e2 ∙ ap (λ (t : List ℕ). t ++ (say_words given first ++ 10 ∷ [])) e1
    ∙ append_assoc old (lines_of (say_words given) (writers 1 Initiator ms) []) (say_words given first ++ 10 ∷ [])
    ∙ ap (λ (t : List ℕ). old ++ t) (sym (lines-join (say_words given) (writers 1 Initiator ms) (first ∷ [])))
    ∙ ap (λ (b : Bool). old ++ lines_of (say_words given) (writers 1 Initiator ms ++ first ∷ cond b [] (second ∷ [])) []) (sym test)

-- what is said in any other
pub both-said : (given : List Given) (ms : List (List Token)) (old n1 n2 n3 : List ℕ) → (length ms ≡ 1 → ⊥)
    → n1 ≡ old ++ lines_of (say_words given) (writers 1 Initiator ms) [] → n2 ≡ n1 ++ (say_words given (length ms + 1, Initiator) ++ 10 ∷ [])
    → n3 ≡ n2 ++ (say_words given (length ms + 2, Responder) ++ 10 ∷ []) → n3 ≡ old ++ lines_of (say_words given) (speakers ms) []
both-said given ms old n1 n2 n3 more e1 e2 e3 =
    let first : Turn = (length ms + 1, Initiator) in
    let second : Turn = (length ms + 2, Responder) in
    let test : eqb (length ms) 1 ≡ false = grind (arith, nat_tests) in
    e3 ∙ ap (λ (t : List ℕ). t ++ (say_words given second ++ 10 ∷ [])) (e2 ∙ ap (λ (t : List ℕ). t ++ (say_words given first ++ 10 ∷ [])) e1)
    ∙ two old (lines_of (say_words given) (writers 1 Initiator ms) []) (say_words given first) (say_words given second)
    ∙ ap (λ (t : List ℕ). old ++ t) (sym (lines-join (say_words given) (writers 1 Initiator ms) (first ∷ second ∷ [])))
    ∙ ap (λ (b : Bool). old ++ lines_of (say_words given) (writers 1 Initiator ms ++ first ∷ cond b [] (second ∷ [])) []) (sym test)
  where
    two : (old w i r : List ℕ) → ((old ++ w) ++ (i ++ 10 ∷ [])) ++ (r ++ 10 ∷ []) ≡ old ++ (w ++ (i ++ 10 ∷ (r ++ 10 ∷ [])))
    two old w i r = simp append_assoc
