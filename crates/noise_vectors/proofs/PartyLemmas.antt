-- The lines that give a party its keys, as they are read.
use Rattle.std.proofs.Common.{rules, ◌≡◌, ◌∙◌, ◌≤◌, ap, sym, refl, Bool, true, false, true≢false, ℕ, List, ◌∷◌, ◌++◌, Option, codes, length}
use Rattle.std.specs.Prelude.{nat_eq}
use Rattle.noise_vectors.proofs.Common.{IfSome, All, starts_with, append_cancel_left, encode_lower, Role, TableEntry, AreKeys, IsEntry, answer_words, key_words, line_then, lines_of, own_word, party_text, role_word, IsKey, lacks, is_answer_line, FileKeys, Xor}
use Rattle.noise_vectors.specs.declared.file_keys.FileKeys.TheVariants.{Table}
use Rattle.noise_vectors.proofs.LackLemmas.{lacks-append, lacks-encode_lower, lacks-key_word, own_word-plain, role_word-plain}
use Rattle.noise_keys.specs.Table as Tables

-- what follows a front
pub after-front : {text : List ℕ} (front after rest : List ℕ) → text ≡ front ++ after → text ≡ front ++ rest → after ≡ rest
after-front front after rest split is = append_cancel_left front after rest (sym split ∙ is)

-- two keys have no line feed (10)
lacks-key_words : (e s : Option (List ℕ)) → IfSome e IsKey → IfSome s IsKey → lacks 10 (key_words e s) ≡ true
lacks-key_words e s he hs = search (rules, lacks-append, lacks-key_word)

-- ---- an answer's line

lacks-answer_keys : (entry : TableEntry) → IsEntry entry → lacks 10 (encode_lower entry.remote ++ 32 ∷ encode_lower entry.answer) ≡ true
lacks-answer_keys entry h = search (rules, lacks-append, lacks-encode_lower)

-- which has no line feed
pub lacks-answer_words : (entry : TableEntry) → IsEntry entry → lacks 10 (answer_words entry) ≡ true
lacks-answer_words entry h = search (rules, lacks-answer_keys)

-- what a split at the first space (32) gives
abbrev pub Splits : List ℕ → List ℕ → List ℕ → Type 0
Splits text first after = (b h : List ℕ) → lacks 32 b ≡ true → text ≡ b ++ 32 ∷ h → (first ≡ b) × (after ≡ h)

-- the keys after the name of the key pair
pub answer-keys : {line_then front rest own keys : List ℕ} (entry : TableEntry) → front ≡ codes "answer " → line_then ≡ front ++ rest → Splits rest own keys
    → line_then ≡ answer_words entry → keys ≡ encode_lower entry.remote ++ 32 ∷ encode_lower entry.answer
answer-keys {line_then = line_then} {rest = rest} entry front_is split every e =
    let rest_is = append_cancel_left (codes "answer ") rest (own_word entry.own ++ 32 ∷ (encode_lower entry.remote ++ 32 ∷ encode_lower entry.answer))
    (sym (split ∙ ap (λ (t : List ℕ). t ++ rest) front_is) ∙ e) in
    (every (own_word entry.own) (encode_lower entry.remote ++ 32 ∷ encode_lower entry.answer) (own_word-plain entry.own).1 rest_is).1

-- whether the text begins as an answer's line does
abbrev pub begins : List ℕ → Bool
begins text = starts_with nat_eq text (codes "answer ")

pub answer-stands : (entry : TableEntry) (rest : List ℕ) → ¬ (begins (line_then (answer_words entry) rest) ≡ false)
answer-stands entry rest h = true≢false h

-- where no answer comes, none does after these keys
pub no-answer : (keys : FileKeys) (rest : List ℕ) → begins rest ≡ false → is_answer_line keys rest ≡ false
no-answer (Xor keys) rest h = refl
no-answer (Table keys) rest h = h

-- ---- a party's line

-- what follows the role
abbrev pub words_of : FileKeys → List ℕ
words_of (Xor keys) = codes "xor " ++ key_words keys.e keys.s
words_of (Table keys) = codes "table " ++ key_words keys.e keys.s

-- what follows the line
abbrev pub after_of : FileKeys → List ℕ → List ℕ
after_of (Xor keys) rest = rest
after_of (Table keys) rest = lines_of answer_words keys.entries rest

pub party_text-line : (role : Role) (keys : FileKeys) (rest : List ℕ)
    → party_text role keys rest ≡ line_then (role_word role ++ 32 ∷ words_of keys) (after_of keys rest)
party_text-line role (Xor keys) rest = refl
party_text-line role (Table keys) rest = refl

pub lacks-words_of : (keys : FileKeys) → AreKeys keys → lacks 10 (words_of keys) ≡ true
lacks-words_of (Xor keys) h = lacks-key_words keys.e keys.s h.0 h.1
lacks-words_of (Table keys) h = lacks-key_words keys.e keys.s h.0 h.1

pub lacks-party : (role : Role) (keys : FileKeys) → AreKeys keys → lacks 10 (role_word role ++ 32 ∷ words_of keys) ≡ true
lacks-party role keys h = lacks-append 10 (role_word role) (32 ∷ words_of keys) (role_word-plain role).0 (lacks-words_of keys h)

-- what reading the next line of a text gives
abbrev pub ReadsLine : List ℕ → List ℕ → List ℕ → Bool → Type 0
ReadsLine text read after is_ended = (w b : List ℕ) → lacks 10 w ≡ true → text ≡ line_then w b → (read ≡ w) × (after ≡ b) × (is_ended ≡ true)

-- the next line is the party's
pub party-read : (role : Role) (keys : FileKeys) {text : List ℕ} (rest : List ℕ) {read after : List ℕ} {is_ended : Bool} → AreKeys keys → text ≡ party_text role keys rest
    → ReadsLine text read after is_ended → (read ≡ role_word role ++ 32 ∷ words_of keys) × (after ≡ after_of keys rest) × (is_ended ≡ true)
party-read role keys rest h e every = search (rules, lacks-party, party_text-line)

-- the party's keys are those of a table
pub record IsTable (keys : FileKeys) (words : List ℕ) : Type 0 where
  pub table : Tables.Table
  pub words_are : words ≡ codes "table " ++ key_words table.e table.s
  pub after_is : (rest : List ℕ) → after_of keys rest ≡ lines_of answer_words table.entries rest
  pub e : IfSome table.e IsKey
  pub s : IfSome table.s IsKey
  pub few : length table.entries ≤ 8
  pub entries_are : All IsEntry table.entries

-- words that are not those of xor are a table's
pub not-xor : (keys : FileKeys) {words front : List ℕ} → AreKeys keys → words ≡ words_of keys → front ≡ codes "xor "
    → ((e s : Option (List ℕ)) → IfSome e IsKey → IfSome s IsKey → words ≡ front ++ key_words e s → false ≡ true) → IsTable keys words
not-xor (Xor keys) h is xor none = search rules
not-xor (Table keys) h is xor none = record {
  table = keys;
  words_are = is;
  after_is = λ rest. refl;
  e = h.0;
  s = h.1;
  few = h.2;
  entries_are = h.3;
}

-- after words of xor no answers stand
pub xor-after : (keys : FileKeys) {words front : List ℕ} (e s : Option (List ℕ)) (rest : List ℕ) → words ≡ words_of keys → front ≡ codes "xor "
    → words ≡ front ++ key_words e s → after_of keys rest ≡ rest
xor-after (Xor keys) e s rest is xor text = refl
xor-after (Table keys) e s rest is xor text = search rules
