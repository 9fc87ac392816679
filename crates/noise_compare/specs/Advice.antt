-- What is said of the likely mistakes.
use Rattle.std.specs.Prelude.{◌≡◌, ℕ, ◌==◌, ◌&&◌, ◌||◌, Bool, true, false, not, List, [], ◌∷◌, ◌++◌, Option, Some, None, codes, count_by, drop, find, flat_map, if◌then◌else◌, length, take}
use Rattle.std.specs.Str.{bytes_eq}
use Rattle.noise_compare.specs.Finding.{Row, found_mistakes, is_right, refusing_mistakes}
use Rattle.noise_compare.specs.Shown.{shown_text}
use Rattle.noise_compare.specs.Situations.{IsSituation}
use Rattle.noise_compare.specs.declared.facts.Facts.{Facts}
use Rattle.noise_compare.specs.declared.state.Situation.{Situation}
use Rattle.noise_compare.specs.declared.state.Logged.{Logged}
use Rattle.noise_compare.specs.Lines.{is_of_place, is_same_word, word_at, words_in}
use Rattle.noise_compare.specs.Report.{ended, place_line, value_text}
use Rattle.noise_compare.specs.Steps.{count_before}
use Rattle.noise_compare.specs.Values.{AreLogged, has_bytes, is_text, items_of, logged_word}
use Rattle.noise_compare.specs.Words.{word_number}
use Rattle.noise_compare.specs.States.{state_fits}
use Rattle.std.specs.Option.{is_some}
use Rattle.noise_compare.specs.declared.line.Line.{Line}

-- the sentence of each mistake, a line each
unfoldable pub sentences : List Row → List ℕ
sentences rows = flat_map (λ row. ended row.1) rows

-- The mistakes that give the logged values; where there is none, what the values show.
abbrev pub mistakes_text : Situation → Logged → List Row → List ℕ
mistakes_text at logged [] = ended (codes "none of the mistakes that are tried gives your values") ++ shown_text at logged
mistakes_text at logged (mistake ∷ []) = ended (codes "the mistake that gives your values:") ++ sentences (mistake ∷ [])
mistakes_text at logged (mistake ∷ (other ∷ more)) =
    ended (codes "each of these mistakes gives your values:") ++ sentences (mistake ∷ other ∷ more)

-- what no log shows
abbrev pub refusing_inputs_text : List ℕ
refusing_inputs_text = codes "or it decrypts with another key than k, or with other associated data than h: log the key and the associated data that your AEAD takes"

-- the mistakes with which a party refuses what is right
abbrev pub refusing_text : List Row → List ℕ
refusing_text mistakes =
    ended (codes "if your end refused this message, and got the bytes that are right here, each of these mistakes does it:")
    ++ (sentences mistakes ++ (ended refusing_inputs_text
    ++ ended (codes "or the AEAD itself: try RFC 8439, 2.8.2")))

-- ---- lines that the log lacks

-- a line of a party that its log lacks before another
abbrev pub lacking_line : Line → Line → List ℕ
lacking_line expected line = if bytes_eq (word_at (words_in line) 1) (word_at (words_in expected) 1)
    then place_line (codes "your log has no line here for ") line else []

abbrev pub lacking_lines : Line → List Line → List ℕ
lacking_lines expected lines = flat_map (lacking_line expected) lines

-- those of the right lines from this place on that stand before a line
abbrev pub lacking_text : List Line → ℕ → Line → List ℕ
lacking_text right left expected =
    lacking_lines expected (take (count_before (drop left right) expected) (drop left right))

-- The log has fewer lines of a right line's place before the line at this index than stand before the right line. Where
-- lines of the transport are passed over, n may be another, so that no mistake is named.
abbrev pub has_gap : List Line → List Line → ℕ → Line → Bool
has_gap right log index expected = not (count_by (is_of_place expected) (take (count_before right expected) right)
    == count_by (is_of_place expected) (take index log))

unfoldable pub gap_text : List ℕ
gap_text = ended (codes "no mistake is named: your log passes over lines of this name before this one, or its n is another")

-- ---- what a log has in another form

-- the log has bytes, and the step none
abbrev pub has_other_bytes : Line → Line → Bool
has_other_bytes line expected = not (has_bytes expected) && not (is_same_word line expected 7)

unfoldable pub bytes_text : Line → Line → List ℕ
bytes_text line expected =
    if has_other_bytes line expected then ended (codes "this step has no bytes: log - for them") else []

-- the hash, the chaining key, the key and the nonce are written as the right ones
abbrev pub has_state : Line → Line → Bool
has_state line expected = is_same_word line expected 8 && is_same_word line expected 9
    && is_same_word line expected 10 && is_same_word line expected 11

-- a word that stands for no bytes, for bytes or for what isn't logged
abbrev pub is_known : List ℕ → Bool
is_known word = is_some (logged_word word) || bytes_eq word (codes "?")

abbrev pub is_known_number : List ℕ → Bool
is_known_number word = bytes_eq word (codes "?") || is_some (word_number word)

-- all values of a line are such words
abbrev pub has_known : Line → Bool
has_known line = is_known (word_at (words_in line) 7) && is_known (word_at (words_in line) 8)
    && is_known (word_at (words_in line) 9) && is_known (word_at (words_in line) 10)
    && is_known_number (word_at (words_in line) 11)

unfoldable pub unknown_text : Bool → List ℕ
unknown_text known = if known then [] else
    ended (codes "words that aren't hex digits aren't compared: write hex digits, - for none, or ? for what you don't have")

-- the log has `-` for a value of a step of the handshake
abbrev pub lacks_value : Line → Line → ℕ → Bool
lacks_value line expected i = bytes_eq (word_at (words_in line) i) (codes "-") && not (is_same_word line expected i)
    && not (bytes_eq (word_at (words_in expected) 2) (codes "open"))

abbrev pub lacks_state : Line → Line → Bool
lacks_state line expected = lacks_value line expected 8 || lacks_value line expected 9

-- what is said of a line whose values are right, and not written as the right ones
unfoldable pub form_text : Bool → Line → Line → List ℕ
form_text known line expected = if lacks_state line expected
    then ended (codes "your log has - for a hash or a chaining key that this step has: log it, or ? if your log lacks it; all else here is right")
    else (if not known then ended (codes "all else that your log has here is right")
    else (if has_other_bytes line expected && has_state line expected
    then ended (codes "only your log's bytes differ: this step has none, so log -")
    else ended (codes "what your log has here is right: write each value above as the right one is, or ? if you don't have it")))

-- the state is right with the hash, which is that of the right bytes, and the logged bytes are others
abbrev pub is_hashed : Situation → Logged → Bool
is_hashed at logged = is_some logged.hash && state_fits logged at.right

unfoldable pub hashed_text : List ℕ
hashed_text = ended (codes "only the bytes differ, and h is that of the right ones: log the bytes as they are in the message")

abbrev pub wrong_text : Bool → Situation → Logged → Line → Line → List ℕ
wrong_text gap at logged line expected = if is_hashed at logged then hashed_text
    else bytes_text line expected ++ (if gap then gap_text else mistakes_text at logged (found_mistakes at logged))

-- no mistake where the values are right, nor where lines of the place are passed over
abbrev pub advice_text : Bool → Situation → Logged → Line → Line → List ℕ
advice_text gap at logged line expected = unknown_text (has_known line)
    ++ (if is_right at logged then form_text (has_known line) line expected else wrong_text gap at logged line expected)

-- At the step of the right line beside a line of the log: the lines that the log lacks before it, and the mistakes that
-- give what was logged, all of the list and in its order. The values are those of the line of the log.
pub record IsAdvice (facts : Facts) (right log : List Line) (index left : ℕ) (line expected : Line) (text : List ℕ) : Type 0 where
  pub at : Situation
  pub step : IsSituation facts right left expected at
  pub logged : Logged
  pub values : AreLogged line expected logged
  pub text_is : text ≡ lacking_text right left expected
      ++ advice_text (has_gap right log index expected) at logged line expected

-- ---- a line whose place no right line has that is left

-- a right line of its party; a Rekey isn't what is due for a message that is dropped
abbrev pub is_due_for : Line → Line → Bool
is_due_for logged right = bytes_eq (word_at (words_in right) 1) (word_at (words_in logged) 1)
    && not (bytes_eq (word_at (words_in logged) 4) (codes "dropped") && bytes_eq (word_at (words_in right) 4) (codes "renewed"))

-- the next right line that is due for it
abbrev pub next_for : List Line → ℕ → Line → Option Line
next_for right left logged = find (is_due_for logged) (drop left right)

unfoldable pub none_left_text : List ℕ
none_left_text = ended (codes "no line of the schedule is left: a message that the file lacks, or a step too many")

unfoldable pub due_text : Line → List ℕ
due_text next = place_line (codes "due is ") next ++ ended (codes "a step out of order, or too many, or under another name")

-- a message that is dropped, and is right
abbrev pub is_dropped : Line → Line → Bool
is_dropped logged next = bytes_eq (word_at (words_in logged) 4) (codes "dropped") && bytes_eq (word_at (words_in next) 4) (codes "opened")

-- the key and the nonce are right, so the tag is made in another way
abbrev pub nonce_text : Line → List ℕ
nonce_text next = if bytes_eq (word_at (words_in next) 11) (codes "0") then []
    else ended (codes "or its nonce isn't 4 zero bytes and 8 little-endian ones (12.3)")

unfoldable pub sealed_otherwise_text : Line → List ℕ
sealed_otherwise_text next =
    ended (codes "your end refused a right message with the right key and n: its associated data isn't empty (5)")
    ++ (nonce_text next ++ ended (codes "or the AEAD itself: try RFC 8439, 2.8.2"))

abbrev pub dropped_advice : Bool → Situation → Logged → Line → Line → List ℕ
dropped_advice gap at values logged next = if is_right at values
    then bytes_text logged next ++ sealed_otherwise_text next else advice_text gap at values logged next

-- it is refused under another key or nonce, or its tag is made in another way
pub record IsDropped (facts : Facts) (right log : List Line) (index : ℕ) (logged next : Line) (text : List ℕ) : Type 0 where
  pub at : Situation
  pub step : IsSituation facts right 0 next at
  pub values : Logged
  pub values_are : AreLogged logged next values
  pub text_is : text ≡ value_text (codes "key") 10 logged next ++ (value_text (codes "nonce") 11 logged next
      ++ dropped_advice (has_gap right log index next) at values logged next)

abbrev pub IsNextAdvice : Facts → List Line → List Line → ℕ → Line → Line → Bool → List ℕ → Type 0
IsNextAdvice facts right log index logged next true text = IsDropped facts right log index logged next text
IsNextAdvice facts right log index logged next false text = text ≡ due_text next

abbrev pub IsDueAdvice : Facts → List Line → List Line → ℕ → Line → Option Line → List ℕ → Type 0
IsDueAdvice facts right log index logged None text = text ≡ none_left_text
IsDueAdvice facts right log index logged (Some next) text =
    IsNextAdvice facts right log index logged next (is_dropped logged next) text

-- what is said of such a line
abbrev pub IsPlaceAdvice : Facts → List Line → List Line → ℕ → ℕ → Line → List ℕ → Type 0
IsPlaceAdvice facts right log index left logged text =
    IsDueAdvice facts right log index logged (next_for right left logged) text

-- ---- the step before which a log ends

-- the right bytes alone
pub record HasBytesAlone (bytes : List ℕ) (logged : Logged) : Type 0 where
  pub bytes_are : items_of logged.bytes ≡ Some bytes
  pub no_hash : items_of logged.hash ≡ None
  pub no_chaining_key : items_of logged.chaining_key ≡ None
  pub no_key : items_of logged.key ≡ None
  pub no_nonce : logged.nonce ≡ None

abbrev pub keyless_text : Bool → List ℕ
keyless_text of_text = if of_text
    then ended (codes "your end takes another length here: without a key a text has no tag; or of the frame (13)")
    else ended (codes "your end stopped there: give its frame by raw, and see what the right end makes of it")

-- of a text under a key, the mistakes with which a party refuses it
abbrev pub keyed_text : Situation → Logged → List ℕ
keyed_text at logged = if is_text at.kind then refusing_text (refusing_mistakes at logged) else keyless_text false

abbrev pub end_text : Situation → Option (List ℕ) → Logged → List ℕ
end_text at None logged = keyless_text (is_text at.kind)
end_text at (Some key) logged = keyed_text at logged

-- what is said of a log that ends before this step
pub record IsEndAdvice (facts : Facts) (right : List Line) (next : Line) (text : List ℕ) : Type 0 where
  pub at : Situation
  pub step : IsSituation facts right 0 next at
  pub logged : Logged
  pub bytes : HasBytesAlone at.bytes.now logged
  pub text_is : text ≡ end_text at at.before.key logged
