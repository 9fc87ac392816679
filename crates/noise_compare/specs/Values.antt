-- The values that the words of a line stand for.
use Rattle.std.specs.Prelude.{◌≡◌, ℕ, ◌||◌, Bool, true, false, not, List, [], Option, Some, None, Result, Ok, Err, Vec, codes, if◌then◌else◌, option_map, replicate, unwrap_or}
use Rattle.std.specs.Global.{Global}
use Rattle.std.specs.Str.{bytes_eq}
use Rattle.hex.specs.Hex.{decode_of, decode_sized}
use Rattle.hex.specs.declared.error.FromHexError.{FromHexError}
use Rattle.noise_compare.specs.declared.state.Kind.{Kind}
use Rattle.noise_compare.specs.declared.state.Kind.TheVariants as kind
use Rattle.noise_compare.specs.declared.state.Logged.{Logged}
use Rattle.noise_compare.specs.declared.state.State.{State}
use Rattle.noise_compare.specs.Lines.{word_at, words_in}
use Rattle.noise_compare.specs.Words.{is_zero_for_none, word_number}
use Rattle.noise_compare.specs.declared.line.Line.{Line}

abbrev pub decoded_or : List ℕ → Result (List ℕ) FromHexError → List ℕ
decoded_or other (Ok bytes) = bytes
decoded_or other (Err e) = other

-- the bytes of hex digits, and none of `-`; of any other word its own
abbrev pub word_bytes : List ℕ → List ℕ
word_bytes word = if bytes_eq word (codes "-") then [] else decoded_or word (decode_of word)

-- the 32 bytes of hex digits; of any other word zeros
abbrev pub word_array : List ℕ → List ℕ
word_array word = decoded_or (replicate 32 0) (decode_sized word 32)

-- ---- a logged line

abbrev pub decoded : Result (List ℕ) FromHexError → Option (List ℕ)
decoded (Ok bytes) = Some bytes
decoded (Err e) = None

-- the word for no bytes
unfoldable pub is_none : List ℕ → Bool
is_none word = bytes_eq word (codes "-")

-- `?` was not logged, nor is what isn't hex digits compared
abbrev pub logged_word : List ℕ → Option (List ℕ)
logged_word word = if is_none word then Some [] else decoded (decode_of word)

-- nor are 32 zero bytes where there is no key
abbrev pub logged_key : List ℕ → List ℕ → Option (List ℕ)
logged_key right word = if is_zero_for_none right word then None else logged_word word

-- nor is `-` where each line of a handshake has a value; where the right word is `-` there is none, and any is passed over
abbrev pub logged_if_any : List ℕ → List ℕ → Option (List ℕ)
logged_if_any right word = if bytes_eq right (codes "-") || is_none word then None else logged_word word

abbrev pub items_of : Option (Vec ℕ Global) → Option (List ℕ)
items_of value = option_map (λ v. v.items) value

-- ---- a right line

abbrev pub word_key : List ℕ → Option (List ℕ)
word_key word = if bytes_eq word (codes "-") then None else Some (word_array word)

-- the state after its step
abbrev pub state_in : Line → State
state_in line = record {
  hash = word_array (word_at (words_in line) 8);
  chaining_key = word_array (word_at (words_in line) 9);
  key = word_key (word_at (words_in line) 10);
  nonce = unwrap_or (word_number (word_at (words_in line) 11)) 0;
}

abbrev pub start_kind : List ℕ → Kind
start_kind name = if bytes_eq name (codes "name") then kind.Name
    else (if bytes_eq name (codes "prologue") then kind.Prologue
    else (if bytes_eq name (codes "initiator-e") then kind.Ephemeral
    else (if bytes_eq name (codes "responder-e") then kind.Ephemeral else kind.Data)))

abbrev pub transport_kind : List ℕ → Kind
transport_kind name = if bytes_eq name (codes "renewed") then kind.Rekeyed else kind.Transport

abbrev pub agreement_or_text : List ℕ → Kind
agreement_or_text name = if bytes_eq name (codes "ee") then kind.Agreement
    else (if bytes_eq name (codes "es") then kind.Agreement
    else (if bytes_eq name (codes "se") then kind.Agreement
    else (if bytes_eq name (codes "ss") then kind.Agreement else kind.Text)))

abbrev pub token_kind : List ℕ → Kind
token_kind name = if bytes_eq name (codes "e") then kind.Ephemeral
    else (if bytes_eq name (codes "psk") then kind.Secret else agreement_or_text name)

-- what the step is, by its part and its name
abbrev pub kind_by : List ℕ → List ℕ → Kind
kind_by part name = if bytes_eq part (codes "start") then start_kind name
    else (if bytes_eq part (codes "open") then kind.Opening
    else (if bytes_eq part (codes "transport") then transport_kind name
    else (if bytes_eq part (codes "datagrams") then transport_kind name else token_kind name)))

abbrev pub kind_in : Line → Kind
kind_in line = kind_by (word_at (words_in line) 2) (word_at (words_in line) 4)

-- ---- the values of a logged line, at the step of a right one

abbrev pub is_text : Kind → Bool
is_text kind.Text = true
is_text other = false

-- a step with bytes in its message: an empty payload is one too
abbrev pub has_bytes : Line → Bool
has_bytes expected = is_text (kind_in expected) || not (bytes_eq (word_at (words_in expected) 7) (codes "-"))

-- where a step has no bytes, any are passed over
abbrev pub logged_bytes : Line → List ℕ → Option (List ℕ)
logged_bytes expected word = if has_bytes expected then logged_word word else None

pub record AreLogged (line expected : Line) (logged : Logged) : Type 0 where
  pub bytes : items_of logged.bytes ≡ logged_bytes expected (word_at (words_in line) 7)
  pub hash : items_of logged.hash ≡ logged_if_any (word_at (words_in expected) 8) (word_at (words_in line) 8)
  pub chaining_key : items_of logged.chaining_key ≡ logged_if_any (word_at (words_in expected) 9) (word_at (words_in line) 9)
  pub key : items_of logged.key ≡ logged_key (word_at (words_in expected) 10) (word_at (words_in line) 10)
  pub nonce : logged.nonce ≡ word_number (word_at (words_in line) 11)
