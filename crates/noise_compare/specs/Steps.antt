-- The step of a right line, among the right lines.
use Rattle.std.specs.Prelude.{ℕ, ◌-◌, ◌==◌, ◌&&◌, Bool, true, false, not, List, [], ◌∷◌, Option, Some, None, flat_map, if◌then◌else◌, length, map, slice_get, take, take_while, unwrap_or}
use Rattle.std.specs.Str.{bytes_eq}
use Rattle.noise_compare.specs.declared.state.Kind.{Kind}
use Rattle.noise_compare.specs.declared.state.Kind.TheVariants as kind
use Rattle.noise_compare.specs.declared.state.State.{State}
use Rattle.noise_compare.specs.Lines.{has_values, is_of_place, word_at, words_in}
use Rattle.noise_compare.specs.Values.{kind_in, state_in, word_key}
use Rattle.noise_compare.specs.declared.line.Line.{Line}

-- a line is this one
abbrev pub is_alike : Line → Line → Bool
is_alike line other = line.number == other.number && has_values other line
    && bytes_eq (word_at (words_in line) 3) (word_at (words_in other) 3)

abbrev pub is_same_line : Line → Line → Bool
is_same_line line other = is_of_place other line && is_of_place line other && is_alike line other

-- the state after a line, if it is of the party of another
abbrev pub state_of_party : Line → Line → List State
state_of_party of line =
    if bytes_eq (word_at (words_in line) 1) (word_at (words_in of) 1) then state_in line ∷ [] else []

abbrev pub states_in : Line → List Line → List State
states_in of lines = flat_map (λ line. state_of_party of line) lines

-- how many lines stand before this one
abbrev pub count_before : List Line → Line → ℕ
count_before right expected = length (take_while (λ line. not (is_same_line line expected)) right)

-- the states after the lines of its party before this one
abbrev pub states_before : List Line → Line → List State
states_before right expected = states_in expected (take (count_before right expected) right)

-- the last of them; before the first line of a party the state is taken to be the one after it
abbrev pub last_state : List State → State → State
last_state states other = unwrap_or (slice_get states (length states - 1)) other

abbrev pub hashes_of : List State → List (List ℕ)
hashes_of states = map (λ state. state.hash) states

-- their hashes but the last one's
abbrev pub hashes_in : List State → List (List ℕ)
hashes_in states = hashes_of (take (length states - 1) states)

-- ---- the keys of the transport: those of Split and those after a Rekey

unfoldable pub is_of_key : Kind → Bool
is_of_key kind.Opening = true
is_of_key kind.Rekeyed = true
is_of_key other = false

abbrev pub one_key : Option (List ℕ) → List (List ℕ)
one_key None = []
one_key (Some key) = key ∷ []

abbrev pub key_of_line : Line → List (List ℕ)
key_of_line line = if is_of_key (kind_in line) then one_key (word_key (word_at (words_in line) 10)) else []

abbrev pub transport_keys : List Line → List (List ℕ)
transport_keys lines = flat_map key_of_line lines
