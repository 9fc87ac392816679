-- A file with what is given for the places of a template: a line `NAME = HEX` for each.
use Rattle.std.specs.Prelude.{⊤, ◌≡◌, ◌≢◌, ℕ, Vec, ◌+◌, ◌==◌, Bool, true, false, not, List, [], ◌∷◌, ◌++◌, Option, Some, None, codes, decimal, drop, find, if◌then◌else◌, length, map}
use Rattle.std.specs.Char.{to_ascii_lowercase}
use Rattle.std.specs.Bool.{nat_eq}
use Rattle.std.specs.Global.{Global}
use Rattle.std.specs.List.{filter, list_any, slice_split, starts_with}
use Rattle.noise_names.specs.declared.token.Role.{Role}
use Rattle.noise_names.specs.declared.token.Role.TheVariants.{Initiator, Responder}
use Rattle.noise_names.specs.declared.token.Token.{Token}
use Rattle.noise_names.specs.declared.token.Token.TheVariants.{Ee, Es, Se, Ss}
use Rattle.noise_names.specs.Plan.{Plan, places_of}
use Rattle.noise_names.specs.Validity.{is_among}
use Rattle.noise_keys.specs.declared.keys.Own.{Own}
use Rattle.noise_keys.specs.declared.keys.Own.TheVariants.{Ephemeral, Static}
use Rattle.noise_keys.specs.KeyTokens.{token_of}
use Rattle.noise_vectors.specs.HexWord.{hex_of}
use Rattle.noise_explain.specs.Template.{occurs_in, speakers}
use Rattle.noise_explain.specs.Values.{IsValueOf, place_name, same_place, takes_key}
use Rattle.noise_explain.specs.declared.values.Given.{Given}
use Rattle.noise_explain.specs.declared.values.Place.{Place}
use Rattle.noise_explain.specs.declared.values.Place.TheVariants.{Prologue, Key, Dh, Psk, Payload}
use Rattle.noise_explain.specs.declared.key_lines.LineFault.{LineFault}
use Rattle.noise_explain.specs.declared.key_lines.LineFault.TheVariants.{Unknown, Twice, NoValue}
use Rattle.noise_explain.specs.declared.key_lines.KeyFileFault.{KeyFileFault}
use Rattle.noise_explain.specs.declared.key_lines.KeyFileFault.TheVariants.{Memory, Line}
use Rattle.noise_explain.specs.declared.key_lines.Reading.{Reading}
use Rattle.noise_explain.specs.declared.key_lines.Reading.TheVariants.{Nothing, Value, Wrong}

-- ---- the places of a pattern

abbrev pub key_place : Plan → Role → Own → List Place
key_place p role own = if is_among role (token_of own) (places_of p) then Key role own ∷ [] else []

abbrev pub key_places : Plan → Role → List Place
key_places p role = key_place p role Ephemeral ++ key_place p role Static

abbrev pub dh_place : Plan → Token → List Place
dh_place p t = if occurs_in t p.messages then Dh t ∷ [] else []

abbrev pub dh_places : Plan → List Place
dh_places p = dh_place p Ee ++ dh_place p Es ++ dh_place p Se ++ dh_place p Ss

-- those that its template has, in the order in which a wrong line names them
abbrev pub pattern_places : Plan → List Place
pattern_places p =
    Prologue ∷ (key_places p Initiator ++ key_places p Responder ++ dh_places p ++ map (λ index. Psk index) p.places
    ++ map (λ turn. Payload turn.0) (speakers p.messages))

-- ---- a line

-- a space (32), a tab (9) or a carriage return (13)
abbrev pub is_space : ℕ → Bool
is_space b = list_any (λ s. s == b) (32 ∷ 9 ∷ 13 ∷ [])

-- a line without its spaces, in lower case: neither counts
abbrev pub plain_line : List ℕ → List ℕ
plain_line line = map to_ascii_lowercase (filter (λ b. not (is_space b)) line)

-- a line that says nothing: a blank one, or a comment, which begins with `#` (35)
abbrev pub is_skipped : List ℕ → Bool
is_skipped [] = true
is_skipped (b ∷ rest) = b == 35

-- what a line for a place begins with
abbrev pub front_of : Place → List ℕ
front_of place = plain_line (place_name place ++ codes "=")

-- which of these places a line names, if it names one
abbrev pub place_in : List Place → List ℕ → Option Place
place_in places plain = find (λ place. starts_with nat_eq plain (front_of place)) places

-- what follows the name of a place
abbrev pub word_after : Place → List ℕ → List ℕ
word_after place plain = drop (length (front_of place)) plain

-- the line gives this for one of these places
pub record IsGivenIn (places : List Place) (line : List ℕ) (given : Given) : Type 0 where
  pub said : is_skipped (plain_line line) ≡ false
  pub place : place_in places (plain_line line) ≡ Some given.place
  pub word : word_after given.place (plain_line line) ≡ hex_of given.value.items
  pub right : IsValueOf given.place given.value.items

-- ---- the lines

abbrev pub is_given : List Given → Place → Bool
is_given given place = list_any (λ g. same_place g.place place) given

-- These lines give this for some of these places, in their order: each says nothing, or is the first that gives its
-- place.
pub data AreLines (places : List Place) : List (List ℕ) → List Given → Type 0 where
  none : AreLines places [] []
  passed : (lines : List (List ℕ)) (given : List Given) (line : List ℕ) → AreLines places lines given
      → is_skipped (plain_line line) ≡ true → AreLines places (lines ++ line ∷ []) given
  gives : (lines : List (List ℕ)) (given : List Given) (line : List ℕ) (one : Given) → AreLines places lines given
      → IsGivenIn places line one → is_given given one.place ≡ false
      → AreLines places (lines ++ line ∷ []) (given ++ one ∷ [])

-- the lines of a file; what follows the last LF (10) is one too
abbrev pub lines_in : List ℕ → List (List ℕ)
lines_in text = slice_split (λ b. b == 10) text

-- the file of this text gives this for places of the pattern's template
abbrev pub IsGivenBy : Plan → List ℕ → List Given → Type 0
IsGivenBy p text given = AreLines (pattern_places p) (lines_in text) given

-- ---- a wrong line

-- no bytes that the place takes are the word
abbrev pub IsNoValue : Place → List ℕ → Type 0
IsNoValue place word = (value : List ℕ) → IsValueOf place value → word ≢ hex_of value

-- the value of the place that the word stands for, or none where it stands for none
abbrev pub IsValueIn : Place → List ℕ → Option (Vec ℕ Global) → Type 0
IsValueIn place word None = IsNoValue place word
IsValueIn place word (Some value) = (word ≡ hex_of value.items) × IsValueOf place value.items

-- what is wrong with a line after lines that give this: it names none of these places, or one that is given, or what
-- follows is no value of it
abbrev pub IsWrong : List Place → List Given → List ℕ → LineFault → Type 0
IsWrong places given plain Unknown = place_in places plain ≡ None
IsWrong places given plain (Twice place) = (place_in places plain ≡ Some place) × (is_given given place ≡ true)
IsWrong places given plain (NoValue place) =
    (place_in places plain ≡ Some place) × (is_given given place ≡ false) × IsNoValue place (word_after place plain)

-- what comes of a line after lines that give this
abbrev pub IsRead : List Place → List Given → List ℕ → Reading → Type 0
IsRead places given line Nothing = is_skipped (plain_line line) ≡ true
IsRead places given line (Value one) = IsGivenIn places line one × (is_given given one.place ≡ false)
IsRead places given line (Wrong why) =
    (is_skipped (plain_line line) ≡ false) × IsWrong places given (plain_line line) why

-- the line of this number is the first that is wrong
pub record IsWrongFile (p : Plan) (text : List ℕ) (number : ℕ) (why : LineFault) : Type 0 where
  pub before : List (List ℕ)
  pub line : List ℕ
  pub after : List (List ℕ)
  pub lines : lines_in text ≡ before ++ line ∷ after
  pub number_is : number ≡ length before + 1
  pub given : List Given
  pub right : AreLines (pattern_places p) before given
  pub said : is_skipped (plain_line line) ≡ false
  pub wrong : IsWrong (pattern_places p) given (plain_line line) why

-- the fault is that a line is wrong, and then this holds of it
abbrev pub IfLine : KeyFileFault → (ℕ → LineFault → Type 0) → Type 0
IfLine Memory P = ⊤
IfLine (Line number why) P = P number why

-- ---- what is said of it

abbrev pub names_text : List Place → List ℕ
names_text [] = []
names_text (place ∷ []) = place_name place
names_text (place ∷ more) = place_name place ++ codes ", " ++ names_text more

-- what a place takes
abbrev pub value_text : Bool → List ℕ
value_text true = codes "64 hex digits"
value_text false = codes "the hex digits of at most 65535 bytes, or a hyphen for none,"

abbrev pub expected_text : List Place → LineFault → List ℕ
expected_text places Unknown =
    codes "expected NAME = HEX, where NAME is one of this pattern's: " ++ names_text places
expected_text places (Twice place) = place_name place ++ codes " is given twice, expected once"
expected_text places (NoValue place) = codes "expected " ++ value_text (takes_key place) ++ codes " for " ++ place_name place

abbrev pub wrong_line_text : Plan → ℕ → LineFault → List ℕ
wrong_line_text p number why =
    codes "line " ++ decimal number ++ codes ": " ++ expected_text (pattern_places p) why
