-- What `template` with a file of values prints, and its exit status.
use Rattle.std.specs.Prelude.{◌≡◌, ◌⊎◌, ◌<◌, ℕ, Bool, true, List, Option, IfSome, IsTrue, MatchBool, codes, length, string_bytes}
use Rattle.noise_names.specs.Plan.{Plan}
use Rattle.noise_names.specs.Text.{Spells}
use Rattle.noise_names.specs.Validity.{IsValid}
use Rattle.noise_lines.specs.Faults.{status_of}
use Rattle.noise_lines.specs.Output.{IsCheckFault, IsShowFault, NamesPattern}
use Rattle.noise_lines.specs.Reported.{fault_line}
use Rattle.noise_lines.specs.Verdicts.{named_fault}
use Rattle.noise_lines.specs.declared.faults.Fault.{Fault}
use Rattle.noise_lines.specs.declared.faults.Fault.TheVariants.{TooLong, Unreadable}
use Rattle.noise_explain.specs.KeyLines.{IsGivenBy, IsWrongFile, wrong_line_text}
use Rattle.noise_explain.specs.Template.{IsTemplateText, names_protocol}
use Rattle.noise_explain.specs.declared.values.Given.{Given}
use Rattle.noise_explain.specs.declared.key_lines.LineFault.{LineFault}
use Rattle.noise_words.specs.declared.orders.Filled.{Filled}
use Rattle.noise_tool.specs.Answers.{AnswerValue, IsLine, IsOutput, TellsFault}
use Rattle.noise_tool.specs.PatternNames.{NamesText}
use Rattle.noise_tool.specs.Testing.{is_input}

-- ---- the pattern

-- the text of the file of this name, where it is known, or where it may be that it can't be read that of the pattern
-- of this name
abbrev pub IsWordText : List ℕ → (List ℕ → Option (List ℕ)) → (List ℕ → Bool) → List ℕ → Type 0
IsWordText word bytes_at unreadable text =
    IfSome (bytes_at word) (λ bytes. text ≡ bytes) ⊎ (IsTrue (unreadable word) × NamesText word text)

-- the word is a protocol name of the pattern, or else such a text spells it
abbrev pub IsWordPattern : List ℕ → (List ℕ → Option (List ℕ)) → (List ℕ → Bool) → Plan → Type 0
IsWordPattern word bytes_at unreadable p = MatchBool (names_protocol word) (NamesPattern word p)
    ((text : List ℕ) × IsWordText word bytes_at unreadable text × Spells text p)

-- why there is no such pattern: the fault of `show` on this name, or else that of `check` on the text
abbrev pub IsWordFault : List ℕ → (List ℕ → Option (List ℕ)) → (List ℕ → Bool) → Fault → Type 0
IsWordFault word bytes_at unreadable fault = MatchBool (names_protocol word) (IsShowFault word fault)
    (((fault ≡ TooLong) × IfSome (bytes_at word) (λ bytes. 4194304 < length bytes))
    ⊎ ((text : List ℕ) × IsWordText word bytes_at unreadable text × IsCheckFault text fault))

-- ---- the vector file

-- the text of the right vector file of the pattern with values: those that the file of values gives, where its text is
-- known
abbrev pub IsFilledBy : Plan → Option (List ℕ) → List ℕ → Type 0
IsFilledBy p known text =
    (given : List Given) × IfSome known (λ keys. IsGivenBy p keys given) × IsTemplateText given p text

-- ---- a file of values that is refused

-- it has more bytes than are read, or it may be that it can't be read
abbrev pub IsUnreadKeys : List ℕ → Fault → AnswerValue → Type 0
IsUnreadKeys keys fault told =
    ((fault ≡ TooLong) ⊎ (fault ≡ Unreadable)) × IsLine told (named_fault keys (fault_line fault)) (status_of fault)

-- a line is wrong: of its text, where that is known
abbrev pub IsWrongKeys : Plan → List ℕ → Option (List ℕ) → AnswerValue → Type 0
IsWrongKeys p keys known told =
    (number : ℕ) × (why : LineFault) × IfSome known (λ text. IsWrongFile p text number why)
    × IsLine told (named_fault keys (wrong_line_text p number why)) 2

-- the pattern and the values are both standard input, which is read once
abbrev pub IsNamedTwice : Filled → AnswerValue → Type 0
IsNamedTwice names told =
    (is_input (string_bytes names.pattern) ≡ true) × (is_input (string_bytes names.keys) ≡ true)
    × IsLine told (named_fault (codes "-") (codes "standard input is named twice")) 2

-- why a file of values of this name is refused for this pattern
abbrev pub IsKeysRefusal : List ℕ → (List ℕ → Option (List ℕ)) → (List ℕ → Bool) → Plan → AnswerValue → Type 0
IsKeysRefusal keys bytes_at unreadable p told =
    (IsUnreadKeys keys TooLong told × IfSome (bytes_at keys) (λ bytes. 4194304 < length bytes))
    ⊎ (IsUnreadKeys keys Unreadable told × IsTrue (unreadable keys))
    ⊎ IsWrongKeys p keys (bytes_at keys) told

-- ---- the answer

-- that of a file of values for this pattern
abbrev pub IsFillAnswerFor : Filled → (List ℕ → Option (List ℕ)) → (List ℕ → Bool) → Plan → AnswerValue → Type 0
IsFillAnswerFor names bytes_at unreadable p told =
    (IsValid p × IsFilledBy p (bytes_at (string_bytes names.keys)) told.out × IsOutput told 0)
    ⊎ IsKeysRefusal (string_bytes names.keys) bytes_at unreadable p told

-- The vector file, or why the values are refused, by the names and by the texts of the files, where these are known; or
-- the fault of the pattern, or one that is outside the program.
abbrev pub IsFillAnswer : Filled → (List ℕ → Option (List ℕ)) → (List ℕ → Bool) → AnswerValue → Type 0
IsFillAnswer names bytes_at unreadable told =
    IsNamedTwice names told
    ⊎ ((p : Plan) × IsWordPattern (string_bytes names.pattern) bytes_at unreadable p
    × IsFillAnswerFor names bytes_at unreadable p told)
    ⊎ TellsFault (λ fault. (status_of fault ≡ 3)
    ⊎ IsWordFault (string_bytes names.pattern) bytes_at unreadable fault) told
