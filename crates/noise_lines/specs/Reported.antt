-- The line that is reported of a fault, without its LF.
use Rattle.std.specs.Prelude.{ℕ, List, [], ◌∷◌, ◌++◌, codes, decimal}
use Rattle.noise_names.specs.declared.faults.NameFault.{NameFault}
use Rattle.noise_names.specs.declared.faults.NameFault.TheVariants as name
use Rattle.noise_names.specs.declared.faults.TextFaultKind.{TextFaultKind}
use Rattle.noise_names.specs.declared.faults.TextFaultKind.TheVariants as kind
use Rattle.noise_keys.specs.declared.faults.SetupFault.{SetupFault}
use Rattle.noise_keys.specs.declared.faults.SetupFault.TheVariants as setup
use Rattle.noise_vectors.specs.declared.faults.LineKind.{LineKind}
use Rattle.noise_vectors.specs.declared.faults.LineKind.TheVariants as of_line
use Rattle.noise_vectors.specs.VectorText.{role_word}
use Rattle.noise_lines.specs.Lines.{line_of}
use Rattle.noise_lines.specs.declared.faults.Fault.{Fault}
use Rattle.noise_lines.specs.declared.faults.Fault.TheVariants.{Rule, Place, Setup, Unmet, Name, UnknownPattern, Text, Line, TooLong, Unreadable, Unwritable, Memory}

abbrev pub name_word : NameFault → List ℕ
name_word name.Length = codes "length"
name_word name.Prefix = codes "prefix"
name_word name.Base = codes "base"
name_word name.Modifier = codes "modifier"
name_word name.ModifierOrder = codes "modifier-order"
name_word name.Algorithm = codes "algorithm"

abbrev pub text_word : TextFaultKind → List ℕ
text_word kind.Heading = codes "heading"
text_word kind.Arrow = codes "arrow"
text_word kind.Token = codes "token"
text_word kind.PreMessage = codes "pre-message"
text_word kind.Turn = codes "turn"
text_word kind.PskPlace = codes "psk-place"
text_word kind.NameTaken = codes "name-taken"
text_word kind.Limit = codes "limit"
text_word kind.Ending = codes "ending"

abbrev pub setup_word : SetupFault → List ℕ
setup_word setup.EphemeralMissing = codes "ephemeral-missing"
setup_word setup.StaticMissing = codes "static-missing"
setup_word setup.RemoteMissing = codes "remote-missing"
setup_word setup.RemoteUnexpected = codes "remote-unexpected"
setup_word setup.PskCount = codes "psk-count"

abbrev pub line_word : LineKind → List ℕ
line_word of_line.Header = codes "header"
line_word of_line.Protocol = codes "protocol"
line_word of_line.Pattern = codes "pattern"
line_word of_line.Prologue = codes "prologue"
line_word of_line.Interval = codes "interval"
line_word of_line.Psk = codes "psk"
line_word of_line.Keys = codes "keys"
line_word of_line.Answer = codes "answer"
line_word of_line.Event = codes "event"
line_word of_line.Expect = codes "expect"
line_word of_line.Ending = codes "ending"

abbrev pub fault_words : Fault → List (List ℕ)
fault_words (Rule f) =
    codes "rule" ∷ decimal f.rule ∷ codes "message" ∷ decimal f.message ∷ codes "token" ∷ decimal f.token ∷ []
fault_words (Place f) = codes "psk place" ∷ decimal f.place ∷ []
fault_words (Setup role f) = codes "setup" ∷ role_word role ∷ setup_word f ∷ []
fault_words (Unmet number) = codes "unmet" ∷ decimal number ∷ []
fault_words (Name f) = codes "name" ∷ name_word f ∷ []
fault_words UnknownPattern = codes "unknown pattern" ∷ []
fault_words (Text f) = codes "line" ∷ decimal f.line ∷ text_word f.kind ∷ []
fault_words (Line number why) = codes "line" ∷ decimal number ∷ line_word why ∷ []
fault_words TooLong = codes "file too long" ∷ []
fault_words Unreadable = codes "cannot read" ∷ []
fault_words Unwritable = codes "cannot write" ∷ []
fault_words Memory = codes "out of memory" ∷ []

abbrev pub fault_line : Fault → List ℕ
fault_line why = line_of (fault_words why)

-- what comes to the error output: the fault's line, and nothing of a broken rule, which is reported on the output
abbrev pub error_text : Fault → List ℕ
error_text (Rule f) = []
error_text fault = fault_line fault ++ 10 ∷ []
