-- What the commands `list`, `show` and `check` print, and which faults they report.
use Rattle.std.specs.Prelude.{ℕ, List, ◌∷◌, ◌++◌, ⊤, codes, decimal, flat_map, length}
use Rattle.std.specs.List.{range_with_len}
use Rattle.noise_names.specs.Plan.{Plan}
use Rattle.noise_names.specs.Names.{Section, Names, IsFirstNameFault, section_bytes}
use Rattle.noise_names.specs.Fundamental.{fundamentals}
use Rattle.noise_names.specs.Overhead.{overhead_of}
use Rattle.noise_names.specs.Text.{Spells, line, text_of}
use Rattle.noise_names.specs.Validity.{IsFirstFault}
use Rattle.noise_names.specs.WrongText.{IsTextFault}
use Rattle.noise_lines.specs.declared.faults.Fault.{Fault}
use Rattle.noise_lines.specs.declared.faults.Fault.TheVariants.{Rule, Name, Text, Memory}
use Rattle.noise_lines.specs.Named.{IsNamed, IsUnnamed}

-- the base names of the fundamental patterns, one a line
abbrev pub list_text : List ℕ
list_text = flat_map (λ p. line p.base) fundamentals

abbrev pub overhead_line : Plan → ℕ → List ℕ
overhead_line p n = line (codes "overhead " ++ decimal n ++ 32 ∷ decimal (overhead_of p n))

-- a line for each message, from message 1 on
abbrev pub overhead_lines : Plan → List ℕ
overhead_lines p = flat_map (overhead_line p) (range_with_len 1 (length p.messages))

abbrev pub show_text : Plan → List ℕ
show_text p = text_of p ++ overhead_lines p

abbrev pub check_text : Plan → List ℕ
check_text p = line (codes "valid " ++ section_bytes p.base p.places) ++ overhead_lines p

-- the bytes are a protocol name of the pattern (Noise, 8)
abbrev pub NamesPattern : List ℕ → Plan → Type 0
NamesPattern bytes p = (name : Section) × Names bytes name × IsNamed name p

-- why `show` ends without the pattern of a name
abbrev pub IsShowFault : List ℕ → Fault → Type 0
IsShowFault bytes (Name fault) = IsFirstNameFault bytes fault
IsShowFault bytes (Rule fault) = (p : Plan) × NamesPattern bytes p × IsFirstFault p fault
IsShowFault bytes Memory = ⊤
IsShowFault bytes fault = (name : Section) × Names bytes name × IsUnnamed name fault

-- why `check` ends without a valid pattern
abbrev pub IsCheckFault : List ℕ → Fault → Type 0
IsCheckFault text (Text fault) = ((p : Plan) → Spells text p → ⊥) × IsTextFault text fault
IsCheckFault text (Rule fault) = (p : Plan) × Spells text p × IsFirstFault p fault
IsCheckFault text Memory = ⊤
IsCheckFault text _ = ⊥
