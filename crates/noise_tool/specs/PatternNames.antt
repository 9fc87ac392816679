-- Pattern names as words of the command line: what stands in a protocol name between `Noise_` and the names of the
-- algorithms (Noise, 8).
use Rattle.std.specs.Prelude.{◌≡◌, ◌⊎◌, ℕ, List, ◌++◌, Some}
use Rattle.noise_names.specs.Names.{Section, Names, prefix, suffix}
use Rattle.noise_names.specs.Fundamental.{fundamental_of}
use Rattle.noise_names.specs.Plan.{Plan}
use Rattle.noise_names.specs.Text.{text_of}
use Rattle.noise_lines.specs.Output.{IsShowFault, NamesPattern, show_text}
use Rattle.noise_lines.specs.declared.faults.Fault.{Fault}

-- the protocol name with this pattern name
abbrev pub whole_name : List ℕ → List ℕ
whole_name word = prefix ++ word ++ suffix

-- the bytes are a protocol name whose base is that of a fundamental pattern
pub record NamesFundamental (bytes : List ℕ) : Type 0 where
  pub name : Section
  pub names : Names bytes name
  pub plain : Plan
  pub known : fundamental_of name.base ≡ Some plain

-- A word of `show` stands for these bytes: for the protocol name with this pattern name, where the base is that of a
-- fundamental pattern, and else for itself.
abbrev pub StandsFor : List ℕ → List ℕ → Type 0
StandsFor word bytes =
    (NamesFundamental (whole_name word) × (bytes ≡ whole_name word))
    ⊎ ((NamesFundamental (whole_name word) → ⊥) × (bytes ≡ word))

-- what `show` prints of the protocol name that a word stands for
abbrev pub IsShownText : List ℕ → List ℕ → Type 0
IsShownText word text =
    (bytes : List ℕ) × StandsFor word bytes × (p : Plan) × NamesPattern bytes p × (text ≡ show_text p)

-- why there is nothing to show
abbrev pub IsShownFault : List ℕ → Fault → Type 0
IsShownFault word fault = (bytes : List ℕ) × StandsFor word bytes × IsShowFault bytes fault

-- the word is the name of a pattern, and this is the pattern's text
pub record NamesText (word text : List ℕ) : Type 0 where
  pub pattern : Plan
  pub names : NamesPattern (whole_name word) pattern
  pub text_is : text ≡ text_of pattern
