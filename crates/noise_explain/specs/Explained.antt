-- What an explanation of a text says.
use Rattle.std.specs.Prelude.{◌≡◌, ◌⊎◌, ℕ, List, ◌++◌, IsTrue, flat_map}
use Rattle.std.specs.List.{list_all}
use Rattle.noise_names.specs.declared.faults.RuleFault.{RuleFault}
use Rattle.noise_names.specs.Plan.{Plan}
use Rattle.noise_names.specs.Text.{Spells}
use Rattle.noise_names.specs.Validity.{IsValid}
use Rattle.noise_lines.specs.Faults.{status_of}
use Rattle.noise_lines.specs.Output.{IsCheckFault}
use Rattle.noise_lines.specs.PrintedWords.{is_printed_byte}
use Rattle.noise_lines.specs.declared.faults.Fault.{Fault}
use Rattle.noise_lines.specs.declared.faults.Fault.TheVariants.{Rule, Text, TooLong}
use Rattle.noise_explain.specs.Corrections.{AreCorrection}
use Rattle.noise_explain.specs.Facts.{facts_text}
use Rattle.noise_explain.specs.FaultPlaces.{IsAt}
use Rattle.noise_explain.specs.Positions.{line_at}
use Rattle.noise_explain.specs.RuleWords.{rule_lines}
use Rattle.noise_explain.specs.Shown.{caret_text, right_head, sentence_line, unread_head, wrong_head}
use Rattle.noise_explain.specs.declared.explanation.Explained.{Explained}
use Rattle.noise_explain.specs.declared.position.Position.{Position}

-- its text begins with these bytes
abbrev pub TextBeginsWith : List ℕ → Explained → Type 0
TextBeginsWith front e = (rest : List ℕ) × (e.text.items ≡ front ++ rest)

-- ---- sentences

-- what is wrong, and what mends it: a line each
pub record AreTwo (text : List ℕ) : Type 0 where
  pub says : List ℕ
  pub mends : List ℕ
  pub says_is : IsTrue (list_all is_printed_byte says)
  pub mends_is : IsTrue (list_all is_printed_byte mends)
  pub text_is : text ≡ sentence_line says ++ sentence_line mends

-- What is said of a fault of this text. Of one that reading finds: what is wrong; of a broken rule: the place, and what
-- is wrong there. Then come the changes that correct it, where some do, a line each. Other faults may follow, of rules
-- each in the same two lines.
pub record IsTextTold (text told : List ℕ) : Type 0 where
  pub says : List ℕ
  pub says_is : IsTrue (list_all is_printed_byte says)
  pub rows : List ℕ
  pub correct : AreCorrection text rows
  pub more : List ℕ
  pub told_is : told ≡ sentence_line says ++ (rows ++ more)

pub record IsRuleTold (text : List ℕ) (fault : RuleFault) (told : List ℕ) : Type 0 where
  pub p : Plan
  pub spells : Spells text p
  pub rows : List ℕ
  pub correct : AreCorrection text rows
  pub others : List RuleFault
  pub told_is : told ≡ rule_lines p fault ++ (rows ++ flat_map (rule_lines p) others)

abbrev pub IsTold : List ℕ → Fault → List ℕ → Type 0
IsTold text (Text fault) told = IsTextTold text told
IsTold text (Rule fault) told = IsRuleTold text fault told
IsTold text fault told = ⊥

-- ---- the whole

-- the text is that of a valid pattern, and is reported as such, with all that follows from its tokens
pub record SaysRight (name text : List ℕ) (e : Explained) : Type 0 where
  pub p : Plan
  pub spells : Spells text p
  pub valid : IsValid p
  pub status_is : e.status ≡ 0
  pub text_is : e.text.items ≡ right_head name p ++ facts_text p

-- the text has the fault that `check` reports: its position, the line there with a caret below that, and sentences
pub record SaysWrong (name text : List ℕ) (e : Explained) : Type 0 where
  pub fault : Fault
  pub wrong : IsCheckFault text fault
  pub position : Position
  pub at : IsAt text fault position
  pub status_is : e.status ≡ status_of fault
  pub told : List ℕ
  pub is_told : IsTold text fault told
  pub text_is : e.text.items
      ≡ wrong_head name position fault ++ (caret_text (line_at text position.line) position.column ++ told)

abbrev pub IsExplained : List ℕ → List ℕ → Explained → Type 0
IsExplained name text e = SaysRight name text e ⊎ SaysWrong name text e

-- a file of too many bytes is reported as such
pub record SaysLong (name : List ℕ) (e : Explained) : Type 0 where
  pub status_is : e.status ≡ 2
  pub told : List ℕ
  pub is_told : AreTwo told
  pub text_is : e.text.items ≡ unread_head name TooLong ++ told
