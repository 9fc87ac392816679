-- What explanations say.
use Rattle.std.proofs.Common.{◌≡◌, ◌∙◌, ◌≤◌, ap, inl, inr, subst, sym, ℕ, List, ◌++◌, append_assoc, arith}
use Rattle.std.specs.Prelude.{IfOk, IsTrue, Result, Ok, Err, [], flat_map}
use Rattle.std.specs.List.{list_all}
use Rattle.std.specs.declared.alloc.AllocError.{AllocError}
use Rattle.noise_lines.specs.Faults.{status_of}
use Rattle.noise_lines.specs.Output.{IsCheckFault}
use Rattle.noise_lines.specs.PrintedWords.{is_printed_byte}
use Rattle.noise_lines.specs.declared.faults.Fault.{Fault}
use Rattle.noise_lines.specs.declared.faults.Fault.TheVariants.{Rule, Text}
use Rattle.noise_names.specs.declared.faults.RuleFault.{RuleFault}
use Rattle.noise_names.specs.declared.faults.TextFault.{TextFault}
use Rattle.noise_names.specs.Plan.{Plan}
use Rattle.noise_names.specs.Text.{Spells}
use Rattle.noise_names.specs.Validity.{IsValid}
use Rattle.noise_explain.specs.Corrections.{AreCorrection, IsFirst}
use Rattle.noise_explain.specs.Explained.{IsExplained, IsRuleTold, IsTextTold, IsTold, SaysWrong}
use Rattle.noise_explain.specs.Facts.{facts_text}
use Rattle.noise_explain.specs.Positions.{IsColumn, line_at}
use Rattle.noise_explain.specs.RulePlaces.{IsRulePlace}
use Rattle.noise_explain.specs.RuleWords.{rule_lines}
use Rattle.noise_explain.specs.Shown.{caret_text, right_head, sentence_line, wrong_head}
use Rattle.noise_explain.specs.declared.explanation.Explained.{Explained}
use Rattle.noise_explain.specs.declared.position.Position.{Position}

-- a valid pattern is reported
pub right-said : (name text : List ℕ) (p valid : Plan) (r : Result Explained AllocError) → Spells text p → valid ≡ p → IsValid p
    → IfOk r (λ e. e.status ≡ 0) → IfOk r (λ e. e.text.items ≡ right_head name valid ++ facts_text valid) → IfOk r (IsExplained name text)
right-said name text p valid (Ok e) spells same is_valid status is = inl (record {
  p = p;
  spells = spells;
  valid = is_valid;
  status_is = status;
  text_is = is ∙ ap (λ (q : Plan). right_head name q ++ facts_text q) same;
})
right-said name text p valid (Err e) spells same is_valid status is = tt

pub few-said : (r : Result Explained AllocError) → IfOk r (λ e. e.status ≡ 0) → IfOk r (λ e. e.status ≤ 2)
few-said (Ok e) zero = omega (arith, zero)
few-said (Err e) zero = tt

pub wrong-said : (name text : List ℕ) (r : Result Explained AllocError) → IfOk r (SaysWrong name text) → IfOk r (IsExplained name text)
wrong-said name text (Ok e) said = inr said
wrong-said name text (Err e) said = tt

-- the first line, the line with its caret, and what is told
whole : (items head caret line_caret told : List ℕ) → items ≡ (head ++ caret) ++ told → caret ≡ line_caret → items ≡ head ++ (line_caret ++ told)
whole items head caret line_caret told is same = is ∙ append_assoc head caret told ∙ ap (λ (t : List ℕ). head ++ (t ++ told)) same

-- ---- the first fault of a text, and where it stands

pub text-first : (text line : List ℕ) (fault : TextFault) (position : Position) → IsCheckFault text (Text fault) → position.line ≡ fault.line
    → line ≡ line_at text fault.line → IsColumn fault.kind fault.line line position.column → IsFirst text (Text fault) position
text-first text line fault position wrong number line_is column = record {
  wrong = wrong;
  at = (number, subst (λ (l : List ℕ). IsColumn fault.kind fault.line l position.column) line_is column);
}

pub rule-first : (text : List ℕ) (p : Plan) (fault : RuleFault) (position : Position) → Spells text p → IsCheckFault text (Rule fault)
    → IsRulePlace p fault position → IsFirst text (Rule fault) position
rule-first text p fault position spells wrong place = record { wrong = wrong; at = (p, spells, place) }

-- such a fault is told
pub fault-said : (name text line : List ℕ) (fault : Fault) (position : Position) (e : Explained) (caret told : List ℕ) → IsFirst text fault position
    → e.status ≡ status_of fault → e.text.items ≡ (wrong_head name position fault ++ caret) ++ told → caret ≡ caret_text line position.column
    → line ≡ line_at text position.line → IsTold text fault told → SaysWrong name text e
fault-said name text line fault position e caret told first status is caret_is line_is is_told = record {
  fault = fault;
  wrong = first.wrong;
  position = position;
  at = first.at;
  status_is = status;
  told = told;
  is_told = is_told;
  text_is = whole e.text.items (wrong_head name position fault) caret _ told is (caret_is ∙ ap (λ (l : List ℕ). caret_text l position.column) line_is);
}

-- what is wrong, what corrects it, and what follows
pub text-told : (text says found rows more one two items : List ℕ) → IsTrue (list_all is_printed_byte says) → AreCorrection text found → rows ≡ found
    → one ≡ [] ++ sentence_line says → two ≡ one ++ rows → items ≡ two ++ more → IsTextTold text items
text-told text says found rows more one two items printed correct rows_is one_is two_is items_is = record {
  says = says;
  says_is = printed;
  rows = rows;
  correct = subst (AreCorrection text) (sym rows_is) correct;
  more = more;
  told_is = items_is ∙ ap (λ (t : List ℕ). t ++ more) (two_is ∙ ap (λ (t : List ℕ). t ++ rows) one_is) ∙ append_assoc (sentence_line says) rows more;
}

pub rule-told : (text found rows one two items : List ℕ) (p : Plan) (fault : RuleFault) (others : List RuleFault) → Spells text p → AreCorrection text found
    → rows ≡ found → one ≡ rule_lines p fault → two ≡ one ++ rows → items ≡ two ++ flat_map (rule_lines p) others → IsRuleTold text fault items
rule-told text found rows one two items p fault others spells correct rows_is one_is two_is items_is =
    let more : List ℕ = flat_map (rule_lines p) others in
    record {
      p = p;
      spells = spells;
      rows = rows;
      correct = subst (AreCorrection text) (sym rows_is) correct;
      others = others;
      told_is = items_is ∙ ap (λ (t : List ℕ). t ++ more) (two_is ∙ ap (λ (t : List ℕ). t ++ rows) one_is) ∙ append_assoc (rule_lines p fault) rows more;
    }
