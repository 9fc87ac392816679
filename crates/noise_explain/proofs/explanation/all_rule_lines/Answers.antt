use Rattle.std.proofs.Common.{◌∙◌, ◌++◌, ap, List, ℕ}
use Rattle.noise_explain.proofs.ExplainedLemmas.{rule-told}
use Rattle.noise_explain.proofs.explanation.all_rule_lines.Goals as goal

pub returns : goal.returns
returns c =
    let others = c.in_ok-other_rule_lines.ensures in
    let two : List ℕ = c.extend_from_slice.new.self.items in
    record {
      told = rule-told c.args.text.now _ _ _ two _ c.args.pattern.now c.args.fault others.0 c.requires.spells c.in_ok-correction_lines.ensures.correct
          c.deref.ensures.value c.in_ok-said.ensures c.in_ok-extend_from_slice.ensures.items
          (c.in_ok-extend_from_slice-2.ensures.items ∙ ap (λ (t : List ℕ). two ++ t) (c.deref-2.ensures.value ∙ others.1));
    }
