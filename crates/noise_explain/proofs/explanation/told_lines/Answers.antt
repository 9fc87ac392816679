use Rattle.std.proofs.Common.{◌∙◌, ◌++◌, ap, List, ℕ}
use Rattle.noise_explain.specs.Shown.{sentence_line}
use Rattle.noise_explain.proofs.ExplainedLemmas.{text-told}
use Rattle.noise_explain.proofs.explanation.told_lines.Goals as goal

pub returns : goal.returns
returns c =
    let says : List ℕ = c.sentences.result.0.now in
    record {
      told = text-told c.args.text.now says _ _ _ _ _ _ c.sentences.ensures.says c.in_ok-correction_lines.ensures.correct c.deref.ensures.value
          (c.in_ok-push_sentence.ensures ∙ ap (λ (t : List ℕ). t ++ sentence_line says) c.new-said.ensures.items) c.in_ok-extend_from_slice.ensures.items
          c.in_ok-extend_from_slice-2.ensures.items;
    }
