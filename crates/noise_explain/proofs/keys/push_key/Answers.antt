use Rattle.std.proofs.Common.{◌∙◌, ◌++◌, ap, List, ℕ}
use Rattle.std.proofs.lemmas.Result.{on_ok_weaker}
use Rattle.noise_explain.proofs.ValueLemmas.{given-word}
use Rattle.noise_explain.proofs.keys.push_key.Goals as goal

pub returns-in-Some : goal.returns-in-Some
returns-in-Some c = record {
  appended = on_ok_weaker c.hex_word.result
      (λ e. e ∙ ap (λ (t : List ℕ). c.args.text.now.items ++ t) (given-word c.args.given.now c.args.place c.in-Some.value.now c.requires.right c.requires.key c.in-Some.ensures))
      c.hex_word.ensures.appended;
}
