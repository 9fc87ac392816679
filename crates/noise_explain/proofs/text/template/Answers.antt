use Rattle.std.proofs.Common.{◌≡◌, subst, rules, ℕ, ◌≤◌, List, length}
use Rattle.noise_explain.specs.Template.{template_text}
use Rattle.noise_explain.proofs.FileLemmas.{is-template}
use Rattle.noise_explain.proofs.text.template.Goals as goal

pub returns-clause-file : goal.returns-clause-file
returns-clause-file c =
    let text : c.push_says.new.text.items ≡ template_text c.args.given.now c.args.pattern.now = search rules in
    let few : length c.args.pattern.now.places ≤ 9 = subst (λ (ns : List ℕ). length ns ≤ 9) c.places.ensures.value c.numbers.ensures.few in
    is-template c.args.given.now c.args.pattern.now c.push_says.new.text c.push_says.new.text.items c.requires.right c.messages.ensures.limits few text
