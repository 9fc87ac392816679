use Rattle.std.proofs.Common.{◌≡◌, ◌∙◌, ap, codes}
use Rattle.std.proofs.lemmas.Result.{IfOk-weaker}
use Rattle.clap.specs.Walk.{Text}
use Rattle.clap.specs.Simple.{App, app_of, with_subcommand}
use Rattle.noise_words.specs.CommandLine.{One, Wants, compare, explain, subcommand, template, test, trace}
use Rattle.noise_words.proofs.command_line.command.Goals as goal

abbrev with : App → Text × Wants → App
with app wants = with_subcommand app (subcommand wants)

abbrev with_patterns : App → App
with_patterns app = with (with app (codes "show", One (codes "NAME"))) (codes "check", One (codes "FILE"))

abbrev with_vectors : App → App
with_vectors app =
    with (with (with app (codes "talk", One (codes "FILE"))) (codes "replay", One (codes "FILE"))) (codes "convert", One (codes "FILE"))

pub returns : goal.returns
returns c =
    let second : app_of c.in_ok-whole.whole ≡ with_patterns (app_of c.in_ok-with_list.field-0) = c.in_ok-whole.ensures in
    let third : app_of c.in_ok-with_explain.field-0 ≡ with (app_of c.in_ok-whole.whole) explain = c.in_ok-with_explain.ensures in
    let fourth : app_of c.in_ok-whole-2.whole ≡ with (app_of c.in_ok-with_explain.field-0) template = c.in_ok-whole-2.ensures in
    let fifth : app_of c.in_ok-whole-3.whole ≡ with_vectors (app_of c.in_ok-whole-2.whole) = c.in_ok-whole-3.ensures in
    let sixth : app_of c.in_ok-with_test.field-0 ≡ with (app_of c.in_ok-whole-3.whole) test = c.in_ok-with_test.ensures in
    let seventh : app_of c.in_ok-with_trace.field-0 ≡ with (app_of c.in_ok-with_test.field-0) trace = c.in_ok-with_trace.ensures in
    IfOk-weaker c.with_compare.result _ _
    (λ whole last. last ∙ ap (λ (app : App). with app compare)
    (seventh ∙ ap (λ (app : App). with app trace) (sixth ∙ ap (λ (app : App). with app test) (fifth ∙ ap with_vectors
    (fourth ∙ ap (λ (app : App). with app template) (third ∙ ap (λ (app : App). with app explain)
    (second ∙ ap with_patterns c.in_ok-with_list.ensures)))))))
    c.with_compare.ensures
