use Rattle.std.proofs.Common.{◌∙◌, ap₂, refl, sym}
use Rattle.std.proofs.lemmas.List.Sums.{fold_more}
use Rattle.clap.specs.Simple.{App, app_of, with_subcommand}
use Rattle.noise_words.specs.CommandLine.{subcommand, wanted_by}
use Rattle.noise_words.specs.declared.help.Subcommand.{Subcommand}
use Rattle.noise_words.proofs.command_line.adding.Goals as goal

abbrev with_named : App → Subcommand → App
with_named app sub = with_subcommand app (subcommand (sub.name.now, wanted_by sub))

pub loop-named-preserved : goal.loop-named-preserved
loop-named-preserved c =
    c.in_ok-whole.ensures _ c.with_value.ensures.shape
    ∙ ap₂ with_subcommand c.loop-named.invariant refl
    ∙ sym (fold_more with_named (app_of c.args.whole) c.args.subcommands.now c.loop-named.named-index _ c.loop-named-test.true)
