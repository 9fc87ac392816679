use Rattle.std.proofs.Common.{◌≡◌, fold, take}
use Rattle.clap.specs.Simple.{app_of, with_subcommand}
use Rattle.noise_words.specs.CommandLine.{subcommand, wanted_by}
use Rattle.noise_words.proofs.command_line.adding.Given as goal

abbrev pub invariant-loop-named : goal.invariant-loop-named
invariant-loop-named l =
    app_of l.whole ≡ fold (λ app sub. with_subcommand app (subcommand (sub.name.now, wanted_by sub))) (app_of l.fn.whole) (take l.named-index l.subcommands)
