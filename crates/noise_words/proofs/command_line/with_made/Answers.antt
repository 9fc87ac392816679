use Rattle.std.proofs.Common.{◌∙◌, ap}
use Rattle.std.proofs.lemmas.Result.{IfOk-weaker}
use Rattle.clap.specs.Simple.{Shape, app_of, with_subcommand}
use Rattle.noise_words.proofs.command_line.with_made.Goals as goal

pub returns : goal.returns
returns c = λ shape same.
    IfOk-weaker c.subcommand.result _ _
    (λ whole adds. adds.shape (rw c.in_ok-made.was at c.requires)
    ∙ ap (λ (shape : Shape). with_subcommand (app_of c.args.whole) shape) (rw c.in_ok-made.was at same))
    c.subcommand.ensures
