use Rattle.std.proofs.Common.{◌∙◌, ◌++◌, ◌∷◌, [], ap, ap₂}
use Rattle.std.specs.Prelude.{◌||◌}
use Rattle.std.proofs.lemmas.Result.{IfOk-weaker}
use Rattle.clap.specs.Walk.{Rule}
use Rattle.clap.specs.Simple.{App, Shape}
use Rattle.noise_words.proofs.command_line.with_argument.Goals as goal

pub returns-clause-shape : goal.returns-clause-shape
returns-clause-shape c = λ shape rule same_rule same.
    IfOk-weaker c.arg.result _ _
    (λ whole adds. ap (λ (app : App). app.top) (adds.shape c.requires)
    ∙ ap₂ (λ (s : Shape) (r : Rule). record s { rules = s.rules ++ r ∷ [] }) (rw c.in_ok-made.was at same) same_rule)
    c.arg.ensures

pub returns-clause-local : goal.returns-clause-local
returns-clause-local c = λ local.
    IfOk-weaker c.arg.result _ _
    (λ whole adds. adds.globals ∙ ap₂ ◌||◌ (rw c.in_ok-made.was at local) c.requires)
    c.arg.ensures
