use Rattle.std.proofs.Common.{ℕ, List, subst}
use Rattle.std.specs.Prelude.{true}
use Rattle.noise_c.specs.RunSteps.{ReadsStep}
use Rattle.noise_c.proofs.two_runs.read_strange.Goals as goal

pub returns : goal.returns
returns c = (
  c.in_ok-step.step,
  subst (λ (z : List ℕ). ReadsStep c.args.responder c.args.ends true c.args.handshake.now c.read.new.handshake z c.in_ok-step.step) c.in_ok-message.ensures.items
      c.in_ok-step.ensures,
  c.in_ok-push.ensures.items,
)
