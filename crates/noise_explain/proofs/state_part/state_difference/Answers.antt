use Rattle.std.proofs.Common.{subst, IfNone}
use Rattle.noise_names.specs.declared.token.Role.TheVariants.{Initiator}
use Rattle.noise_explain.specs.StateParts.{HasNoState}
use Rattle.noise_explain.proofs.FrameLemmas.{no-states}
use Rattle.noise_explain.proofs.state_part.state_difference.Goals as goal

pub returns-in-None-clause-none : goal.returns-in-None-clause-none
returns-in-None-clause-none c =
    no-states c.args.expected.now c.args.printed.now c.role_difference-in-None.result
    (subst (λ found. IfNone found (HasNoState Initiator c.args.expected.now c.args.printed.now)) c.in-None.is c.in_ok-line.ensures.none)
    c.role_difference-in-None.ensures.none
