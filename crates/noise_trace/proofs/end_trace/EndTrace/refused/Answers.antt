use Rattle.std.proofs.Common.{List, None, ap}
use Rattle.noise_trace.proofs.Common.{Step, Message}
use Rattle.noise_trace.proofs.end_trace.EndTrace.refused.Goals as goal

pub returns : goal.returns
returns g c v cause f refused =
    ap (λ (steps : List Step). Message steps None) (c.refused.ensures v.party cause f.party refused)
