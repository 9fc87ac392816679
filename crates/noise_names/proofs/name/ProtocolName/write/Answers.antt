use Rattle.std.proofs.Common.{subst}
use Rattle.noise_names.proofs.Common.{Section, IsSection}
use Rattle.noise_names.proofs.TextLengths.{few-name}
use Rattle.noise_names.proofs.name.ProtocolName.write.Goals as goal

pub returns-clause-bound : goal.returns-clause-bound
returns-clause-bound c = few-name c.args.self.now (subst (λ (s : Section). IsSection s) c.self.view_is c.self.invariant)
