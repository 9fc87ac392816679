use Rattle.std.proofs.Common.{sym, ◌∙◌}
use Rattle.noise_handshake.proofs.Places.{overhead-is}
use Rattle.noise_handshake.proofs.handshake.Handshake.overhead.Goals as goal

pub returns-clause-value : goal.returns-clause-value
returns-clause-value g c = c.next_layout.ensures.laid.overhead ∙ sym (overhead-is c.args.self.now.pattern c.args.self.now.passed c.requires.due)
