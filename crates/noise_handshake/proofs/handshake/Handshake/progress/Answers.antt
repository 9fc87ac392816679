use Rattle.std.proofs.Common.{subst}
use Rattle.noise_handshake.proofs.Common.{HandshakeValue, IsLateWhole, held_in}
use Rattle.noise_handshake.proofs.LateParties.{whole-of}
use Rattle.noise_handshake.proofs.handshake.Handshake.progress.Goals as goal

pub returns-clause-whole : goal.returns-clause-whole
returns-clause-whole g c =
    subst (λ (z : HandshakeValue g.row.K.Denot). IsLateWhole g.K.Keys.pairs z) c.self.view_is
    (whole-of g.K.Keys.pairs (held_in c.self.inside) c.self.invariant.2 c.self.invariant.3)
