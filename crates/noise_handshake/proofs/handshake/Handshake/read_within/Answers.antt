use Rattle.std.proofs.Common.{inr, ap, refl, sym, ◌∙◌}
use Rattle.noise_handshake.proofs.Common.{HandshakeValue, ended_as}
use Rattle.noise_handshake.proofs.NotDue.{not-read}
use Rattle.noise_handshake.proofs.Standing.{listens}
use Rattle.noise_handshake.proofs.handshake.Handshake.read_within.Goals as goal

pub returns-in-Some : goal.returns-in-Some
returns-in-Some g c =
    record { reads = (not-read g.K.Keys.pairs c.args.self.now c.read_fault.ensures.within c.args.message.now c.in-Some.fault (sym c.read_fault.ensures.value ∙ c.in-Some.is), refl) }

pub returns-in-Some-lacks_psk : goal.returns-in-Some-lacks_psk
returns-in-Some-lacks_psk g c =
    let none = sym c.read_fault.ensures.value ∙ c.in_default.is in
    let listens-now = listens g.K.Keys.pairs c.args.self.now c.read_fault.ensures.within none in
    let left = ap (λ (z : HandshakeValue g.row.K.Denot). ended_as z) c.self.view_is in
    record { reads = ((inr (listens-now, c.in-Some-lacks_psk.ensures.lacks, refl), left), refl) }
