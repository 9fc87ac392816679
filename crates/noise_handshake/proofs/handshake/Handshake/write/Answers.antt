use Rattle.std.proofs.Common.{length, refl, sym, ◌∙◌}
use Rattle.noise_handshake.proofs.NotDue.{not-written}
use Rattle.noise_handshake.proofs.handshake.Handshake.write.Goals as goal

pub returns-in-Some : goal.returns-in-Some
returns-in-Some g c =
    let w = not-written g.K.Keys.pairs c.args.self.now c.write_fault.ensures.within (length c.args.payload.now) c.in-Some.fault (sym c.write_fault.ensures.value ∙ c.in-Some.is) in
    record { writes = (w.0, w.1, λ _. refl) }
