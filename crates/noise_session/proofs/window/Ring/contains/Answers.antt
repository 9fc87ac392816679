use Rattle.std.proofs.Common.{eqb, ap, sym}
use Rattle.std.proofs.lemmas.Nat.Bits.{shr_and_one}
use Rattle.std.specs.Prelude.{Bool, ◌&&◌}
use Rattle.noise_session.proofs.Common.{bit_of, le-leb}
use Rattle.noise_session.proofs.window.Ring.contains.Goals as goal

pub returns-then-nonce-self : goal.returns-then-nonce-self
returns-then-nonce-self c =
    let r = c.args.self.now in
    let n = c.args.nonce in
    rw (c.place.ensures.value, shr_and_one) (sym (ap (λ (b : Bool). b && eqb (bit_of r n) 1) (le-leb n r.greatest c.if-nonce-self.true)))
