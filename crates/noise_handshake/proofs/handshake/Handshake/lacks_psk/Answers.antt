use Rattle.std.proofs.Common.{rules, ◌≡◌, ◌<◌, length, ap, sym, subst, arith}
use Rattle.noise_handshake.proofs.Common.{HandshakeValue, HasPsks, Some}
use Rattle.noise_handshake.proofs.Layouts.{length-tokens_of}
use Rattle.noise_handshake.proofs.Next.{has-next, lacks-next}
use Rattle.noise_handshake.proofs.PskPlaces.{no-place, one-place}
use Rattle.noise_handshake.proofs.handshake.Handshake.lacks_psk.Goals as goal

pub overflow_cast-result : goal.overflow_cast-result
overflow_cast-result g c = omega (arith, c.in-Some.ensures.place.within, length-tokens_of c.deref.result.now, c.deref.ensures.1)

pub returns-in-Some : goal.returns-in-Some
returns-in-Some g c =
    let less : c.self.inside.passed < length c.self.inside.pattern.messages =
    subst (λ (z : HandshakeValue g.row.K.Denot). z.passed < length z.pattern.messages) (sym c.self.view_is) c.requires.due in
    let len : c.len.result ≡ length c.self.inside.psks.items = search rules in
    let at = lacks-next g.K.Keys.pairs c.self.inside c.self.invariant less c.deref.result.now c.deref.ensures.0 c.args.self.now c.self.view_is
    c.len.result c.in-Some.k len c.in-Some.ensures.place in
    record {
      lacks = at;
      first = λ k other. ap Some (one-place _ _ c.in-Some.k k at other);
    }

pub returns-in-None : goal.returns-in-None
returns-in-None g c =
    let has : HasPsks c.args.self.now = search (rules, has-next) in
    record { lacks = has; first = λ k at. absurd (no-place _ _ k has at) }
