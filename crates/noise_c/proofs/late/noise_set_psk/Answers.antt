use Rattle.std.proofs.Common.{◌∷◌, [], length, ap, arith, length-append}
use Rattle.noise_c.proofs.Common.{HandshakeValue, Table}
use Rattle.noise_c.proofs.Moved.{matches-later, usable-given}
use Rattle.noise_c.proofs.late.noise_set_psk.Goals as goal

pub store_psk-requires : goal.store_psk-requires
store_psk-requires c =
    let put = c.put_psk.ensures.put c.if-not-put_psk.false in
    record {
      room = omega (
        arith,
        c.put_psk.ensures.few,
        ap (λ (z : HandshakeValue Table). length z.psks) put,
        length-append c.in-Some.value.psks (c.args.psk.now ∷ []),
        c.in-Some.ensures.count,
      );
    }

pub returns-clause-matches : goal.returns-clause-matches
returns-clause-matches c e p v later e2 k = matches-later c.args.handshake.now c.store_psk.new.handshake c.args.psk.now p v later c.store_psk.ensures.stores.given e2 k

pub returns-clause-stays : goal.returns-clause-stays
returns-clause-stays c u =
    usable-given c.args.handshake.now c.store_psk.new.handshake c.args.psk.now c.in-Some.value u c.store_psk.ensures.stores.mark c.store_psk.ensures.stores.text_len
    c.store_psk.ensures.stores.answers c.store_psk.ensures.stores.few c.store_psk.ensures.stores.given c.in-Some.ensures.value
    c.in-Some.ensures.named c.in-Some.ensures.one (c.put_psk.ensures.lacks.0 c.if-not-put_psk.false)
