use Rattle.std.proofs.Common.{◌≡◌, refl, ap, sym, subst, ◌∙◌}
use Rattle.noise_handshake.proofs.Common.{HandshakeValue, ReadFault, after_read_fault, ended_as, party_of}
use Rattle.noise_handshake.specs.Calls.{IsUnread}
use Rattle.noise_handshake.specs.declared.faults.Unread.TheVariants as unread
use Rattle.noise_handshake.proofs.LateParties.{lacks-no-dh-result, read-accepts, read-dh-result, read-none, read-refuses, wants-some}
use Rattle.noise_handshake.proofs.NotDue.{still-unread}
use Rattle.noise_handshake.proofs.handshake.Handshake.read_or_ask.Goals as goal

pub returns-in-Some-clause-reads : goal.returns-in-Some-clause-reads
returns-in-Some-clause-reads g c later =
    let x = still-unread g.K.Keys.pairs c.args.self.now c.read_fault.ensures.within later c.args.message.now c.in-Some.fault (sym c.read_fault.ensures.value ∙ c.in-Some.is) in
    (x.0, x.1, refl)

pub returns-in-Ok-clause-reads : goal.returns-in-Ok-clause-reads
returns-in-Ok-clause-reads g c later =
    let q = c.in-Ok.ensures.reads in
    let r = q.1.1 in
    let accepts = read-accepts g.K.Keys.pairs c.args.self.now later c.args.message.now c.in-None.ensures.lacks r.0 _ r.1 in
    (q.0, (q.1.0, (r.0, accepts, r.2)))

pub returns-in-Ok-clause-asked : goal.returns-in-Ok-clause-asked
returns-in-Ok-clause-asked g c later remote x =
    absurd (read-none g.K.Keys.pairs c.args.self.now later c.args.message.now c.in-None.ensures.lacks remote x)

pub returns-in-Some-want-clause-reads : goal.returns-in-Some-want-clause-reads
returns-in-Some-want-clause-reads g c later =
    let P = g.K.Keys.pairs in
    let h = c.args.self.now in
    let q = c.in-Err.ensures.reads in (
      read-dh-result P h later c.args.message.now c.in-None.ensures.lacks _ _
          (wants-some (party_of P h) c.args.message.now c.in-Err.stop.want q.1 c.in-Some-want.want c.in-Some-want.is),
      q.2,
      q.3,
    )

pub returns-in-None-want-clause-reads : goal.returns-in-None-want-clause-reads
returns-in-None-want-clause-reads g c later =
    let P = g.K.Keys.pairs in
    let h = c.args.self.now in
    let m = c.args.message.now in
    let q = c.in-Err.ensures.reads in
    let stop = c.in-Err.stop in
    let left = c.end.ensures.ended ∙ ap (λ (z : HandshakeValue g.row.K.Denot). ended_as z) q.2 in
    subst (λ (f : ReadFault). IsUnread P later h m (unread.Declined f) × (c.end.new.self ≡ after_read_fault h f) × (c.attempt.new.message ≡ m))
    (sym c.fault.ensures) (
      (
        read-refuses P h later m c.in-None.ensures.lacks stop.token stop.cause q.0,
        lacks-no-dh-result (party_of P h) m stop.token stop.cause stop.want q.1 q.0 c.in-None-want.is,
      ),
      left,
      q.3,
    )

pub returns-in-Ok-read_to_psk-clause-asked : goal.returns-in-Ok-read_to_psk-clause-asked
returns-in-Ok-read_to_psk-clause-asked g c later remote x = let e = c.in-Ok-read_to_psk.ensures.asked later remote x in cc

pub returns-in-Err-read_to_psk-clause-reads : goal.returns-in-Err-read_to_psk-clause-reads
returns-in-Err-read_to_psk-clause-reads g c later =
    let P = g.K.Keys.pairs in
    let h = c.args.self.now in
    let m = c.args.message.now in
    subst (λ (f : ReadFault). IsUnread P later h m (unread.Declined f) × (c.end-in-Err-read_to_psk.new.self ≡ after_read_fault h f) × (m ≡ m))
    (sym c.fault-in-Err-read_to_psk.ensures)
    (c.in-Err-read_to_psk.ensures.wants later, c.end-in-Err-read_to_psk.ensures.ended, refl)

pub returns-in-Err-read_to_psk-clause-asked : goal.returns-in-Err-read_to_psk-clause-asked
returns-in-Err-read_to_psk-clause-asked g c later remote x = let e = c.in-Err-read_to_psk.ensures.asked later remote x in absurd (cc)

pub returns-in-Ok-read_to_psk-clause-reads : goal.returns-in-Ok-read_to_psk-clause-reads
returns-in-Ok-read_to_psk-clause-reads g c later = (c.in-Ok-read_to_psk.ensures.wants later, refl, refl)
