use Rattle.std.proofs.Common.{◌+◌, [], None, Some, ap, refl, sym, subst, ◌∙◌}
use Rattle.noise_session.proofs.Common.{slice_range, after_message, Phase, TransportValue, EndState, PhaseMatches, OpenMatches, EndedMatches, transport_in, ended_session, accepted}
use Rattle.noise_handshake.specs.HandshakeValue.{HandshakeValue}
use Rattle.noise_handshake.specs.Party.{Party}
use Rattle.noise_session.specs.Taking.Judges.{refused}
use Rattle.noise_session.proofs.Parties.{no-hash, as-handshake, as-open, phase-partial}
use Rattle.noise_session.proofs.Passing.{was-read, was-refused}
use Rattle.noise_session.proofs.Judging.{opened-as, dropped-as, exhausted-as, ended-open}
use Rattle.noise_session.specs.declared.faults.OpenFault.TheVariants as unopened
use Rattle.noise_session.specs.declared.phase.Phase.TheVariants as phase
use Rattle.noise_session.proofs.phase.Phase.read.Goals as goal

pub returns-in-Ok-clause-judges : goal.returns-in-Ok-clause-judges
returns-in-Ok-clause-judges g c v s =
    let P = g.K.Keys.pairs in
    let old = c.in-Handshaking.handshake in
    let h = as-handshake P _ _ _ v c.in-Handshaking.is s in
    let payload = slice_range c.read_within.new.message c.in-Ok.place.0 c.in-Ok.place.1 in
    let r = was-read P old c.read_within.new.self v.party h.party (c.psks_suffice.ensures.kept old) c.args.message.now payload
    c.in-Ok.ensures.reads.1 in
    let next : EndState = record v { party = after_message v.party r.0 payload; partial = [] } in
    (next, accepted v c.args.message.now payload r.0 r.1, c.settle.ensures.matches next (r.2, h.interval, h.sent, h.received), refl)

pub returns-in-Err-Refused-clause-judges : goal.returns-in-Err-Refused-clause-judges
returns-in-Err-Refused-clause-judges g c v s =
    let P = g.K.Keys.pairs in
    let old = c.in-Handshaking.handshake in
    let token = c.in-Err-Refused.token in
    let cause = c.in-Err-Refused.cause in
    let h = as-handshake P _ _ _ v c.in-Handshaking.is s in
    let w = rw c.in-Err-Refused.field-0-is at c.in-Err-Refused.ensures.reads in
    let refuses = was-refused P old c.read_within.new.self v.party h.party (c.psks_suffice.ensures.due old) (c.psks_suffice.ensures.none old)
    c.args.message.now token cause w.0.0 in
    let ended_party : EndedMatches c.read_within.new.self.role None (ended_session v) = record {
      ended = refl;
      role = ap (λ (z : HandshakeValue g.row.K.Denot). z.role) w.0.1 ∙ ap (λ (z : Party). z.role) h.party.is;
      hash = sym (no-hash v h.more);
    } in (
      ended_session v,
      refused v c.args.message.now token cause refuses,
      subst (λ (p : Phase g.row.K.Denot). PhaseMatches P p (ended_session v)) (sym c.end.ensures) ended_party,
      refl,
    )

pub returns-in-Ok-open_within-clause-judges : goal.returns-in-Ok-open_within-clause-judges
returns-in-Ok-open_within-clause-judges g c v s =
    let o = as-open g.K.Keys.pairs _ _ v c.in-Open.is s in
    let r = c.in-Ok-open_within.ensures.opens.half.opens (transport_in v) o.transport.receiver in
    let next : EndState = record v { received = v.received + 1; partial = [] } in (
      next,
      opened-as c.in-Open.transport v o c.args.message.now c.in-Ok-open_within.to c.open_within.new.message c.in-Ok-open_within.ensures.opens.half.fault
          r.0,
      record { going = o.going; all = o.all; transport = c.in-Ok-open_within.ensures.opens.matches (transport_in v) o.transport },
      refl,
    )

pub returns-in-Err-Short-clause-judges : goal.returns-in-Err-Short-clause-judges
returns-in-Err-Short-clause-judges g c v s =
    let o = as-open g.K.Keys.pairs _ _ v c.in-Open.is s in
    let fault = rw c.in-Err-Short.field-0-is at c.in-Err-Short.ensures.opens.half.fault in
    let next : EndState = record v { partial = [] } in (
      next,
      dropped-as c.in-Open.transport v o c.args.message.now unopened.Short tt fault (c.in-Err-Short.ensures.opens.half.opens (transport_in v) o.transport.receiver),
      phase-partial g.K.Keys.pairs (phase.Open c.open_within.new.self) v [] (subst (λ (t : TransportValue). OpenMatches t v) (sym c.in-Err-Short.ensures.opens.unchanged) o),
      refl,
    )

pub returns-in-Err-Tag-clause-judges : goal.returns-in-Err-Tag-clause-judges
returns-in-Err-Tag-clause-judges g c v s =
    let o = as-open g.K.Keys.pairs _ _ v c.in-Open.is s in
    let fault = rw c.in-Err-Tag.field-0-is at c.in-Err-Tag.ensures.opens.half.fault in
    let next : EndState = record v { partial = [] } in (
      next,
      dropped-as c.in-Open.transport v o c.args.message.now unopened.Tag tt fault (c.in-Err-Tag.ensures.opens.half.opens (transport_in v) o.transport.receiver),
      phase-partial g.K.Keys.pairs (phase.Open c.open_within.new.self) v [] (subst (λ (t : TransportValue). OpenMatches t v) (sym c.in-Err-Tag.ensures.opens.unchanged) o),
      refl,
    )

pub returns-in-Err-Exhausted-clause-judges : goal.returns-in-Err-Exhausted-clause-judges
returns-in-Err-Exhausted-clause-judges g c v s =
    let o = as-open g.K.Keys.pairs _ _ v c.in-Open.is s in
    let fault = rw c.in-Err-Exhausted.field-0-is at c.in-Err-Exhausted.ensures.opens.half.fault in
    let ended_party : EndedMatches c.open_within.new.self.role (Some c.open_within.new.self.hash) (ended_session v) =
    subst (λ (t : TransportValue). EndedMatches t.role (Some t.hash) (ended_session v)) (sym c.in-Err-Exhausted.ensures.opens.unchanged)
    (ended-open c.in-Open.transport v o c.args.message.now) in (
      ended_session v,
      exhausted-as c.in-Open.transport v o c.args.message.now fault,
      subst (λ (p : Phase g.row.K.Denot). PhaseMatches g.K.Keys.pairs p (ended_session v)) (sym c.end-in-Err-Exhausted.ensures) ended_party,
      refl,
    )
