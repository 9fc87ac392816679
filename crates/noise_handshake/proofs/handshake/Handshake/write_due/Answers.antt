use Rattle.std.proofs.Common.{rules, inl, ℕ, ◌+◌, ◌<◌, ◌≤◌, List, length, take, ap, sym, subst, ◌∙◌, arith, length-take, drop, ◌-◌, ◌≡◌}
use Rattle.std.specs.Prelude.{Bool}
use Rattle.noise_handshake.proofs.Common.{Some, Token, SymmetricState, after_tokens, ciphertext, PlacedToken, tokens_of, after_payload, HandshakeValue, Party, party_of, ended_as, Ok, writer_of}
use Rattle.noise_handshake.specs.inner.Writing.{WritesMessage}
use Rattle.noise_handshake.proofs.Followed.{gone-same, leaves-wrote}
use Rattle.noise_handshake.proofs.Layouts.{length-tokens_of}
use Rattle.noise_handshake.proofs.Next.{writes-next, writes-ours, writes-long, writes-wide, writes-room, writes-most, psks-next, nonces-next, own-ours, tokens-next, trial-next, speaking-next}
use Rattle.noise_handshake.proofs.Widths.{given-carry}
use Rattle.noise_handshake.proofs.Wrote.{for-view, written, lacking}
use Rattle.noise_handshake.proofs.handshake.Handshake.write_due.Goals as goal

pub write_message-requires-clause-psks : goal.write_message-requires-clause-psks
write_message-requires-clause-psks g c =
    let less = writes-next g.K.Keys.pairs c.self.inside c.self.invariant c.args.self.now c.self.view_is
    (length c.args.payload.now) c.requires.due in
    psks-next g.K.Keys.pairs c.self.inside c.self.invariant less c.deref-2.result.now c.deref-2.ensures.0 c.args.self.now c.self.view_is c.requires.psks c.deref.result.now c.deref.ensures.0

pub write_message-requires-clause-nonces : goal.write_message-requires-clause-nonces
write_message-requires-clause-nonces g c =
    let less = writes-next g.K.Keys.pairs c.self.inside c.self.invariant c.args.self.now c.self.view_is
    (length c.args.payload.now) c.requires.due in
    nonces-next g.K.Keys.pairs c.self.inside c.self.invariant less c.deref-2.result.now c.deref-2.ensures.0 c.for_trial-state.result c.for_trial-state.ensures
    (omega (arith, c.deref-2.ensures.1))

pub write_message-requires-clause-own : goal.write_message-requires-clause-own
write_message-requires-clause-own g c = search (rules, writes-next, own-ours, writes-ours)

pub write_message-requires-clause-room : goal.write_message-requires-clause-room
write_message-requires-clause-room g c =
    writes-room g.K.Keys.pairs c.self.inside c.self.invariant c.args.self.now c.self.view_is
    (length c.args.payload.now) c.requires.due c.deref-2.result.now c.deref-2.ensures.0 c.for_trial-state.result c.for_trial-state.ensures
    (length c.args.out.now) c.requires.room

pub write_message-requires-clause-most : goal.write_message-requires-clause-most
write_message-requires-clause-most g c =
    writes-most g.K.Keys.pairs c.self.inside c.self.invariant c.args.self.now c.self.view_is
    (length c.args.payload.now) c.requires.due c.deref-2.result.now c.deref-2.ensures.0 c.for_trial-state.result c.for_trial-state.ensures

pub overflow_cast-result : goal.overflow_cast-result
overflow_cast-result g c = omega (arith, length-tokens_of c.deref-2.result.now, c.deref-2.ensures.1, c.in-Err.ensures.width)

pub go_on-requires-clause-more : goal.go_on-requires-clause-more
go_on-requires-clause-more g c =
    let P = g.K.Keys.pairs in
    let a = c.self.inside in
    let less = writes-next P a c.self.invariant c.args.self.now c.self.view_is (length c.args.payload.now) c.requires.due in
    subst (λ (z : HandshakeValue g.row.K.Denot). z.passed < length z.pattern.messages) c.self.view_is less

pub go_on-requires-clause-leaves : goal.go_on-requires-clause-leaves
go_on-requires-clause-leaves g c =
    let P = g.K.Keys.pairs in
    let a = c.self.inside in
    let less = writes-next P a c.self.invariant c.args.self.now c.self.view_is (length c.args.payload.now) c.requires.due in
    let ds : List PlacedToken = c.deref-2.result.now in
    let us : List Token = tokens_of ds in
    let b : Bool = a.means.has_psks in
    let q = c.in-Ok.ensures.written in
    leaves-wrote P a c.self.invariant less c.args.self.now c.self.view_is us (tokens-next P a c.self.invariant less ds c.deref-2.ensures.0)
    (omega (arith, length-tokens_of ds, c.deref-2.ensures.1)) q.0 (given-carry (writer_of P a.means) a.remote _ us q.0 q.1)
    (ciphertext (after_tokens b a.state us q.0) c.args.payload.now) c.write_message.new.state
    (q.3 ∙ ap (λ (z : SymmetricState). after_payload b z us q.0 c.args.payload.now) c.for_trial-state.ensures)
    (writes-ours P a c.self.invariant c.args.self.now c.self.view_is (length c.args.payload.now) c.requires.due)

pub returns-in-Ok : goal.returns-in-Ok
returns-in-Ok g c =
    let P = g.K.Keys.pairs in
    let v : Party = party_of P c.args.self.now in
    let a = c.self.inside in
    let less = writes-next g.K.Keys.pairs c.self.inside c.self.invariant c.args.self.now c.self.view_is
    (length c.args.payload.now) c.requires.due in
    let l = speaking-next g.K.Keys.pairs c.self.inside c.self.invariant less c.deref-2.result.now c.deref-2.ensures.0 c.args.self.now c.self.view_is
    c.deref.result.now c.deref.ensures.0 (length c.args.payload.now) c.requires.due in
    let trial = trial-next g.K.Keys.pairs c.self.inside c.self.invariant less c.deref-2.result.now c.deref-2.ensures.0 c.args.self.now c.self.view_is c.for_trial-state.result c.for_trial-state.ensures in
    let most = writes-most g.K.Keys.pairs c.self.inside c.self.invariant c.args.self.now c.self.view_is
    (length c.args.payload.now) c.requires.due c.deref-2.result.now c.deref-2.ensures.0 c.for_trial-state.result c.for_trial-state.ensures in
    let fits : length (take c.in-Ok.len c.write_message.new.out) ≤ 65535 =
    omega (arith, c.in-Ok.ensures.width, most, length-take c.in-Ok.len c.write_message.new.out) in
    let q = subst (λ (z : SymmetricState). WritesMessage (writer_of P a.means) z c.write_message.new.state a.remote (take (length c.deref.result.now - c.self.inside.used) (drop c.self.inside.used c.deref.result.now))
    (tokens_of c.deref-2.result.now) c.args.payload.now c.write_message.new.out (Ok c.in-Ok.len)) trial c.in-Ok.ensures.written in
    let left = for-view v a.means.role a.means.has_psks (P a.means.keys).public (P a.means.keys).agree _ a.remote _ l
    (λ w z s us. c.write_message.new.state ≡ after_payload w.has_psks v.state us q.0 c.args.payload.now) q.3 in
    let long = writes-long P a c.self.invariant c.args.self.now c.self.view_is (length c.args.payload.now) c.requires.due in
    let wide = c.in-Ok.ensures.width ∙ ap (λ (k : ℕ). k + length c.args.payload.now)
    (writes-wide P a c.self.invariant c.args.self.now c.self.view_is (length c.args.payload.now) c.requires.due
    c.deref-2.result.now c.deref-2.ensures.0 c.for_trial-state.result c.for_trial-state.ensures) in
    record {
      writes = (
        (long ∙ ap Some (sym wide), omega (arith, c.requires.room _ long, wide), c.in-Ok.ensures.beyond),
        (
          c.requires.psks,
          (
            q.0,
            written v a.means.role a.means.has_psks (P a.means.keys).public (P a.means.keys).agree _ a.remote _ l c.args.payload.now q.0 (take c.in-Ok.len c.write_message.new.out) fits q.1 q.2,
            c.go_on.ensures.value ∙ gone-same c.args.self.now c.write_message.new.state a.remote _ v.remote left l.known_is,
          ),
        ),
      );
    }

pub returns-in-Err : goal.returns-in-Err
returns-in-Err g c =
    let P = g.K.Keys.pairs in
    let v : Party = party_of P c.args.self.now in
    let a = c.self.inside in
    let less = writes-next g.K.Keys.pairs c.self.inside c.self.invariant c.args.self.now c.self.view_is
    (length c.args.payload.now) c.requires.due in
    let l = speaking-next g.K.Keys.pairs c.self.inside c.self.invariant less c.deref-2.result.now c.deref-2.ensures.0 c.args.self.now c.self.view_is
    c.deref.result.now c.deref.ensures.0 (length c.args.payload.now) c.requires.due in
    let trial = trial-next g.K.Keys.pairs c.self.inside c.self.invariant less c.deref-2.result.now c.deref-2.ensures.0 c.args.self.now c.self.view_is c.for_trial-state.result c.for_trial-state.ensures in
    record {
      writes = (
        (c.requires.due, inl (c.requires.psks, lacking v a.means.role a.means.has_psks (P a.means.keys).public (P a.means.keys).agree _ a.remote _ l _ c.in-Err.ensures.written)),
        ap (λ (z : HandshakeValue g.row.K.Denot). ended_as z) c.self.view_is,
        λ other. absurd (other tt),
      );
    }
