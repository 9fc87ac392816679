use Rattle.std.proofs.Common.{rules, ◌≡◌, ◌<◌, ◌∙◌, ℕ, List, length, slice_range, refl, ap, subst, arith, take, drop, ◌-◌}
use Rattle.std.specs.Prelude.{Bool}
use Rattle.noise_handshake.proofs.Common.{SymmetricState, PlacedToken, HandshakeValue, Party, party_of, after_payload, remote_after, tokens_of, after_tokens, ciphertext, Ok, reader_of, StopsKnowing}
use Rattle.noise_handshake.specs.inner.Reading.{ReadsMessage}
use Rattle.noise_handshake.proofs.Followed.{gone-same, leaves-read}
use Rattle.noise_handshake.proofs.Layouts.{length-tokens_of}
use Rattle.noise_handshake.proofs.Next.{reads-next, reads-theirs, places-next, psks-next, nonces-next, known-next, tokens-next, trial-next, listening-next}
use Rattle.noise_handshake.proofs.Standing.{accepted, for-view, refused}
use Rattle.noise_handshake.proofs.Wanted.{wants}
use Rattle.noise_handshake.proofs.Widths.{fit-carry}
use Rattle.noise_handshake.proofs.handshake.Handshake.attempt.Goals as goal

pub read_message-requires-clause-placed : goal.read_message-requires-clause-placed
read_message-requires-clause-placed g c = search (rules, reads-next, places-next)

pub read_message-requires-clause-psks : goal.read_message-requires-clause-psks
read_message-requires-clause-psks g c =
    psks-next g.K.Keys.pairs c.self.inside c.self.invariant (reads-next g.K.Keys.pairs c.self.inside c.self.invariant c.args.self.now c.self.view_is c.requires.due)
    c.deref-2.result.now c.deref-2.ensures.0 c.args.self.now c.self.view_is c.requires.psks c.deref.result.now c.deref.ensures.0

pub read_message-requires-clause-nonces : goal.read_message-requires-clause-nonces
read_message-requires-clause-nonces g c = search (rules, reads-next, nonces-next)

pub overflow_cast-result : goal.overflow_cast-result
overflow_cast-result g c = omega (arith, length-tokens_of c.deref-2.result.now, c.deref-2.ensures.1, c.in-Err.ensures.stop)

pub go_on-requires-clause-more : goal.go_on-requires-clause-more
go_on-requires-clause-more g c =
    let less = reads-next g.K.Keys.pairs c.self.inside c.self.invariant c.args.self.now c.self.view_is c.requires.due in
    subst (λ (z : HandshakeValue g.row.K.Denot). z.passed < length z.pattern.messages) c.self.view_is less

pub go_on-requires-clause-leaves : goal.go_on-requires-clause-leaves
go_on-requires-clause-leaves g c =
    let P = g.K.Keys.pairs in
    let a = c.self.inside in
    let less = reads-next g.K.Keys.pairs c.self.inside c.self.invariant c.args.self.now c.self.view_is c.requires.due in
    let ds : List PlacedToken = c.deref-2.result.now in
    let b : Bool = a.means.has_psks in
    let payload : List ℕ = slice_range c.read_message.new.message c.in-Ok.place.0 c.in-Ok.place.1 in
    let q = c.in-Ok.ensures.read in
    leaves-read P a c.self.invariant less c.args.self.now c.self.view_is (tokens_of ds) (tokens-next P a c.self.invariant less ds c.deref-2.ensures.0)
    (omega (arith, length-tokens_of ds, c.deref-2.ensures.1)) q.0 (fit-carry (reader_of P a.means) a.remote _ (tokens_of ds) q.0 q.1.fit)
    (ciphertext (after_tokens b a.state (tokens_of ds) q.0) payload) c.read_message.new.state
    (q.2 ∙ ap (λ (z : SymmetricState). after_payload b z (tokens_of ds) q.0 payload) c.for_trial-state.ensures)
    (reads-theirs P a c.self.invariant c.args.self.now c.self.view_is c.requires.due) c.read_message.new.known q.3

pub returns-in-Ok : goal.returns-in-Ok
returns-in-Ok g c =
    let P = g.K.Keys.pairs in
    let v : Party = party_of P c.args.self.now in
    let a = c.self.inside in
    let less = reads-next g.K.Keys.pairs c.self.inside c.self.invariant c.args.self.now c.self.view_is c.requires.due in
    let l = listening-next g.K.Keys.pairs c.self.inside c.self.invariant less c.deref-2.result.now c.deref-2.ensures.0 c.args.self.now c.self.view_is
    c.deref.result.now c.deref.ensures.0 c.requires.due in
    let q = subst (λ (z : SymmetricState). ReadsMessage (reader_of P a.means) z c.read_message.new.state a.remote c.read_message.new.known
    (take (length c.deref.result.now - c.self.inside.used) (drop c.self.inside.used c.deref.result.now)) (tokens_of c.deref-2.result.now) c.args.message.now c.read_message.new.message (Ok c.in-Ok.place))
    (trial-next g.K.Keys.pairs c.self.inside c.self.invariant less c.deref-2.result.now c.deref-2.ensures.0 c.args.self.now c.self.view_is c.for_trial-state.result c.for_trial-state.ensures) c.in-Ok.ensures.read in
    let h = c.args.self.now in
    let payload : List ℕ = slice_range c.read_message.new.message c.in-Ok.place.0 c.in-Ok.place.1 in
    let left = for-view v a.means.role a.means.has_psks (P a.means.keys).agree _ a.remote _ l
    (λ w z s us. (c.read_message.new.state ≡ after_payload w.has_psks v.state us q.0 payload) × (c.read_message.new.known ≡ remote_after z us q.0))
    (q.2, q.3) in
    record {
      reads = (
        (c.in-Ok.ensures.range, c.in-Ok.ensures.beyond),
        (
          c.requires.psks,
          (
            q.0,
            accepted v a.means.role a.means.has_psks (P a.means.keys).agree _ a.remote _ l c.args.message.now q.0 _ c.requires.fits q.1,
            c.go_on.ensures.value ∙ gone-same h c.read_message.new.state c.read_message.new.known _ _ left.0 left.1,
          ),
        ),
      );
    }

pub returns-in-Err : goal.returns-in-Err
returns-in-Err g c =
    let P = g.K.Keys.pairs in
    let v : Party = party_of P c.args.self.now in
    let a = c.self.inside in
    let less = reads-next g.K.Keys.pairs c.self.inside c.self.invariant c.args.self.now c.self.view_is c.requires.due in
    let l = listening-next g.K.Keys.pairs c.self.inside c.self.invariant less c.deref-2.result.now c.deref-2.ensures.0 c.args.self.now c.self.view_is
    c.deref.result.now c.deref.ensures.0 c.requires.due in
    let q = subst (λ (z : SymmetricState). StopsKnowing (reader_of P a.means) a.remote (take (length c.deref.result.now - c.self.inside.used) (drop c.self.inside.used c.deref.result.now)) z (tokens_of c.deref-2.result.now)
    c.args.message.now c.in-Err.token c.in-Err.cause c.read_message.new.known)
    (trial-next g.K.Keys.pairs c.self.inside c.self.invariant less c.deref-2.result.now c.deref-2.ensures.0 c.args.self.now c.self.view_is c.for_trial-state.result c.for_trial-state.ensures) c.in-Err.ensures.read in
    record {
      reads = (
        refused v a.means.role a.means.has_psks (P a.means.keys).agree _ a.remote _ l c.args.message.now _ _ q.0,
        wants v c.args.message.now c.lacked.result a.means.role a.means.has_psks (P a.means.keys).agree _ a.remote _ l
            (c.lacked.ensures (record { role = a.means.role; has_psks = a.means.has_psks; agree = (P a.means.keys).agree }) a.remote _ v.state c.args.message.now refl
            (known-next g.K.Keys.pairs c.self.inside c.self.invariant less c.deref-2.result.now c.deref-2.ensures.0) q),
        refl,
        c.in-Err.ensures.unchanged,
      );
    }
