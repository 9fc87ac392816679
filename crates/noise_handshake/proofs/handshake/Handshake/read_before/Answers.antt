use Rattle.std.proofs.Common.{rules, ℕ, ◌<◌, ◌≤◌, length, refl, ap, sym, subst, arith, take, drop, ◌-◌}
use Rattle.noise_handshake.proofs.Common.{Party, party_of, MatchOption, MatchResult, Agreement, HandshakeValue, Stops, tokens_at, StopsFor, BeginsBefore, reader_of, SymmetricState, tokens_of}
use Rattle.noise_handshake.specs.inner.Reading.{ReadsBefore}
use Rattle.noise_handshake.proofs.Before.{before-of}
use Rattle.noise_handshake.proofs.Layouts.{length-tokens_of}
use Rattle.noise_handshake.proofs.Next.{reads-next, tokens-next, places-next, psks-before, nonces-next, known-next, trial-next, listening-next}
use Rattle.noise_handshake.proofs.Standing.{for-view}
use Rattle.noise_handshake.proofs.handshake.Handshake.read_before.Goals as goal

pub read_before-requires-clause-placed : goal.read_before-requires-clause-placed
read_before-requires-clause-placed g c = search (rules, reads-next, places-next)

pub read_before-requires-clause-psks : goal.read_before-requires-clause-psks
read_before-requires-clause-psks g c =
    psks-before g.K.Keys.pairs c.self.inside c.self.invariant (reads-next g.K.Keys.pairs c.self.inside c.self.invariant c.args.self.now c.self.view_is c.requires.due)
    c.deref-2.result.now c.deref-2.ensures.0 c.args.self.now c.self.view_is c.args.k c.requires.psks c.deref.result.now c.deref.ensures.0

pub read_before-requires-clause-nonces : goal.read_before-requires-clause-nonces
read_before-requires-clause-nonces g c = search (rules, reads-next, nonces-next)

pub read_before-requires-clause-known : goal.read_before-requires-clause-known
read_before-requires-clause-known g c = search (rules, reads-next, known-next)

pub read_before-requires-clause-within : goal.read_before-requires-clause-within
read_before-requires-clause-within g c =
    let less = reads-next g.K.Keys.pairs c.self.inside c.self.invariant c.args.self.now c.self.view_is c.requires.due in
    let all : c.args.k ≤ length (tokens_at c.self.inside.pattern.messages c.self.inside.passed) =
    subst (λ (z : HandshakeValue g.row.K.Denot). c.args.k ≤ length (tokens_at z.pattern.messages z.passed)) (sym c.self.view_is) c.requires.within in
    omega (arith, all, ap length (tokens-next g.K.Keys.pairs c.self.inside c.self.invariant less c.deref-2.result.now c.deref-2.ensures.0), length-tokens_of c.deref-2.result.now)

pub returns : goal.returns
returns g c = record {
  reads =
      let P = g.K.Keys.pairs in
      let v : Party = party_of P c.args.self.now in
      let a = c.self.inside in
      let less = reads-next g.K.Keys.pairs c.self.inside c.self.invariant c.args.self.now c.self.view_is c.requires.due in
      let l = listening-next g.K.Keys.pairs c.self.inside c.self.invariant less c.deref-2.result.now c.deref-2.ensures.0 c.args.self.now c.self.view_is
      c.deref.result.now c.deref.ensures.0 c.requires.due in
      let trial = trial-next g.K.Keys.pairs c.self.inside c.self.invariant less c.deref-2.result.now c.deref-2.ensures.0 c.args.self.now c.self.view_is a.state refl in
      let q = for-view v a.means.role a.means.has_psks (P a.means.keys).agree _ a.remote _ l
      (λ w z s us. MatchResult c.read_before.result (λ remote. BeginsBefore w z s v.state us c.args.message.now c.args.k remote)
      (λ stop. (stop.token < c.args.k) × Stops w z s v.state us c.args.message.now stop.token stop.cause × MatchOption stop.want
      ((j : ℕ) → Stops w z s v.state us c.args.message.now j Agreement → ⊥)
      (λ want. StopsFor w z s v.state us c.args.message.now want.0 want.1)))
      (subst (λ (z : SymmetricState). ReadsBefore (reader_of P a.means) z a.remote (take (length c.deref.result.now - c.self.inside.used) (drop c.self.inside.used c.deref.result.now)) (tokens_of c.deref-2.result.now) c.args.k
      c.args.message.now c.read_before.result) trial c.read_before.ensures.read) in
      before-of v c.args.message.now c.args.k c.read_before.result l.listens q;
}
