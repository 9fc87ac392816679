use Rattle.std.proofs.Common.{rules, refl, subst, take, drop, ◌-◌, length}
use Rattle.noise_handshake.specs.inner.Listening.{ReaderWants}
use Rattle.noise_handshake.proofs.Common.{Party, party_of, reader_of, SymmetricState, tokens_of}
use Rattle.noise_handshake.proofs.Next.{reads-next, places-next, psks-next, nonces-next, known-next, trial-next, listening-next}
use Rattle.noise_handshake.proofs.Wanted.{wants}
use Rattle.noise_handshake.proofs.handshake.Handshake.read_lacking.Goals as goal

pub read_lacking-requires-clause-placed : goal.read_lacking-requires-clause-placed
read_lacking-requires-clause-placed g c = search (rules, reads-next, places-next)

pub read_lacking-requires-clause-psks : goal.read_lacking-requires-clause-psks
read_lacking-requires-clause-psks g c =
    psks-next g.K.Keys.pairs c.self.inside c.self.invariant (reads-next g.K.Keys.pairs c.self.inside c.self.invariant c.args.self.now c.self.view_is c.requires.due)
    c.deref-2.result.now c.deref-2.ensures.0 c.args.self.now c.self.view_is c.requires.psks c.deref.result.now c.deref.ensures.0

pub read_lacking-requires-clause-nonces : goal.read_lacking-requires-clause-nonces
read_lacking-requires-clause-nonces g c = search (rules, reads-next, nonces-next)

pub read_lacking-requires-clause-known : goal.read_lacking-requires-clause-known
read_lacking-requires-clause-known g c = search (rules, reads-next, known-next)

pub returns : goal.returns
returns g c = record {
  wants =
      let P = g.K.Keys.pairs in
      let v : Party = party_of P c.args.self.now in
      let a = c.self.inside in
      let less = reads-next g.K.Keys.pairs c.self.inside c.self.invariant c.args.self.now c.self.view_is c.requires.due in
      let l = listening-next g.K.Keys.pairs c.self.inside c.self.invariant less c.deref-2.result.now c.deref-2.ensures.0 c.args.self.now c.self.view_is
      c.deref.result.now c.deref.ensures.0 c.requires.due in
      let trial = trial-next g.K.Keys.pairs c.self.inside c.self.invariant less c.deref-2.result.now c.deref-2.ensures.0 c.args.self.now c.self.view_is a.state refl in
      wants v c.args.message.now c.read_lacking.result a.means.role a.means.has_psks (P a.means.keys).agree _ a.remote _ l (subst (λ (z : SymmetricState). ReaderWants (reader_of P a.means) a.remote (take (length c.deref.result.now - c.self.inside.used) (drop c.self.inside.used c.deref.result.now)) z (tokens_of c.deref-2.result.now) c.args.message.now
      c.read_lacking.result) trial c.read_lacking.ensures.wants);
}
