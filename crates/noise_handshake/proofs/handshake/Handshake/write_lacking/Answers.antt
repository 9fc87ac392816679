use Rattle.std.proofs.Common.{rules}
use Rattle.noise_handshake.proofs.Common.{Party, party_of}
use Rattle.noise_handshake.proofs.Lacked.{wants}
use Rattle.noise_handshake.proofs.Next.{speaks-next, speaks-ours, psks-next, own-ours, known-ours, due-next}
use Rattle.noise_handshake.proofs.handshake.Handshake.write_lacking.Goals as goal

pub write_lacking-requires-clause-psks : goal.write_lacking-requires-clause-psks
write_lacking-requires-clause-psks g c =
    psks-next g.K.Keys.pairs c.self.inside c.self.invariant (speaks-next g.K.Keys.pairs c.self.inside c.self.invariant c.args.self.now c.self.view_is c.requires.due)
    c.deref-2.result.now c.deref-2.ensures.0 c.args.self.now c.self.view_is c.requires.psks c.deref.result.now c.deref.ensures.0

pub write_lacking-requires-clause-own : goal.write_lacking-requires-clause-own
write_lacking-requires-clause-own g c = search (rules, speaks-next, own-ours, speaks-ours)

pub write_lacking-requires-clause-known : goal.write_lacking-requires-clause-known
write_lacking-requires-clause-known g c = search (rules, speaks-next, known-ours, speaks-ours)

pub returns : goal.returns
returns g c = record {
  wants =
      let P = g.K.Keys.pairs in
      let v : Party = party_of P c.args.self.now in
      let a = c.self.inside in
      let less = speaks-next g.K.Keys.pairs c.self.inside c.self.invariant c.args.self.now c.self.view_is c.requires.due in
      let l = due-next g.K.Keys.pairs c.self.inside c.self.invariant less c.deref-2.result.now c.deref-2.ensures.0 c.args.self.now c.self.view_is
      c.deref.result.now c.deref.ensures.0 c.requires.due in
      wants v c.write_lacking.result a.means.role a.means.has_psks (P a.means.keys).public (P a.means.keys).agree _ a.remote _ l c.write_lacking.ensures.wants;
}
