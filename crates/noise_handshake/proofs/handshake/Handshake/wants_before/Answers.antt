use Rattle.std.proofs.Common.{rules, ℕ, ◌≤◌, length, take, ap, sym, subst, arith}
use Rattle.noise_handshake.proofs.Common.{Party, party_of, MatchOption, HandshakeValue, tokens_at, LacksDhResultFor, LacksDhResultAt}
use Rattle.noise_handshake.proofs.Layouts.{length-tokens_of}
use Rattle.noise_handshake.proofs.Next.{speaks-next, speaks-ours, tokens-next, psks-before, own-ours, known-ours, due-next}
use Rattle.noise_handshake.proofs.Wrote.{for-view}
use Rattle.noise_handshake.proofs.handshake.Handshake.wants_before.Goals as goal

pub write_lacking_before-requires-clause-psks : goal.write_lacking_before-requires-clause-psks
write_lacking_before-requires-clause-psks g c =
    psks-before g.K.Keys.pairs c.self.inside c.self.invariant (speaks-next g.K.Keys.pairs c.self.inside c.self.invariant c.args.self.now c.self.view_is c.requires.due)
    c.deref-2.result.now c.deref-2.ensures.0 c.args.self.now c.self.view_is c.args.k c.requires.psks c.deref.result.now c.deref.ensures.0

pub write_lacking_before-requires-clause-own : goal.write_lacking_before-requires-clause-own
write_lacking_before-requires-clause-own g c = search (rules, speaks-next, own-ours, speaks-ours)

pub write_lacking_before-requires-clause-known : goal.write_lacking_before-requires-clause-known
write_lacking_before-requires-clause-known g c = search (rules, speaks-next, known-ours, speaks-ours)

pub write_lacking_before-requires-clause-within : goal.write_lacking_before-requires-clause-within
write_lacking_before-requires-clause-within g c =
    let less = speaks-next g.K.Keys.pairs c.self.inside c.self.invariant c.args.self.now c.self.view_is c.requires.due in
    let all : c.args.k ≤ length (tokens_at c.self.inside.pattern.messages c.self.inside.passed) =
    subst (λ (z : HandshakeValue g.row.K.Denot). c.args.k ≤ length (tokens_at z.pattern.messages z.passed)) (sym c.self.view_is) c.requires.within in
    omega (arith, all, ap length (tokens-next g.K.Keys.pairs c.self.inside c.self.invariant less c.deref-2.result.now c.deref-2.ensures.0), length-tokens_of c.deref-2.result.now)

pub returns : goal.returns
returns g c = record {
  wants =
      let P = g.K.Keys.pairs in
      let v : Party = party_of P c.args.self.now in
      let a = c.self.inside in
      let less = speaks-next g.K.Keys.pairs c.self.inside c.self.invariant c.args.self.now c.self.view_is c.requires.due in
      let l = due-next g.K.Keys.pairs c.self.inside c.self.invariant less c.deref-2.result.now c.deref-2.ensures.0 c.args.self.now c.self.view_is
      c.deref.result.now c.deref.ensures.0 c.requires.due in (
        l.speaks,
        for-view v a.means.role a.means.has_psks (P a.means.keys).public (P a.means.keys).agree _ a.remote _ l
            (λ w z s us. MatchOption c.write_lacking_before.result ((j : ℕ) → LacksDhResultAt w z s (take c.args.k us) j → ⊥)
            (λ want. LacksDhResultFor w z s (take c.args.k us) want.0 want.1)) c.write_lacking_before.ensures.wants,
      );
}
