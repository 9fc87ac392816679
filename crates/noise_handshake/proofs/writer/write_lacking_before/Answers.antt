use Rattle.std.proofs.Common.{rules, ℕ, List, ap, subst, arith}
use Rattle.noise_handshake.proofs.Common.{writer_of, MatchOption, count_by, Token, is_psk, LacksDhResultFor, Writer, LacksDhResultAt}
use Rattle.noise_handshake.proofs.Fronts.{tokens-take, all-take}
use Rattle.noise_handshake.proofs.writer.write_lacking_before.Goals as goal

pub write_lacking-requires-clause-psks : goal.write_lacking-requires-clause-psks
write_lacking-requires-clause-psks g c =
    omega (arith, c.requires.psks, ap (count_by is_psk) (tokens-take c.args.placed.now c.args.k))

pub write_lacking-requires-clause-own : goal.write_lacking-requires-clause-own
write_lacking-requires-clause-own g c = search (rules, tokens-take, all-take)

pub write_lacking-requires-clause-known : goal.write_lacking-requires-clause-known
write_lacking-requires-clause-known g c = search (rules, tokens-take, all-take)

pub returns : goal.returns
returns g c = record {
  wants =
      let w : Writer = writer_of g.K.Keys.pairs c.args.means.now in
      subst (λ (us : List Token). MatchOption c.write_lacking.result ((j : ℕ) → LacksDhResultAt w c.args.known.now c.args.psks.now us j → ⊥)
      (λ want. LacksDhResultFor w c.args.known.now c.args.psks.now us want.0 want.1)) (tokens-take c.args.placed.now c.args.k) c.write_lacking.ensures.wants;
}
