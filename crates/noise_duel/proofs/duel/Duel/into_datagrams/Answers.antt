use Rattle.std.proofs.Common.{sym, subst}
use Rattle.noise_duel.proofs.Common.{DuelValue, DuelMatches, both_sides}
use Rattle.noise_duel.proofs.duel.Duel.into_datagrams.Goals as goal

pub returns-clause-matches : goal.returns-clause-matches
returns-clause-matches g c v w h =
    let here = subst (λ (d : DuelValue g.row.A.Denot g.row.B.Denot).
    DuelMatches g.A.Keys.pairs g.B.Keys.pairs d (both_sides v w)) (sym c.self.view_is) h in
    rw c.new.ensures (record {
      initiator = c.into_datagrams-initiator.ensures.matches v here.initiator;
      responder = c.into_datagrams-responder.ensures.matches w here.responder;
    })
