use Rattle.std.proofs.Common.{refl, sym, subst}
use Rattle.noise_duel.proofs.Common.{IfOk-weaker, Initiator, Responder, DatagramDuelValue, DatagramDuelMatches}
use Rattle.noise_duel.proofs.DatagramHappening.{seals-here}
use Rattle.noise_duel.proofs.datagram_duel.DatagramDuel.seal.Goals as goal

pub returns-in-Initiator : goal.returns-in-Initiator
returns-in-Initiator c d p k =
    let mine = subst (λ (duel : DatagramDuelValue). DatagramDuelMatches duel d) (sym c.self.view_is) p in
    IfOk-weaker c.seal.result _ _ (λ entry h.
    seals-here d c.args.role Initiator c.args.payload.now entry _ _ c.args.sealed.now _ c.in-Initiator.is mine k refl refl h)
    (c.seal.ensures d.initiator mine.initiator k.initiator)

pub returns-in-Responder : goal.returns-in-Responder
returns-in-Responder c d p k =
    let mine = subst (λ (duel : DatagramDuelValue). DatagramDuelMatches duel d) (sym c.self.view_is) p in
    IfOk-weaker c.seal-in-Responder.result _ _ (λ entry h.
    seals-here d c.args.role Responder c.args.payload.now entry _ _ c.args.sealed.now _ c.in-Responder.is mine k refl refl h)
    (c.seal-in-Responder.ensures d.responder mine.responder k.responder)
