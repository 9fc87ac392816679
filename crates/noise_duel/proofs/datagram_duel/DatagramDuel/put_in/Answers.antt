use Rattle.std.proofs.Common.{refl, sym, subst}
use Rattle.noise_duel.proofs.Common.{IfOk-weaker, Initiator, Responder, DatagramDuelValue, DatagramDuelMatches}
use Rattle.noise_duel.proofs.DatagramHappening.{put-in-here}
use Rattle.noise_duel.proofs.datagram_duel.DatagramDuel.put_in.Goals as goal

pub returns-in-Initiator : goal.returns-in-Initiator
returns-in-Initiator c d sealed p k =
    let mine = subst (λ (duel : DatagramDuelValue). DatagramDuelMatches duel d) (sym c.self.view_is) p in
    IfOk-weaker c.open.result _ _ (λ entry h.
    put-in-here d c.args.role Initiator c.args.bytes.now entry _ _ sealed c.in-Initiator.is mine k refl h)
    (c.open.ensures d.initiator mine.initiator)

pub returns-in-Responder : goal.returns-in-Responder
returns-in-Responder c d sealed p k =
    let mine = subst (λ (duel : DatagramDuelValue). DatagramDuelMatches duel d) (sym c.self.view_is) p in
    IfOk-weaker c.open-in-Responder.result _ _ (λ entry h.
    put-in-here d c.args.role Responder c.args.bytes.now entry _ _ sealed c.in-Responder.is mine k refl h)
    (c.open-in-Responder.ensures d.responder mine.responder)
