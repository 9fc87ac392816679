use Rattle.std.proofs.Common.{ℕ, List, refl, ap, sym, subst, ◌∙◌, slice_get, Vec, Global}
use Rattle.noise_duel.proofs.Common.{IfOk-weaker, Initiator, Responder, DatagramDuelValue, DatagramDuelMatches, bytes_of}
use Rattle.noise_duel.proofs.DatagramHappening.{found-here}
use Rattle.noise_duel.proofs.datagram_duel.DatagramDuel.open.Goals as goal

pub returns-in-Initiator : goal.returns-in-Initiator
returns-in-Initiator c d p k =
    let mine = subst (λ (duel : DatagramDuelValue). DatagramDuelMatches duel d) (sym c.self.view_is) p in
    IfOk-weaker c.open_numbered.result _ _ (λ entry h.
    found-here d c.args.role Initiator c.args.number _ entry _ _ c.args.sealed.now c.in-Initiator.is
    (ap (λ (bs : List (List ℕ)). slice_get bs c.args.number) (sym k.responder)
    ∙ ap (λ (vs : List (Vec ℕ Global)). slice_get (bytes_of vs) c.args.number) (sym c.as_slice-theirs.ensures.value))
    mine k refl h)
    (c.open_numbered.ensures d.initiator mine.initiator)

pub returns-in-Responder : goal.returns-in-Responder
returns-in-Responder c d p k =
    let mine = subst (λ (duel : DatagramDuelValue). DatagramDuelMatches duel d) (sym c.self.view_is) p in
    IfOk-weaker c.open_numbered-in-Responder.result _ _ (λ entry h.
    found-here d c.args.role Responder c.args.number _ entry _ _ c.args.sealed.now c.in-Responder.is
    (ap (λ (bs : List (List ℕ)). slice_get bs c.args.number) (sym k.initiator)
    ∙ ap (λ (vs : List (Vec ℕ Global)). slice_get (bytes_of vs) c.args.number) (sym c.as_slice-theirs-in-Responder.ensures.value))
    mine k refl h)
    (c.open_numbered-in-Responder.ensures d.responder mine.responder)
