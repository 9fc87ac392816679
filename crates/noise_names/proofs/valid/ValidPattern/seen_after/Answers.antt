use Rattle.std.proofs.Common.{◌≡◌, ℕ, List, [], ◌++◌, take, ap, refl, ◌∙◌}
use Rattle.noise_names.proofs.Common.{Initiator, Responder, Token, Plan, Place, first_places, token_places, message_places}
use Rattle.noise_names.specs.Checking.{seen_of}
use Rattle.noise_names.proofs.valid.ValidPattern.seen_after.Goals as goal

places-are : (plan : Plan) (n : ℕ) (initiator responder : List Token) (messages : List (List Token))
    → initiator ≡ plan.initiator → responder ≡ plan.responder → messages ≡ plan.messages
    → (token_places Initiator 0 0 initiator ++ token_places Responder 0 0 responder) ++ message_places Initiator 1 (take n messages) ≡ first_places plan n
places-are plan n initiator responder messages e f g = rw (e, f, g) refl

pub returns-clause-seen : goal.returns-clause-seen
returns-clause-seen c =
    let initiator : List Place = token_places Initiator 0 0 c.pre.result.now in
    let responder : List Place = token_places Responder 0 0 c.pre-2.result.now in
    let first = c.add_tokens.ensures [] 0 c.new-seen.ensures in
    let second = c.add_tokens-2.ensures initiator 0 first in
    let third = c.add_messages-party.ensures.seen (initiator ++ responder) second in
    third ∙ ap seen_of (places-are c.self.inside.pattern c.args.passed c.pre.result.now c.pre-2.result.now c.messages.result.now
    c.pre.ensures.value c.pre-2.ensures.value c.messages.ensures.value)
    ∙ ap (λ (p : Plan). seen_of (first_places p c.args.passed)) c.self.view_is
