use Rattle.std.proofs.Common.{List, ◌∷◌, [], length, subst}
use Rattle.noise_names.proofs.Common.{Token, place, payload, token_places, Walks}
use Rattle.noise_names.proofs.Checking.{walks_on, whole_message}
use Rattle.noise_names.proofs.seen.Seen.walk_message.Goals as goal

pub returns : goal.returns
returns c =
    subst (λ (ts : List Token). Walks c.args.self.now c.walk_end.new.self (whole_message c.args.party c.args.number ts) c.walk_end.result)
    c.tokens-tokens.ensures.value
    (walks_on c.args.self.now c.walk_tokens.new.self c.walk_end.new.self (token_places c.args.party c.args.number 0 c.tokens-tokens.result.now)
    (place c.args.party payload c.args.number (length c.tokens-tokens.result.now) ∷ []) c.walk_end.result c.in_ok-walk_tokens.ensures.walks
    c.walk_end.ensures.payload)
