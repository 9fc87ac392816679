use Rattle.std.proofs.Common.{ap, ◌∙◌, List, ◌+◌}
use Rattle.std.specs.Prelude.{◌&&◌}
use Rattle.noise_names.specs.declared.token.Role.{Role}
use Rattle.noise_names.specs.declared.token.Token.{Token}
use Rattle.noise_names.specs.Tokens.{same_role}
use Rattle.noise_names.specs.Plan.{message_places}
use Rattle.noise_names.specs.Validity.{is_among}
use Rattle.noise_keys.specs.KeyTokens.{has_token}
use Rattle.noise_keys.proofs.Walk.{found-here, found-later}
use Rattle.noise_keys.proofs.key_tokens.+sends_in.Goals as goal

pub returns-then-sends_as : goal.returns-then-sends_as
returns-then-sends_as t c n =
    found-here c.args.party c.args.role c.args.token n c.in-Some.message.now c.in-Some.later.now c.args.messages.now c.sends_as.result
    c.in-Some.ensures.cases.0
    (c.sends_as.ensures ∙ ap (λ (ts : List Token). same_role c.args.party c.args.role && has_token
    c.args.token ts) c.tokens.ensures.value) c.if-sends_as.true

pub returns : goal.returns
returns t c n =
    found-later c.args.party c.args.role c.args.token n c.in-Some.message.now c.in-Some.later.now c.args.messages.now c.sends_as.result
    c.sends_in.result c.in-Some.ensures.cases.0
    (c.sends_as.ensures ∙ ap (λ (ts : List Token). same_role c.args.party c.args.role && has_token
    c.args.token ts) c.tokens.ensures.value) c.if-sends_as.false
    (c.sends_in.ensures (n + 1) ∙ ap (λ (r : Role). is_among c.args.role c.args.token (message_places r (n + 1) c.in-Some.later.now)) c.other.ensures)
