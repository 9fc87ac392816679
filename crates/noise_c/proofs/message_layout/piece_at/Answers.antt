use Rattle.std.proofs.Common.{rules, ◌≡◌, ◌∙◌, length}
use Rattle.std.specs.Prelude.{slice_get}
use Rattle.noise_c.proofs.Common.{None, Some}
use Rattle.noise_names.specs.Pieces.{tokens_of}
use Rattle.noise_c.proofs.Layouts.{at-none, at-payload, at-token, none-past, token-there}
use Rattle.noise_c.proofs.message_layout.piece_at.Goals as goal

pub returns-in-Some : goal.returns-in-Some
returns-in-Some c =
    let place : c.from.result ≡ c.args.place = search rules in
    let there : slice_get (tokens_of c.args.pattern.now c.args.message) c.args.place ≡ Some c.in-Some.token.now =
    token-there (tokens_of c.args.pattern.now c.args.message) c.tokens_of-tokens.result.now c.args.place c.from.result c.in-Some.token.now
    c.tokens_of-tokens.ensures.value place c.in-Some.ensures.lookup.3.0 c.in-Some.ensures.lookup.1 in
    record { value = c.token_piece.ensures.value ∙ at-token c.args.pattern.now c.args.message c.args.payload_len c.args.place c.in-Some.token.now there }

pub returns-then-from-tokens : goal.returns-then-from-tokens
returns-then-from-tokens c =
    let place : c.from.result ≡ c.args.place = search rules in
    let absent : slice_get (tokens_of c.args.pattern.now c.args.message) c.args.place ≡ None =
    none-past (tokens_of c.args.pattern.now c.args.message) c.tokens_of-tokens.result.now c.args.place c.from.result c.tokens_of-tokens.ensures.value place
    c.in-None.ensures.lookup.3 in
    let last : c.args.place ≡ length (tokens_of c.args.pattern.now c.args.message) = search rules in
    record { value = c.piece.ensures.value ∙ at-payload c.args.pattern.now c.args.message c.args.payload_len c.args.place absent last }

pub returns-else-from-tokens : goal.returns-else-from-tokens
returns-else-from-tokens c =
    let place : c.from.result ≡ c.args.place = search rules in
    let absent : slice_get (tokens_of c.args.pattern.now c.args.message) c.args.place ≡ None =
    none-past (tokens_of c.args.pattern.now c.args.message) c.tokens_of-tokens.result.now c.args.place c.from.result c.tokens_of-tokens.ensures.value place
    c.in-None.ensures.lookup.3 in
    let after : c.args.place ≡ length (tokens_of c.args.pattern.now c.args.message) → ⊥ = search rules in
    record { value = at-none c.args.pattern.now c.args.message c.args.payload_len c.args.place absent after }
