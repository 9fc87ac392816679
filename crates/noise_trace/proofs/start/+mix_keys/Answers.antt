use Rattle.std.proofs.Common.{List, refl, subst}
use Rattle.noise_trace.proofs.Common.{Token, E, S, SymmetricState}
use Rattle.noise_trace.specs.inner.PreMessages.{Mixes}
use Rattle.noise_trace.proofs.PreMessages.{mixes-on, has-here, has-later}
use Rattle.noise_trace.proofs.start.+mix_keys.Goals as goal

pub returns-clause-mixed : goal.returns-clause-mixed
returns-clause-mixed t c has =
    let r : SymmetricState = c.args.state.now in
    let token : Token = c.in-Some.token.now in
    let later : List Token = c.in-Some.later.now in
    let tokens : List Token = c.args.tokens.now in
    let split = c.in-Some.ensures.cases.0 in
    let one = c.mix_one.ensures.mixed
    (λ e. has.0 (has-here E token tokens later refl split e))
    (λ e. has.1 (has-here S token tokens later refl split e)) in
    mixes-on c.args.has_psks c.args.party c.args.keys.now tokens token later r c.mix_keys.new.state c.args.steps.now.items c.mix_one.new.steps.items
    c.mix_keys.new.steps.items split one.1
    (subst (λ (z : SymmetricState). Mixes c.args.has_psks c.args.party c.args.keys.now later z c.mix_keys.new.state c.mix_one.new.steps.items
    c.mix_keys.new.steps.items) one.0
    (c.mix_keys.ensures.mixed (λ h. has.0 (has-later E token tokens later split h), λ h. has.1 (has-later S token tokens later split h))))
