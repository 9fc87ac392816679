use Rattle.std.proofs.Common.{ap, ◌∙◌, ◌++◌, ◌∷◌, []}
use Rattle.noise_trace.proofs.Common.{SymmetricState}
use Rattle.noise_trace.specs.Start.{start_step}
use Rattle.noise_trace.specs.declared.start_step.StartPart.TheVariants as part
use Rattle.noise_trace.proofs.PreMessages.{mixes-s}
use Rattle.noise_trace.proofs.start.mix_one.Goals as goal

pub returns-in-S-default-Some-clause-mixed : goal.returns-in-S-default-Some-clause-mixed
returns-in-S-default-Some-clause-mixed c e k =
    let r : SymmetricState = c.args.state.now in
    let key = c.in-S-default-Some.key in
    mixes-s c.args.has_psks c.args.party c.args.keys.now c.args.token r key c.mix_hash.new.self c.args.steps.now.items
    c.add_step-in-S-default-Some.new.steps.items c.in-S-default-Some.is-0 c.in-S-default-Some.is-2 c.mix_hash.ensures
    (c.add_step-in-S-default-Some.ensures.after
    ∙ ap (λ (z : SymmetricState). c.args.steps.now.items ++ start_step (part.Key c.args.party c.args.token) z ∷ []) c.mix_hash.ensures)
