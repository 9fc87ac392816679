use Rattle.std.proofs.Common.{sym}
use Rattle.noise_c.proofs.Named.{pattern-fits, pattern-one}
use Rattle.noise_c.proofs.patterns.pattern_of_name.Goals as goal

pub returns-in-Ok-with_psks-clause-one : goal.returns-in-Ok-with_psks-clause-one
returns-in-Ok-with_psks-clause-one c q h =
    pattern-one c.args.name.now c.in-Ok.name c.base.result.now c.places.result.now c.in_ok-plain.plain c.in-Ok-with_psks.pattern q c.in-Ok.ensures.every
    c.base.ensures.value c.places.ensures (sym c.in_ok-plain.ensures.value) c.in-Ok-with_psks.ensures.placed h

pub returns-in-Err-clause-none : goal.returns-in-Err-clause-none
returns-in-Err-clause-none c q h =
    pattern-fits c.args.name.now c.in-Ok.name c.base.result.now c.places.result.now c.in_ok-plain.plain q c.in-Err.field-0.place c.in-Ok.ensures.every
    c.base.ensures.value c.places.ensures (sym c.in_ok-plain.ensures.value) c.in-Err.ensures.fault h
