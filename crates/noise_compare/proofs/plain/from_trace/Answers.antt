use Rattle.std.proofs.Common.{◌+◌, add-one, ◌∙◌}
use Rattle.noise_compare.proofs.PlainLemmas.{passed_place}
use Rattle.noise_compare.proofs.plain.from_trace.Goals as goal

pub loop-i-preserved : goal.loop-i-preserved
loop-i-preserved c = c.loop-i.invariant
    ∙ passed_place c.args.text.now c.loop-i.found.now c.place_or-found.result.now c.loop-i.i (c.loop-i.i + 1)
    c.loop-i-test.true (add-one c.loop-i.i) c.place_or-found.ensures.value
