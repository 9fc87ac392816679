use Rattle.std.proofs.Common.{rules}
use Rattle.noise_names.proofs.Reading.{differ_from_test}
use Rattle.noise_names.proofs.Lines.{dots-more, shorter}
use Rattle.noise_names.proofs.text.fault.has_dots.Goals as goal

pub loop-rest-preserved : goal.loop-rest-preserved
loop-rest-preserved c = search (rules, dots-more)

pub loop-rest-smaller : goal.loop-rest-smaller
loop-rest-smaller c = search (rules, shorter, differ_from_test)
