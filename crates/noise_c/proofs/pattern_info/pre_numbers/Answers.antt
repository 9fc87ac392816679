use Rattle.std.proofs.Common.{refl}
use Rattle.noise_c.specs.PatternInfo.{numbers_of}
use Rattle.noise_c.proofs.pattern_info.pre_numbers.Goals as goal

pub returns : goal.returns
unfolding numbers_of
returns c = rw (c.number_at.ensures, c.number_at-2.ensures) refl
