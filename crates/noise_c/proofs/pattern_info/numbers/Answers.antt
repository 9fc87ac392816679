use Rattle.std.proofs.Common.{refl}
use Rattle.noise_c.specs.PatternInfo.{numbers_of}
use Rattle.noise_c.proofs.pattern_info.numbers.Goals as goal

pub returns : goal.returns
unfolding numbers_of
returns c =
    rw (
      c.number_at.ensures,
      c.number_at-2.ensures,
      c.number_at-3.ensures,
      c.number_at-4.ensures,
      c.number_at-5.ensures,
      c.number_at-6.ensures,
      c.number_at-7.ensures,
      c.number_at-8.ensures,
      c.number_at-9.ensures,
      c.number_at-10.ensures,
    ) refl
