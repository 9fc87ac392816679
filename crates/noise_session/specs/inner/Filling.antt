-- How the filling of a buffer from a reader came to its end.
use Rattle.std.specs.Prelude.{ℕ, List}
use Rattle.noise_session.specs.declared.counted.Filling.{Filling}
use Rattle.noise_session.specs.declared.counted.Filling.TheVariants.{Filled, End, Failed}
use Rattle.noise_session.specs.Counting.{one_more}
use Rattle.noise_session.specs.Frames.{IsPartial, IsWhole}

-- what has come of a frame after a reading of its missing bytes
abbrev pub FillingLeaves : Filling → List ℕ → Type 0
FillingLeaves Filled bytes = IsWhole bytes
FillingLeaves End bytes = IsPartial bytes
FillingLeaves Failed bytes = IsPartial bytes

-- how many calls of the reader have failed then
abbrev pub after_filling : ℕ → Filling → ℕ
after_filling failures Failed = one_more failures
after_filling failures Filled = failures
after_filling failures End = failures
