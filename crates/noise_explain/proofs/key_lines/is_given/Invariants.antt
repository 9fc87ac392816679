use Rattle.std.proofs.Common.{◌≡◌, drop}
use Rattle.noise_explain.specs.KeyLines.{is_given}
use Rattle.noise_explain.proofs.key_lines.is_given.Given as goal

abbrev pub invariant-loop-g : goal.invariant-loop-g
invariant-loop-g l = is_given l.given l.place ≡ is_given (drop l.g-index l.given) l.place
