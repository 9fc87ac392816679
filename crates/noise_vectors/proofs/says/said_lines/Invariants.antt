use Rattle.std.proofs.Common.{◌≡◌, map}
use Rattle.noise_vectors.proofs.Common.{say_of}
use Rattle.noise_vectors.proofs.says.said_lines.Given as goal

abbrev pub invariant-loop-event : goal.invariant-loop-event
invariant-loop-event l = map say_of l.lines.items ≡ l.yielded
