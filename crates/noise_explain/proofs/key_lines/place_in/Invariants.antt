use Rattle.std.proofs.Common.{◌≡◌, drop}
use Rattle.noise_explain.specs.KeyLines.{place_in}
use Rattle.noise_explain.proofs.key_lines.place_in.Given as goal

abbrev pub invariant-loop-place : goal.invariant-loop-place
invariant-loop-place l = place_in l.places l.plain ≡ place_in (drop l.place-index l.places) l.plain
