use Rattle.std.proofs.Common.{◌≡◌, take}
use Rattle.noise_lines.proofs.Common.{flat_map, line}
use Rattle.noise_names.specs.Fundamental.{fundamentals}
use Rattle.noise_lines.proofs.listing.list.Given as goal

abbrev pub invariant-loop-place : goal.invariant-loop-place
invariant-loop-place l = l.text.items ≡ flat_map (λ p. line p.base) (take l.place fundamentals)
