use Rattle.std.proofs.Common.{◌≡◌, [], drop}
use Rattle.noise_compare.specs.Plain.{last_place_or}
use Rattle.noise_compare.proofs.plain.from_trace.Given as goal

-- the last place is among those still to come, or is the last so far
abbrev pub invariant-loop-i : goal.invariant-loop-i
invariant-loop-i l = last_place_or [] l.text ≡ last_place_or l.found (drop l.i l.text)
