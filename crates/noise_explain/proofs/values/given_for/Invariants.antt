use Rattle.std.proofs.Common.{◌≡◌, drop}
use Rattle.noise_explain.specs.Values.{given_for}
use Rattle.noise_explain.proofs.values.given_for.Given as goal

abbrev pub invariant-loop-g : goal.invariant-loop-g
invariant-loop-g l = given_for l.place l.given ≡ given_for l.place (drop l.g-index l.given)
