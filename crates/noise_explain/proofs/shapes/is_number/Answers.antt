use Rattle.std.proofs.Common.{arith, ◌≡◌}
use Rattle.std.proofs.lemmas.Bool.Decides.{nat_tests}
use Rattle.noise_explain.proofs.shapes.is_number.Goals as goal

pub returns-in-None : goal.returns-in-None
returns-in-None c = (λ bad. absurd (cc (bad)), λ h. absurd (cc (c.read_number.ensures.every h.0 (omega (arith, h.1)) h.2, c.in-None.is)))

pub returns-in-Some : goal.returns-in-Some
returns-in-Some c = (
  λ yes. (c.in-Some.number, grind (arith, nat_tests), c.in-Some.ensures.value),
  λ h.
      let found = c.read_number.ensures.every h.0 (omega (arith, h.1)) h.2 in
      let same : c.in-Some.number ≡ h.0 = cc (found, c.in-Some.is) in
      grind (arith, nat_tests, h.1, same),
)
