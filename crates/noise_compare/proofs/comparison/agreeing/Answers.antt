use Rattle.std.proofs.Common.{sym}
use Rattle.noise_compare.proofs.comparison.agreeing.Goals as goal

pub returns-in_ok-ending_text-in-Some : goal.returns-in_ok-ending_text-in-Some
returns-in_ok-ending_text-in-Some c =
    record { reported = (c.requires.same, c.in-Some.next.now, sym c.in-Some.ensures, c.deref.result.now, rw c.deref.ensures.value c.in_ok-of_end-in-Some.ensures, c.in_ok-ending_text-in-Some.ensures) }
