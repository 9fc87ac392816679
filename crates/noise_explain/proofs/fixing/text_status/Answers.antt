use Rattle.std.proofs.Common.{inr}
use Rattle.noise_explain.proofs.FixLemmas.{first-few}
use Rattle.noise_explain.proofs.fixing.text_status.Goals as goal

pub returns-in-Some : goal.returns-in-Some
returns-in-Some c =
    let first = rw c.in-Some.is at c.in_ok-first_fault.ensures in
    record {
      status = inr (c.in-Some.found.fault, first.wrong, c.status.ensures);
      bound = first-few c.args.text.now _ c.in-Some.found.position c.status.result first c.status.ensures;
    }
