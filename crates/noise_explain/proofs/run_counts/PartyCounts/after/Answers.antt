use Rattle.std.proofs.Common.{◌≤◌, refl, rules, arith}
use Rattle.noise_explain.specs.declared.run_counts.Act.TheVariants.{Wrote, Accepted}
use Rattle.noise_explain.proofs.CountLemmas.{few-later, later-act}
use Rattle.noise_explain.proofs.run_counts.PartyCounts.after.Goals as goal

pub returns-in-Wrote-false : goal.returns-in-Wrote-false
returns-in-Wrote-false c = record {
  counted = λ acts few h.
      let over : c.args.messages ≤ c.args.self.passed = search rules in
      let more = c.more-in-Wrote-false.ensures (omega (arith, h.sent, few, few-later Wrote c.args.messages acts)) in
      rw c.in-Wrote-false.is-0 (later-act c.args.messages acts Wrote c.args.self _ _ refl over more (omega arith) refl refl refl refl h);
}

pub returns-in-Accepted-false : goal.returns-in-Accepted-false
returns-in-Accepted-false c = record {
  counted = λ acts few h.
      let over : c.args.messages ≤ c.args.self.passed = search rules in
      let more = c.more-in-Accepted-false.ensures (omega (arith, h.received, few, few-later Accepted c.args.messages acts)) in
      rw c.in-Accepted-false.is-0 (later-act c.args.messages acts Accepted c.args.self _ _ refl over (omega arith) more refl refl refl refl h);
}
