use Rattle.std.proofs.Common.{rules, subst}
use Rattle.noise_lines.proofs.Common.{Appends, Appends-kept, Appends-trans}
use Rattle.noise_lines.proofs.PrefixLemmas.{prefix-taken, taken-more}
use Rattle.noise_lines.proofs.output.write.Goals as goal

pub returns-in_err-count-clause-prefix : goal.returns-in_err-count-clause-prefix
returns-in_err-count-clause-prefix g c =
    prefix-taken _ _ c.loop-at.at c.args.text.now (Appends-kept _ _ _ _ c.loop-at.invariant.written c.in_err-count.ensures.bytes)

pub returns-then-count-eq0-clause-prefix : goal.returns-then-count-eq0-clause-prefix
returns-then-count-eq0-clause-prefix g c =
    prefix-taken _ _ _ c.args.text.now (subst (Appends _ _) (taken-more c.loop-at.at c.in_ok-count.count c.args.text.now)
    (Appends-trans _ _ _ _ _ c.loop-at.invariant.written c.in_ok-count.ensures.bytes))

pub loop-at-preserved : goal.loop-at-preserved
loop-at-preserved g c = record {
  within = search rules;
  written = subst (Appends _ _) (taken-more c.loop-at.at c.in_ok-count.count c.args.text.now)
      (Appends-trans _ _ _ _ _ c.loop-at.invariant.written c.in_ok-count.ensures.bytes);
}
