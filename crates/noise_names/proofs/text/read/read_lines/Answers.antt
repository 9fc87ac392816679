use Rattle.std.proofs.Common.{rules, arith, refl, ap, sym, ◌∙◌}
use Rattle.noise_names.proofs.Common.{is_pre_message}
use Rattle.noise_names.proofs.Reading.{plain-pattern, counted, length-own, equal_from_test, differ_from_test, true-not-false}
use Rattle.noise_names.proofs.text.read.read_lines.Goals.{then-is_empty-via-then-is_empty, then-is_empty-via-else-is_empty+then-not-are_pre_messages}
use Rattle.noise_names.proofs.text.read.read_lines.Goals as goal

pub of-requires : goal.of-requires
of-requires c = record {
  within =
      let pre = c.if-not-are_pre_messages.ensures.0 refl in
      rw (c.none-places.ensures, c.deref-2.ensures.0, c.deref-3.ensures.0)
      (plain-pattern c.args.base.now c.read_pre_messages-initiator.result.0.items c.read_pre_messages-initiator.result.1.items
      c.read_messages-messages.result.items
      c.requires.base c.requires.none
      (ap is_pre_message (sym c.deref.ensures.0) ∙ pre.0)
      (ap is_pre_message (sym c.deref-else-is_empty.ensures.0) ∙ pre.1)
      (omega (arith, differ_from_test _ _ 0 c.is_empty.ensures c.if-is_empty.false))
      c.read_messages-messages.ensures.few c.read_messages-messages.ensures.limits c.read_messages-messages.ensures.plain);
}

pub returns-then-is_empty-clause-every : goal.returns-then-is_empty-clause-every
returns-then-is_empty-clause-every c =
    search (rules, counted, then-is_empty-via-then-is_empty, equal_from_test, length-own, then-is_empty-via-else-is_empty+then-not-are_pre_messages, true-not-false)
