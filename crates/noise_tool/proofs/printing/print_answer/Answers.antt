use Rattle.std.proofs.Common.{◌≡◌, ◌∙◌, refl, inl, inr}
use Rattle.noise_tool.proofs.printing.print_answer.Goals as goal

pub returns-in-Ok-clause-printed : goal.returns-in-Ok-clause-printed
returns-in-Ok-clause-printed g c = record {
  prefix = c.print_text.ensures.prefix;
  unwritten = c.print_text.ensures.unwritten;
  ends = inl (
    refl,
    c.in-Ok.ensures.written,
    rw c.deref.ensures.value at c.print_line.ensures.prefix,
    rw c.deref.ensures.value at c.print_line.ensures.unwritten,
  );
}

pub returns-in-Err-clause-printed : goal.returns-in-Err-clause-printed
returns-in-Err-clause-printed g c = record {
  prefix = c.print_text.ensures.prefix;
  unwritten = c.print_text.ensures.unwritten;
  ends = inr (refl, rw c.as_slice.ensures at c.write.ensures.prefix);
}
