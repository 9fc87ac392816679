use Rattle.noise_tool.proofs.PatternNameLemmas.{none-named}
use Rattle.noise_tool.specs.PatternNames.{whole_name}
use Rattle.noise_tool.proofs.pattern_names.pattern_text.Goals as goal

pub returns-in_default-named_pattern-clause-none : goal.returns-in_default-named_pattern-clause-none
returns-in_default-named_pattern-clause-none c = λ text h.
    none-named (whole_name c.args.word.now) c.parse.result c.in-Ok.name c.in_default-named_pattern.field-0 c.in-Ok.is
    (rw (c.deref.ensures.value, c.in_ok-whole.ensures, c.as_bytes.ensures.value) at c.parse.ensures.every) c.in_default-named_pattern.ensures.fault h.pattern h.names
