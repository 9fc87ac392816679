use Rattle.std.proofs.Common.{◌∙◌, sym}
use Rattle.noise_tool.proofs.PatternNameLemmas.{fundamental-is}
use Rattle.noise_tool.proofs.pattern_names.names_fundamental.Goals as goal

pub returns-in-Ok-clause-some : goal.returns-in-Ok-clause-some
returns-in-Ok-clause-some c = λ yes.
    fundamental-is c.args.bytes.now c.in-Ok.name c.fundamental.result c.in-Ok.ensures.named (rw c.base.ensures.value at c.fundamental.ensures.value)
    (sym c.is_some.ensures ∙ yes)
