use Rattle.std.proofs.Common.{refl}
use Rattle.noise_explain.proofs.ExplainedLemmas.{text-first}
use Rattle.noise_explain.proofs.judged.text_position.Goals as goal

pub returns : goal.returns
returns c = record { first = text-first c.args.text.now _ c.args.fault _ c.requires.wrong refl c.line_at.ensures c.column_of.ensures }
