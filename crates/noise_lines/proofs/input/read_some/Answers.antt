use Rattle.noise_lines.proofs.Common.{Keeps-refl, Keeps-trans}
use Rattle.noise_lines.proofs.InputLemmas.{unchanged-consumes}
use Rattle.noise_lines.proofs.input.read_some.Goals as goal

pub loop-init : goal.loop-init
loop-init g c = Keeps-refl (g.R.Read.remaining c.args.file.now)

pub returns-in-Ok-clause-bytes : goal.returns-in-Ok-clause-bytes
returns-in-Ok-clause-bytes g c = (unchanged-consumes _ _ _ _ c.loop.invariant c.in-Ok.ensures.bytes.0, c.in-Ok.ensures.bytes.1)

pub returns-in-Err-2-clause-bytes : goal.returns-in-Err-2-clause-bytes
returns-in-Err-2-clause-bytes g c = Keeps-trans _ _ _ c.loop.invariant c.in-Err-2.ensures.bytes

pub returns-in-Err-3-clause-bytes : goal.returns-in-Err-3-clause-bytes
returns-in-Err-3-clause-bytes g c = Keeps-trans _ _ _ c.loop.invariant c.in-Err-3.ensures.bytes

pub loop-preserved : goal.loop-preserved
loop-preserved g c = Keeps-trans _ _ _ c.loop.invariant c.in-Err.ensures.bytes
