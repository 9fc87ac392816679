use Rattle.std.proofs.Common.{arith}
use Rattle.noise_keys.proofs.Xor.{xored-step}
use Rattle.noise_keys.proofs.xor_keys.xor.Goals as goal

pub loop-i-preserved : goal.loop-i-preserved
loop-i-preserved c = xored-step c.loop-i.i c.loop-i.answer c.args.key.now c.args.other.now c.loop-i.invariant (omega arith) (omega arith)
