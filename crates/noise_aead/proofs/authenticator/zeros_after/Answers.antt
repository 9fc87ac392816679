use Rattle.std.proofs.Common.{◌-◌, ◌%◌, length, arith}
use Rattle.noise_aead.proofs.Common.{take-replicate}
use Rattle.noise_aead.proofs.authenticator.zeros_after.Goals as goal

pub returns : goal.returns
returns c = take-replicate ((16 - length c.args.text.now % 16) % 16) 15 0 (omega arith)
