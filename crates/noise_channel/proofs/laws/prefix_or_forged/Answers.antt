use Rattle.noise_channel.specs.Writing.{payloads_written, has_ended}
use Rattle.noise_channel.proofs.Forging.{prefix-or-forged}
use Rattle.noise_channel.proofs.laws.prefix_or_forged.Goals as goal

pub returns : goal.returns
returns c d n calls u came left out t low all run =
    prefix-or-forged d n t came left out (payloads_written calls) (has_ended u) (c.calls_make_stream.ensures d n calls u low all).1.parts run
