use Rattle.std.proofs.Common.{◌≡◌, ◌+◌, ◌-◌, ◌≤◌, length, drop, vec_len, vec_capacity}
use Rattle.noise_session.specs.TransportValue.{TransportState}
use Rattle.noise_channel.specs.Halves.{StreamReceiverMatches}
use Rattle.noise_channel.specs.Reading.{StreamReceiverState}
use Rattle.noise_channel.specs.Receiving.{ReadsSome}
use Rattle.noise_channel.proofs.reader.read_to.Given as goal

abbrev pub invariant-frames : goal.invariant-frames
invariant-frames l = record {
  within : l.at ≤ length l.came;
  long : length l.came ≡ length l.fn.came;
  rest : drop l.at l.came ≡ drop l.at l.fn.came;
  room : vec_len l.out + (length l.came - l.at) ≤ vec_capacity l.out;
  reads : (v : TransportState) (s : StreamReceiverState) → StreamReceiverMatches l.fn.receiver v s → ReadsSome v s l.fn.came l.at l.fn.out.items l.out.items l.receiver;
}

abbrev pub decreases-frames : goal.decreases-frames
decreases-frames l = length l.came - l.at
