use Rattle.std.proofs.Common.{sym, subst}
use Rattle.noise_session.specs.TransportValue.{transport_of}
use Rattle.noise_channel.specs.Halves.{StreamSenderValue, StreamReceiverValue, StreamSenderMatches, StreamReceiverMatches}
use Rattle.noise_channel.specs.Writing.StreamSenderState.{Speaks}
use Rattle.noise_channel.specs.Reading.StreamReceiverState.{Listens}
use Rattle.noise_c.proofs.split.noise_finish_stream.Goals as goal

pub returns-clause-made : goal.returns-clause-made
returns-clause-made c e = record {
  done = λ p v k. (c.in-Ok.ensures.opens p v k).whole;
  writer = λ p v k.
      let w = transport_of v c.args.interval in
      let s = c.split-sending.ensures.matches w (c.new.ensures.matches v (c.in-Ok.ensures.opens p v k)) in
      subst (λ (z : StreamSenderValue). StreamSenderMatches z w (Speaks 0)) (sym c.stream_sender_to_c.ensures.same) (c.new-2.ensures.matches w s.0);
  reader = λ p v k.
      let w = transport_of v c.args.interval in
      let s = c.split-sending.ensures.matches w (c.new.ensures.matches v (c.in-Ok.ensures.opens p v k)) in
      subst (λ (z : StreamReceiverValue). StreamReceiverMatches z w (Listens 0)) (sym c.stream_receiver_to_c.ensures.same) (c.new-3.ensures.matches w s.1);
  known = (c.stream_sender_to_c.ensures.known, c.stream_receiver_to_c.ensures.known);
}
