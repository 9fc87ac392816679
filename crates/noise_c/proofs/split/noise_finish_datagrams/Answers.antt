use Rattle.std.proofs.Common.{sym, subst}
use Rattle.noise_c.proofs.Common.{DatagramsMatch, datagrams_of, DatagramSenderValue, DatagramReceiverValue, DatagramSenderMatches, DatagramReceiverMatches, window_in}
use Rattle.noise_events.specs.declared.window.Window.{Window}
use Rattle.noise_c.proofs.split.noise_finish_datagrams.Goals as goal

pub returns-clause-made : goal.returns-clause-made
returns-clause-made c e = record {
  done = λ p v k. (c.in-Ok.ensures.opens p v k).whole;
  stand = λ p v k.
      let w = datagrams_of v (window_in c.args.window) in
      let whole = subst (λ (z : Window). DatagramsMatch c.with_window.result (datagrams_of v z)) c.in-Some.ensures.same
      (c.with_window.ensures v (c.in-Ok.ensures.opens p v k)) in
      let s = c.split-sending.ensures.matches w whole in (
        subst (λ (z : DatagramSenderValue). DatagramSenderMatches z w) (sym c.datagram_sender_to_c.ensures.same) s.0,
        subst (λ (z : DatagramReceiverValue). DatagramReceiverMatches z w) (sym c.datagram_receiver_to_c.ensures.same) s.1,
      );
  known = (c.datagram_sender_to_c.ensures.known, c.datagram_receiver_to_c.ensures.known);
}
