use Rattle.std.proofs.Common.{sym, subst, ◌∙◌}
use Rattle.noise_session.specs.Halves.{HalfValue}
use Rattle.noise_session.specs.TransportValue.{SenderMatches, ReceiverMatches, transport_of}
use Rattle.noise_c.proofs.split.noise_finish.Goals as goal

pub returns-clause-made : goal.returns-clause-made
returns-clause-made c e = record {
  done = λ p v k. (c.in-Ok.ensures.opens p v k).whole;
  stand = λ p v k.
      let w = transport_of v c.args.interval in
      let s = c.split-sending.ensures.matches w (c.new.ensures.matches v (c.in-Ok.ensures.opens p v k)) in (
        subst (λ (z : HalfValue). SenderMatches z w) (sym (c.half_to_c.ensures.same ∙ c.into_parts.ensures)) s.0,
        subst (λ (z : HalfValue). ReceiverMatches z w) (sym (c.half_to_c-2.ensures.same ∙ c.into_parts-2.ensures)) s.1,
      );
  known = (c.half_to_c.ensures.known, c.half_to_c-2.ensures.known);
}
