use Rattle.std.proofs.Common.{arith, refl}
use Rattle.noise_names.specs.declared.token.Role.TheVariants.{Initiator, Responder}
use Rattle.noise_explain.proofs.CountLemmas.{acts-more, acts-same, few-acts}
use Rattle.noise_explain.proofs.run_counts.RunCounts.count.Goals as goal

pub returns-in-Initiator : goal.returns-in-Initiator
returns-in-Initiator c = record {
  counted = λ messages acts few h.
      let counted = c.after-self.ensures.counted _ (omega (arith, few, few-acts Initiator acts)) (rw h.messages_are h.initiator) in
      rw c.in-Initiator.is (record {
        messages_are = h.messages_are;
        initiator = rw (acts-more Initiator Initiator c.args.act acts refl, ← h.messages_are) counted;
        responder = rw (acts-same Responder Initiator c.args.act acts refl) h.responder;
      });
}

pub returns-in-Responder : goal.returns-in-Responder
returns-in-Responder c = record {
  counted = λ messages acts few h.
      let counted = c.after-self-in-Responder.ensures.counted _ (omega (arith, few, few-acts Responder acts)) (rw h.messages_are h.responder) in
      rw c.in-Responder.is (record {
        messages_are = h.messages_are;
        initiator = rw (acts-same Initiator Responder c.args.act acts refl) h.initiator;
        responder = rw (acts-more Responder Responder c.args.act acts refl, ← h.messages_are) counted;
      });
}
