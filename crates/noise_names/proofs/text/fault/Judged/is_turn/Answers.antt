use Rattle.std.proofs.Common.{◌∙◌, ◌≡◌, ◌≢◌, ℕ, true, false, eqb, sym, arith}
use Rattle.noise_names.proofs.Common.{nat_tests, Initiator, not-true, not-false}
use Rattle.noise_names.proofs.Judging.{turns-even, turns-odd, turn-more}
use Rattle.noise_names.proofs.text.fault.Judged.is_turn.Goals as goal

is : (n : ℕ) → eqb n 0 ≡ true → n ≡ 0
is n h = grind (arith, nat_tests)

is_no : (n : ℕ) → eqb n 0 ≡ false → n ≢ 0
is_no n h = grind (arith, nat_tests)

pub returns-in-Initiator-clause-turn : goal.returns-in-Initiator-clause-turn
returns-in-Initiator-clause-turn c = λ h. c.in-Initiator.is ∙ sym (turns-even c.args.self.messages (is _ h)).0

pub returns-in-Initiator-clause-other : goal.returns-in-Initiator-clause-other
returns-in-Initiator-clause-other c = λ h.
    c.in-Initiator.is ∙ sym (turns-odd c.args.self.messages (is_no _ h)).1 ∙ turn-more c.args.self.messages Initiator

pub returns-in-Responder-clause-turn : goal.returns-in-Responder-clause-turn
returns-in-Responder-clause-turn c = λ h. c.in-Responder.is ∙ sym (turns-odd c.args.self.messages (is_no _ (not-true _ h))).0

pub returns-in-Responder-clause-other : goal.returns-in-Responder-clause-other
returns-in-Responder-clause-other c = λ h.
    c.in-Responder.is ∙ sym (turns-even c.args.self.messages (is _ (not-false _ h))).1 ∙ turn-more c.args.self.messages Initiator
