use Rattle.std.proofs.Common.{◌≡◌, ◌-◌, ℕ, List, length, length-drop, sym, subst, refl, arith, rules}
use Rattle.std.specs.Prelude.{IfOk, false, true}
use Rattle.noise_c.specs.RunSteps.{StrangeTurn, Turned, WritesStep}
use Rattle.noise_c.specs.declared.two_runs.Turn.{Turn}
use Rattle.noise_c.proofs.two_runs.take_turn.Goals as goal

pub returns-in_ok-push-in-Write : goal.returns-in_ok-push-in-Write
returns-in_ok-push-in-Write c =
    subst (λ (t : Turn). Turned c.args.responder t c.args.handshake.now c.write.new.handshake c.args.steps.now.items c.push.new.self.items) (sym c.in-Write.is) (
      c.in_ok-step-in-Write.step,
      subst (λ (z : List ℕ). WritesStep c.args.responder c.args.handshake.now c.write.new.handshake z c.in-Write.room c.in_ok-step-in-Write.step) c.deref.ensures.value
          c.in_ok-step-in-Write.ensures,
      c.in_ok-push-in-Write.ensures.items,
    )

pub returns-in-SetPsk : goal.returns-in-SetPsk
returns-in-SetPsk c =
    let k = c.args.handshake.now in
    let nine : length k.psks ≡ 9 = search rules in
    subst (λ (t : Turn). Turned c.args.responder t k c.noise_set_psk.new.handshake c.args.steps.now.items c.args.steps.now.items) (sym c.in-SetPsk.is) (
      c.noise_set_psk.result,
      c.noise_set_psk.ensures.sets,
      c.noise_set_psk.ensures.matches,
      c.noise_set_psk.ensures.stays,
      (λ u. omega (arith, length-drop (9 - k.psk_count) k.psks, nine, u.psks)),
      refl,
    )

pub returns-in-Deliver : goal.returns-in-Deliver
returns-in-Deliver c =
    let call = c.read_strange in
    subst (λ (t : Turn). IfOk call.result (λ _. Turned c.args.responder t c.args.handshake.now call.new.handshake c.args.steps.now.items call.new.steps.items)) (sym c.in-Deliver.is)
    (subst (λ (z : List ℕ). IfOk call.result (λ _. StrangeTurn c.args.responder true c.args.handshake.now call.new.handshake z c.args.steps.now.items call.new.steps.items))
    c.deref-in-Deliver.ensures.value call.ensures)

pub returns-in-TryDeliver : goal.returns-in-TryDeliver
returns-in-TryDeliver c =
    let call = c.read_strange-in-TryDeliver in
    subst (λ (t : Turn). IfOk call.result (λ _. Turned c.args.responder t c.args.handshake.now call.new.handshake c.args.steps.now.items call.new.steps.items)) (sym c.in-TryDeliver.is)
    (subst (λ (z : List ℕ). IfOk call.result (λ _. StrangeTurn c.args.responder false c.args.handshake.now call.new.handshake z c.args.steps.now.items call.new.steps.items))
    c.deref-in-TryDeliver.ensures.value call.ensures)
