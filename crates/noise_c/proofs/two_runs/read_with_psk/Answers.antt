use Rattle.std.proofs.Common.{◌-◌, ℕ, List, length-drop, subst, arith}
use Rattle.std.specs.Prelude.{false, true}
use Rattle.noise_c.specs.RunSteps.{ReadsStep}
use Rattle.noise_c.proofs.two_runs.read_with_psk.Goals as goal

pub returns : goal.returns
returns c =
    let given = c.noise_set_psk-code.new.handshake in
    let after = c.read.new.handshake in
    record {
      given = given;
      code = c.noise_set_psk-code.result;
      sets = c.noise_set_psk-code.ensures.sets;
      stays = c.noise_set_psk-code.ensures.stays;
      after = after;
      count = λ u. omega (arith, length-drop (9 - after.psk_count) after.psks, c.take_back.ensures.places, u.psks);
      step = c.in_ok-step.step;
      reads = subst (λ (z : List ℕ). ReadsStep c.args.responder false true given after z c.in_ok-step.step) c.in_ok-message.ensures.items c.in_ok-step.ensures;
      steps = c.in_ok-push.ensures.items;
      kept = c.take_back.ensures.kept;
      taken = λ ok low. (c.take_back.result, c.take_back.ensures.taken ok low, c.take_back.ensures.stays);
    }
