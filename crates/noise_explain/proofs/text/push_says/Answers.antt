use Rattle.std.proofs.lemmas.Result.{on_ok_weaker}
use Rattle.noise_explain.proofs.PushLemmas.{both-said, one-way-said}
use Rattle.noise_explain.proofs.text.push_says.Goals as goal

pub returns-then-messages-eq1 : goal.returns-then-messages-eq1
returns-then-messages-eq1 c = record {
  appended = one-way-said c.args.given.now c.args.messages.now _ _ _ c.if-messages-eq1.true c.in_ok-push_turns.ensures.appended c.in_ok-push_say.ensures;
}

pub returns : goal.returns
returns c = record {
  appended = on_ok_weaker c.push_say-2.result
      (both-said c.args.given.now c.args.messages.now _ _ _ _ c.if-messages-eq1.false c.in_ok-push_turns.ensures.appended c.in_ok-push_say.ensures) c.push_say-2.ensures;
}
