use Rattle.std.proofs.Common.{length}
use Rattle.noise_explain.proofs.text.+push_turns.Given as goal

abbrev pub decreases-push_turns : goal.decreases-push_turns
decreases-push_turns l = length l.messages.now
