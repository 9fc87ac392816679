use Rattle.std.proofs.Common.{◌≡◌, drop}
use Rattle.noise_explain.specs.Template.{occurs_in}
use Rattle.noise_explain.proofs.needs.mixes.Given as goal

abbrev pub invariant-loop-message : goal.invariant-loop-message
invariant-loop-message l = occurs_in l.dh l.messages ≡ occurs_in l.dh (drop l.message-index l.messages)
