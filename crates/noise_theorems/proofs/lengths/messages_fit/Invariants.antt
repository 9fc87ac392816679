use Rattle.std.proofs.Common.{◌≡◌, drop}
use Rattle.noise_theorems.proofs.Common.{Initiator, turn_from, roles_and_payloads, messages_fit_from}
use Rattle.noise_theorems.proofs.lengths.messages_fit.Given as goal

abbrev pub invariant-loop-role : goal.invariant-loop-role
invariant-loop-role l = record {
  place : l.place ≡ l.role-index;
  turn : l.turn ≡ turn_from Initiator l.place;
  rest : messages_fit_from l.pattern 0 (roles_and_payloads l.lines) ≡ messages_fit_from l.pattern l.place (roles_and_payloads (drop l.place l.lines));
}
