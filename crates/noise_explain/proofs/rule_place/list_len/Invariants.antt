use Rattle.std.proofs.Common.{◌≡◌, ◌≤◌, ◌*◌, length, take}
use Rattle.noise_explain.specs.Positions.{words_before}
use Rattle.noise_explain.proofs.rule_place.list_len.Given as goal

abbrev pub invariant-loop-index : goal.invariant-loop-index
invariant-loop-index l = record {
  same : l.count ≡ length (words_before (take l.index l.tokens));
  few : l.count ≤ 5 * l.index;
  below : l.index ≤ l.token;
}
