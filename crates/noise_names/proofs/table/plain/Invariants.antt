use Rattle.std.proofs.Common.{◌≡◌, ◌≤◌, map, take, length}
use Rattle.noise_names.proofs.table.plain.Given as goal

abbrev pub invariant-loop-tokens : goal.invariant-loop-tokens
invariant-loop-tokens l = (l.list.items ≡ map (λ m. m.now) (take l.tokens-index l.messages)) × (length l.list.items ≤ l.tokens-index)
