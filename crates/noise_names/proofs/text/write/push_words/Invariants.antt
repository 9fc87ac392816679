use Rattle.std.proofs.Common.{◌≡◌, ◌≤◌, ◌+◌, ◌*◌, ◌++◌, length, drop}
use Rattle.noise_names.proofs.Common.{words}
use Rattle.noise_names.proofs.Writing.{more_words}
use Rattle.noise_names.proofs.text.write.push_words.Given as goal

abbrev pub invariant-loop-token : goal.invariant-loop-token
invariant-loop-token l =
    (l.out.items ++ more_words (drop l.token-index l.others) ≡ l.fn.out.items ++ words l.fn.tokens)
    × (length l.out.items ≤ length l.fn.out.items + 3 + 5 * l.token-index)
