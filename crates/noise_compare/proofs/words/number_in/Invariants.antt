use Rattle.std.proofs.Common.{◌≡◌, Some, fold, take}
use Rattle.noise_compare.specs.Words.{add_digit}
use Rattle.noise_compare.proofs.words.number_in.Given as goal

-- the number of the digits so far
abbrev pub invariant-loop-digit : goal.invariant-loop-digit
invariant-loop-digit l = l.number ≡ fold add_digit (Some 0) (take l.digit-index l.word)
