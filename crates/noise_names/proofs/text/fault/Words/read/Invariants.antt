use Rattle.std.proofs.Common.{length}
use Rattle.noise_names.proofs.WordLists.{IsRead}
use Rattle.noise_names.proofs.text.fault.Words.read.Given as goal

abbrev pub invariant-loop-token : goal.invariant-loop-token
invariant-loop-token l = IsRead l.list l.left l.words.first.items l.words.own.items

abbrev pub decreases-loop-token : goal.decreases-loop-token
decreases-loop-token l = length l.left
