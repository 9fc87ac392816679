use Rattle.std.proofs.Common.{take}
use Rattle.noise_theorems.proofs.Mixed.{Mixes}
use Rattle.noise_theorems.proofs.clash.texts_hashed.Given as goal

abbrev pub invariant-loop-piece : goal.invariant-loop-piece
invariant-loop-piece l = Mixes l.name (take l.piece-index l.mixed) l.state l.texts.items
