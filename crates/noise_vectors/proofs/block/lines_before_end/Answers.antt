use Rattle.noise_vectors.proofs.block.lines_before_end.Goals as goal

pub returns-in-Ok-clause-block : goal.returns-in-Ok-clause-block
returns-in-Ok-clause-block c = rw c.new-lines.ensures.0 at c.in-Ok.ensures.block
