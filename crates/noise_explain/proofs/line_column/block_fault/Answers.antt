use Rattle.noise_explain.proofs.line_column.block_fault.Goals as goal

pub returns-in-Err : goal.returns-in-Err
returns-in-Err c = (c.in_ok-block.block.now, c.in_ok-block.ensures, c.in-Err.ensures.reported)
