use Rattle.noise_words.proofs.command_line.with_trace.Goals as goal

pub returns : goal.returns
returns c = c.with_made.ensures _ c.with_options.ensures.shape
