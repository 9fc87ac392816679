use Rattle.noise_words.proofs.command_line.with_flag.Goals as goal

pub returns-clause-shape : goal.returns-clause-shape
returns-clause-shape c = c.with_argument.ensures.shape _ _ c.flag_of.ensures.rule c.with_value.ensures.shape
