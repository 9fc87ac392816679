use Rattle.noise_words.proofs.command_line.with_two.Goals as goal

pub returns-clause-shape : goal.returns-clause-shape
returns-clause-shape c =
    let second = c.with_argument-second.ensures.shape _ _ c.second_value.ensures.rule c.with_value.ensures.shape in
    let all = c.with_argument-all.ensures.shape _ _ c.flag_of.ensures.rule second in
    c.with_argument.ensures.shape _ _ c.flag_of-2.ensures.rule all
