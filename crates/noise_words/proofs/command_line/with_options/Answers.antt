use Rattle.noise_words.specs.CommandLine.{part_choice, role_choice}
use Rattle.noise_words.proofs.command_line.with_options.Goals as goal

pub returns-clause-shape : goal.returns-clause-shape
returns-clause-shape c =
    let part = c.with_argument-part.ensures.shape _ _ (c.option_of.ensures.rule part_choice.1) c.with_value.ensures.shape in
    let role = c.with_argument-role.ensures.shape _ _ (c.option_of-2.ensures.rule role_choice.1) part in
    c.with_argument.ensures.shape _ _ c.flag_of.ensures.rule role
