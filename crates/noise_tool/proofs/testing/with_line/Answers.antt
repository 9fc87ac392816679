use Rattle.std.proofs.Common.{◌≡◌, ◌∙◌, append-nil, rules, append_assoc}
use Rattle.noise_tool.proofs.testing.with_line.Goals as goal

pub returns-in_default : goal.returns-in_default
returns-in_default c = search (rules, append-nil)

pub returns : goal.returns
returns c = search (rules, append-nil, append_assoc)
