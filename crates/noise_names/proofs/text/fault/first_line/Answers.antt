use Rattle.noise_names.proofs.Lines.{line-bytes, line-ended, line-cut}
use Rattle.noise_names.proofs.text.fault.first_line.Goals as goal

pub returns-in-Some-clause-bytes : goal.returns-in-Some-clause-bytes
returns-in-Some-clause-bytes c = line-bytes _ _ _ c.line_len.ensures c.split_at.ensures.front

pub returns-in-Some-clause-whole : goal.returns-in-Some-clause-whole
returns-in-Some-clause-whole c = line-ended _ _ _ _ _ _ c.line_len.ensures c.split_at.ensures.front c.split_at.ensures.back (c.in-Some.ensures.cases).0

pub returns-in-None-clause-bytes : goal.returns-in-None-clause-bytes
returns-in-None-clause-bytes c = line-bytes _ _ _ c.line_len.ensures c.split_at.ensures.front

pub returns-in-None-clause-whole : goal.returns-in-None-clause-whole
returns-in-None-clause-whole c = line-cut _ _ _ _ c.line_len.ensures c.split_at.ensures.front c.split_at.ensures.back c.in-None.ensures.cases
