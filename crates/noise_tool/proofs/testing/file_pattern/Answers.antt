use Rattle.std.proofs.Common.{◌≡◌, Option, rules}
use Rattle.noise_tool.proofs.Common.{Plan, IsFilePattern}
use Rattle.noise_tool.proofs.TestingLemmas.{pattern-starts, patterns-of}
use Rattle.noise_tool.proofs.testing.file_pattern.Goals as goal

pub returns-clause-pattern : goal.returns-clause-pattern
returns-clause-pattern c =
    let same : c.in_ok-block.block ≡ c.args.file.now.block = search rules in
    patterns-of (λ (b : Option Plan) (p : Plan). IsFilePattern b c.args.file.now.protocol p) c.in_ok-block.block c.args.file.now.block
    c.valid_pattern.result same c.valid_pattern.ensures.pattern

pub returns-clause-fault : goal.returns-clause-fault
returns-clause-fault c =
    let same : c.in_ok-block.block ≡ c.args.file.now.block = search rules in
    pattern-starts c.args.file.now c.in_ok-block.block c.valid_pattern.result same c.valid_pattern.ensures.fault
