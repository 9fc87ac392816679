use Rattle.std.proofs.Common.{rules, ◌≡◌, true, false}
use Rattle.noise_c.proofs.Common.{is_text}
use Rattle.noise_c.proofs.Describing.{name-fault, text-fault}
use Rattle.noise_c.proofs.pattern_info.read_pattern.Goals as goal

pub returns-in-None-clause-fault : goal.returns-in-None-clause-fault
returns-in-None-clause-fault c =
    let name : is_text c.args.bytes.now ≡ false = search rules in
    name-fault c.args.bytes.now c.args.results.now name c.in-None.ensures.none

pub returns-then-ends_with-clause-fault : goal.returns-then-ends_with-clause-fault
returns-then-ends_with-clause-fault c =
    let text : is_text c.args.bytes.now ≡ true = search rules in
    text-fault c.args.bytes.now c.args.results.now c.pattern_of_text.new.results c.pattern_of_text.result text c.pattern_of_text.ensures.none
    c.pattern_of_text.ensures.code c.pattern_of_text.ensures.reported c.pattern_of_text.ensures.line
