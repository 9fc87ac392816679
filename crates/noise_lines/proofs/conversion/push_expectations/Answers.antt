use Rattle.std.proofs.Common.{rules, ◌≤◌, refl, length}
use Rattle.noise_lines.proofs.ConvertingLemmas.{expectations-done}
use Rattle.noise_lines.proofs.conversion.push_expectations.Goals as goal

pub returns : goal.returns
returns c =
    let lines = c.args.lines.now in
    let all : length lines ≤ c.loop-line.line-index = search rules in
    expectations-done lines lines c.loop-line.line-index _ _ refl all c.loop-line.invariant
