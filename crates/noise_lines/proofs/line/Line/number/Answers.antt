use Rattle.std.proofs.Common.{rules, ◌≡◌, ◌<◌, ◌^◌}
use Rattle.std.specs.Prelude.{decimal}
use Rattle.noise_lines.proofs.PrintedWordLemmas.{printed-decimal}
use Rattle.noise_lines.proofs.line.Line.number.Goals as goal

pub word-requires : goal.word-requires
word-requires c =
    let text : c.as_str.result.now ≡ decimal c.args.number = search rules in
    let small : c.args.number < 2 ^ 64 = search rules in
    record { printed = rw text (printed-decimal c.args.number small) }
