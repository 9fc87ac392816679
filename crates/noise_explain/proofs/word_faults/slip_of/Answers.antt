use Rattle.std.proofs.Common.{◌≡◌, false, true}
use Rattle.std.specs.Char.{is_ascii_hexdigit, is_ascii_uppercase}
use Rattle.std.specs.List.{list_all, list_any}
use Rattle.noise_explain.proofs.WordFaultLemmas.{all-lower, one-fails}
use Rattle.noise_explain.proofs.word_faults.slip_of.Goals as goal

pub returns-then-not-are_hex_digits : goal.returns-then-not-are_hex_digits
returns-then-not-are_hex_digits c =
    let some : list_all is_ascii_hexdigit c.args.word.now ≡ false = cc in
    one-fails is_ascii_hexdigit c.args.word.now some

pub returns : goal.returns
returns c =
    let hex : list_all is_ascii_hexdigit c.args.word.now ≡ true = cc in
    let none : list_any is_ascii_uppercase c.args.word.now ≡ false = cc in
    all-lower c.args.word.now hex none
