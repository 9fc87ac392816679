use Rattle.std.proofs.Common.{◌≡◌, ◌==◌, ◌<◌, ◌&&◌, arith, false, length}
use Rattle.noise_names.specs.Names.{base_front, is_digit}
use Rattle.noise_explain.specs.AdviceFacts.{first_is, has}
use Rattle.noise_explain.proofs.AdviceLemmas.{colon-missing, name-long}
use Rattle.noise_explain.proofs.text_advice.name_advice.Goals as goal

pub returns-else-has_colon : goal.returns-else-has_colon
returns-else-has_colon c column is right =
    let none : has c.args.piece.now 58 ≡ false = cc in
    colon-missing c.args.line.now c.args.piece.now column is none right

pub returns-then-base_len-gt0 : goal.returns-then-base_len-gt0
returns-then-base_len-gt0 c column is right =
    let some : 0 < length (base_front c.args.piece.now) = omega arith in
    let front : (first_is is_digit c.args.piece.now && length c.args.piece.now == length c.args.line.now) ≡ false = cc in
    name-long c.args.line.now c.args.piece.now column some front is right
