use Rattle.std.proofs.Common.{arith, ◌≤◌, length}
use Rattle.std.proofs.lemmas.Bool.Decides.{nat_tests}
use Rattle.noise_explain.proofs.FrameLemmas.{start-whole}
use Rattle.noise_explain.proofs.excerpt.push_start.Goals as goal

pub returns-then-is_empty : goal.returns-then-is_empty
returns-then-is_empty c =
    let short : length c.args.bytes.now ≤ 64 =
    grind (arith, nat_tests, c.is_empty.ensures, c.if-is_empty.true, c.split_at.ensures.back_len, c.min.ensures) in
    start-whole c.args.bytes.now _ _ _ c.min.result c.min.ensures c.split_at.ensures.front short c.in_ok-push_shown.ensures
