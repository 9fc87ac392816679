use Rattle.std.proofs.Common.{◌≡◌, ◌<◌, ◌≤◌, ◌++◌, ◌-◌, ◌⊎◌, inl, inr, length, take, arith, List, ℕ}
use Rattle.std.proofs.lemmas.Bool.Decides.{Decides-eqb}
use Rattle.std.proofs.lemmas.Slice.Eq.{ends_is}
use Rattle.noise_lines.specs.Faults.{status_of}
use Rattle.noise_explain.specs.Corrections.{IsBehind}
use Rattle.noise_explain.proofs.CorrectionLemmas.{later-first}
use Rattle.noise_explain.proofs.judged.left_if_later.Goals.{then-is_behind-via-then-is_behind, then-is_behind-via-else-is_behind+then-ends_with}
use Rattle.noise_explain.proofs.judged.left_if_later.Goals as goal

pub returns-then-is_behind : goal.returns-then-is_behind
returns-then-is_behind c =
    let had : List ℕ = c.left_from-had.result.now in
    let has : List ℕ = c.left_from-left.result.now in
    let status : status_of c.args.later.fault ≤ status_of c.args.found.fault = omega (arith, c.if-status.false, c.status.ensures, c.status-2.ensures) in
    let short : length has < length had = c.is_shorter.ensures c.if-not-is_shorter.false in
    let moved : IsBehind c.args.later.position c.args.found.position ⊎ (had ≡ take (length had - length has) had ++ has) =
    elim c.then-is_behind.branch [
      | then-is_behind-via-then-is_behind w ↦ inl (c.is_behind.ensures w.if-is_behind.true)
      | then-is_behind-via-else-is_behind+then-ends_with w ↦ inr ((ends_is Decides-eqb had has w.ends_with.result w.ends_with.ensures.value).0 w.if-ends_with.true)
    ] in
    record {
      later = later-first c.args.text.now c.args.other.now had has _ _ _ _ c.requires.first c.requires.other_first status c.left_from-had.ensures
          c.left_from-left.ensures short moved;
    }
