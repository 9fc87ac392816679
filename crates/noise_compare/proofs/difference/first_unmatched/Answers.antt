use Rattle.std.proofs.Common.{rules, ◌≡◌, ◌≤◌, ◌∙◌, List, Some, ap, drop, length, subst, sym, take}
use Rattle.std.proofs.lemmas.List.{take_all}
use Rattle.noise_compare.specs.Differences.{AreMatched, Stops, beside, is_of_responder, of_role}
use Rattle.noise_compare.specs.Walk.{left_by, left_for, left_from}
use Rattle.noise_compare.specs.declared.line.Line.{Line}
use Rattle.noise_compare.proofs.WalkLemmas.{left-from, place-within, stopped, walked-agrees, walked-all, walked-left}
use Rattle.noise_compare.proofs.difference.first_unmatched.Goals as goal

pub returns-in-Err : goal.returns-in-Err
returns-in-Err c =
    let rule = c.args.rule in
    let right = c.args.right.now in
    let before = take c.loop-index.index c.args.log.now in
    let left = left_from right c.loop-index.initiator c.loop-index.responder in
    let line = c.index-log-index.result in
    let of_line = of_role (is_of_responder line) before in
    let place = c.place_for-left.result in
    let same : left_for left line ≡ drop place right =
    left-from right c.loop-index.initiator c.loop-index.responder line ∙ ap (λ n. drop n right) (sym c.place_for-left.ensures) in
    let matched = walked-left rule right before left line c.loop-index.invariant.2 in (
      line,
      record {
        within = c.loop-index-test.true;
        left_within = place-within right c.loop-index.initiator c.loop-index.responder line place c.loop-index.invariant.0 c.loop-index.invariant.1 c.place_for-left.ensures;
        line_is = c.index-log-index.is;
        before = walked-agrees rule right before left c.loop-index.invariant.2;
        matched = walked-all rule right before left c.loop-index.invariant.2;
        left_are = subst (λ (lines : List Line). AreMatched rule of_line right lines) same matched;
        stops = subst (λ (lines : List Line). Stops rule of_line line right lines) same
            (stopped rule left line of_line right matched c.in-Err.ensures.value.0);
        expected_is = c.in-Err.ensures.value.1 ∙ ap (beside rule line) same;
      },
    )

pub returns : goal.returns
returns c =
    let right = c.args.right.now in
    let log = c.args.log.now in
    let past : length log ≤ c.loop-index.index = search rules in
    let left = left_from right c.loop-index.initiator c.loop-index.responder in
    walked-agrees c.args.rule right log left (subst (λ (lines : List Line). left_by c.args.rule right lines ≡ Some left) (take_all c.loop-index.index log past) c.loop-index.invariant.2)
