use Rattle.std.proofs.Common.{◌≡◌, ◌∙◌, ℕ, Bool, true, false, List, Option, ap, option_copied, subst, sym}
use Rattle.noise_compare.specs.Differences.{IsFirstDifference, IsUnmatched, is_whole, rule_by}
use Rattle.noise_compare.specs.declared.difference.Rule.TheVariants.{InTurn, ByValues}
use Rattle.noise_compare.specs.declared.line.Line.{Line}
use Rattle.noise_compare.proofs.WalkLemmas.{disagrees, same-line}
use Rattle.noise_compare.proofs.difference.first_difference.Goals as goal

-- the line that is told, by the two that aren't matched
told : (right log : List Line) (i left : ℕ) (e : Option Line) (line : Line) (j of : ℕ) (f : Option Line) (turn : Line) (whole : Bool)
    → IsUnmatched ByValues right log i left e line → IsUnmatched InTurn right log j of f turn → is_whole right log turn ≡ whole
    → (index from : ℕ) (expected : Option Line) (it : Line) → IsUnmatched (rule_by whole) right log index from expected it
    → IsFirstDifference right log index from expected
told right log i left e line j of f turn whole values in_turn is index from expected it unmatched = record {
  differs = disagrees right log i line values.within values.line_is values.stops;
  turn = j;
  turn_left = of;
  turn_expected = f;
  turn_line = turn;
  in_turn = in_turn;
  line = it;
  unmatched = subst (λ (b : Bool). IsUnmatched (rule_by b) right log index from expected it) (sym is) unmatched;
}

pub returns-then-is_whole : goal.returns-then-is_whole
returns-then-is_whole c =
    let right = c.args.right.now in
    let log = c.args.log.now in
    let values = c.in-Some.ensures in
    let turn = c.in-Some-first_unmatched.ensures in
    let same = same-line log c.in-Some-first_unmatched.in_turn.index turn.0 c.index-log-in_turn.result turn.1.within turn.1.line_is c.index-log-in_turn.is in
    let whole : is_whole right log turn.0 ≡ true = ap (is_whole right log) same ∙ sym c.is_whole.ensures ∙ c.if-is_whole.true in
    told right log c.in-Some.by_values.index c.in-Some.by_values.left (option_copied c.in-Some.by_values.right) values.0
    c.in-Some-first_unmatched.in_turn.index c.in-Some-first_unmatched.in_turn.left (option_copied c.in-Some-first_unmatched.in_turn.right) turn.0
    true values.1 turn.1 whole _ _ _ turn.0 turn.1

pub returns : goal.returns
returns c =
    let right = c.args.right.now in
    let log = c.args.log.now in
    let values = c.in-Some.ensures in
    let turn = c.in-Some-first_unmatched.ensures in
    let same = same-line log c.in-Some-first_unmatched.in_turn.index turn.0 c.index-log-in_turn.result turn.1.within turn.1.line_is c.index-log-in_turn.is in
    let whole : is_whole right log turn.0 ≡ false = ap (is_whole right log) same ∙ sym c.is_whole.ensures ∙ c.if-is_whole.false in
    told right log c.in-Some.by_values.index c.in-Some.by_values.left (option_copied c.in-Some.by_values.right) values.0
    c.in-Some-first_unmatched.in_turn.index c.in-Some-first_unmatched.in_turn.left (option_copied c.in-Some-first_unmatched.in_turn.right) turn.0
    false values.1 turn.1 whole _ _ _ values.0 values.1
