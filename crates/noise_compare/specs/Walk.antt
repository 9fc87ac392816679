-- What a walk through a log leaves of the right lines.
use Rattle.std.specs.Prelude.{◌≡◌, ◌≤◌, ℕ, List, Option, Some, None, Result, MatchResult, drop, fold, length, if◌then◌else◌, option_copied, option_map}
use Rattle.std.specs.Borrow.{Bor}
use Rattle.noise_compare.specs.Differences.{after_match, beside, is_of_responder}
use Rattle.noise_compare.specs.declared.difference.Rule.{Rule}
use Rattle.noise_compare.specs.declared.line.Line.{Line}

-- the right lines of each role that are left to match with
pub record Left : Type 0 where
  pub initiator : List Line
  pub responder : List Line

abbrev pub both : List Line → List Line → Left
both initiator responder = record { initiator = initiator; responder = responder }

-- the right lines from these places on, of each role
abbrev pub left_from : List Line → ℕ → ℕ → Left
left_from right initiator responder = both (drop initiator right) (drop responder right)

-- those of the role of a logged line
abbrev pub left_for : Left → Line → List Line
left_for left logged = if is_of_responder logged then left.responder else left.initiator

abbrev pub left_after : Rule → Left → Line → Option Left
left_after rule left logged = if is_of_responder logged
    then option_map (λ more. both left.initiator more) (after_match rule logged left.responder)
    else option_map (λ more. both more left.responder) (after_match rule logged left.initiator)

-- where the lines that are left begin after a logged line, or the right line beside it, where it isn't matched
abbrev pub AreLeftAfter : Rule → List Line → Left → Line → Result (ℕ × ℕ) (Option (Bor Line)) → Type 0
AreLeftAfter rule right left logged result = MatchResult result
    (λ next. (next.0 ≤ length right) × (next.1 ≤ length right)
    × (left_after rule left logged ≡ Some (left_from right next.0 next.1)))
    (λ other. (left_after rule left logged ≡ None)
    × (option_copied other ≡ beside rule logged (left_for left logged)))

-- likewise for the lines of one role
abbrev pub AreLeftFrom : Rule → List Line → List Line → Line → Result ℕ (Option (Bor Line)) → Type 0
AreLeftFrom rule right left logged result = MatchResult result
    (λ next. (next ≤ length right) × (after_match rule logged left ≡ Some (drop next right)))
    (λ other. (after_match rule logged left ≡ None) × (option_copied other ≡ beside rule logged left))

abbrev pub left_after_logged : Rule → Option Left → Line → Option Left
left_after_logged rule None logged = None
left_after_logged rule (Some left) logged = left_after rule left logged

-- what is left of the right lines after all lines of a log, or None where one isn't matched
abbrev pub left_by : Rule → List Line → List Line → Option Left
left_by rule right log = fold (left_after_logged rule) (Some (both right right)) log
