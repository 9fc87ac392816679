use Rattle.std.proofs.Common.{◌≡◌, ◌+◌, ◌++◌, drop, map}
use Rattle.noise_compare.specs.Reading.{lines_from, views, wrong_from}
use Rattle.noise_compare.proofs.log.read_log.Given as goal

-- the lines so far, and those that are still to come, among which is the first that is wrong, if one is
abbrev pub invariant-loop-index : goal.invariant-loop-index
invariant-loop-index l = (views l.lines.items ++ lines_from (l.index + 1) (map (λ t. t.now) (drop l.index l.text-items))
    ≡ lines_from 1 (map (λ t. t.now) l.text-items))
    × (wrong_from (l.index + 1) (map (λ t. t.now) (drop l.index l.text-items)) ≡ wrong_from 1 (map (λ t. t.now) l.text-items))
