use Rattle.std.proofs.Common.{◌≡◌, ◌++◌, map, take}
use Rattle.noise_compare.specs.Lines.{words_in, line_words}
use Rattle.noise_compare.proofs.log.push_schedule.Given as goal

-- the lines so far are those of these texts
abbrev pub invariant-loop-index : goal.invariant-loop-index
invariant-loop-index l = map words_in l.lines.items
    ≡ map words_in l.initial.lines.items ++ map line_words (map (λ t. t.items) (take l.index l.texts))
