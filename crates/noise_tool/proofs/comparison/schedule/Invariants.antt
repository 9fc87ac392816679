use Rattle.std.proofs.Common.{◌≡◌, map, take}
use Rattle.noise_tool.proofs.Common.{traces_of, bytes_of}
use Rattle.noise_compare.specs.Lines.{words_in, line_words}
use Rattle.noise_tool.specs.Comparing.{schedule_of}
use Rattle.noise_tool.proofs.comparison.schedule.Given as goal

-- the lines of the start, and those of the run so far
abbrev pub invariant-loop-trace : goal.invariant-loop-trace
invariant-loop-trace l = map words_in l.lines.items
    ≡ map line_words (schedule_of (bytes_of l.traced.start.items) (traces_of (take l.trace-index l.traced.traces.items)))
