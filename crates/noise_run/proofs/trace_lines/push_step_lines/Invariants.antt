use Rattle.std.proofs.Common.{◌≡◌, ◌++◌, drop}
use Rattle.noise_run.proofs.Common.{bytes_of, step_lines_from}
use Rattle.noise_run.proofs.trace_lines.push_step_lines.Given as goal

-- the lines so far, and those that are left
abbrev pub invariant-loop-number : goal.invariant-loop-number
invariant-loop-number l =
    bytes_of l.lines.items ++ step_lines_from l.about l.message l.number (drop l.number l.steps)
    ≡ bytes_of l.fn.lines.items ++ step_lines_from l.about l.message 0 l.steps
