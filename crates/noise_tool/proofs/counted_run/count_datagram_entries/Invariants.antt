use Rattle.std.proofs.Common.{◌+◌, ◌<◌, ◌^◌, ◌++◌, ℕ, List, length, take}
use Rattle.noise_names.specs.declared.token.Role.{Role}
use Rattle.noise_duel.specs.DatagramReports.{datagram_notes_of}
use Rattle.noise_explain.specs.RunCounts.{CountsRun}
use Rattle.noise_explain.specs.declared.run_counts.Act.{Act}
use Rattle.noise_tool.specs.Counting.{datagram_acts_in}
use Rattle.noise_tool.proofs.counted_run.count_datagram_entries.Given as goal

-- the acts of the entries so far are counted
abbrev pub invariant-loop-role : goal.invariant-loop-role
invariant-loop-role l = (messages : ℕ) (acts : List (Role × Act)) → length acts + length l.report.entries.items < 2 ^ 64
    → CountsRun messages acts l.fn.counts → CountsRun messages (acts ++ datagram_acts_in (datagram_notes_of (take l.role-index l.report.entries.items))) l.counts
