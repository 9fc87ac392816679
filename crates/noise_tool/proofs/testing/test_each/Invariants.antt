use Rattle.std.proofs.Common.{◌≡◌, ◌+◌, false, map, take, string_bytes}
use Rattle.noise_tool.proofs.Common.{HaveTested, tested_names}
use Rattle.noise_tool.proofs.TestingLemmas.{named-after}
use Rattle.noise_tool.proofs.testing.test_each.Given as goal

-- so many files are tested, and standard input was named among them or not
abbrev pub invariant-loop-name : goal.invariant-loop-name
invariant-loop-name g l = (l.passed + l.failed ≡ l.name-index)
    × HaveTested l.traces (g.F.FilesByName.bytes_at l.files) (g.F.FilesByName.unreadable l.files) (tested_names (map string_bytes (take l.name-index l.names)))
    (g.O.Write.contents l.initial.out) (g.O.Write.contents l.out) l.passed l.failed
    × (l.named ≡ named-after false (map string_bytes (take l.name-index l.names)))
