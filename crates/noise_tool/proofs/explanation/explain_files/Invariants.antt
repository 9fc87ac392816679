use Rattle.std.proofs.Common.{map, take, string_bytes}
use Rattle.noise_tool.proofs.ExplainLemmas.{HasSaid}
use Rattle.noise_tool.proofs.explanation.explain_files.Given as goal

-- so many files are explained
abbrev pub invariant-loop-name : goal.invariant-loop-name
invariant-loop-name g l = HasSaid l.fixes (g.F.FilesByName.bytes_at l.files) (g.F.FilesByName.unreadable l.files)
    (map string_bytes (take l.name-index l.names)) l.text.items l.status
