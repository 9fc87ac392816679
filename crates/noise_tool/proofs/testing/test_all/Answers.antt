use Rattle.std.proofs.Common.{rules, ◌≡◌, [], append-nil, map, string_bytes}
use Rattle.noise_tool.proofs.Common.{tested_names, tally_line}
use Rattle.noise_tool.proofs.TestingLemmas.{err-any, kept-begun, last-begun, none-begun}
use Rattle.noise_tool.proofs.testing.test_all.Goals as goal

pub returns-in_err-tally-clause-prefix : goal.returns-in_err-tally-clause-prefix
returns-in_err-tally-clause-prefix g c =
    err-any _ _ (none-begun c.args.traces (g.F.FilesByName.bytes_at c.args.files.now) (g.F.FilesByName.unreadable c.args.files.now)
    (tested_names (map string_bytes c.args.names.now)) [] (map string_bytes c.args.names.now) _ _ c.in_ok-passed.passed c.in_ok-passed.failed (append-nil _)
    c.in_ok-passed.ensures.tested)

pub returns-in_err-write-clause-prefix : goal.returns-in_err-write-clause-prefix
returns-in_err-write-clause-prefix g c =
    let text : c.as_bytes.result.now ≡ tally_line c.in_ok-passed.passed c.in_ok-passed.failed = search rules in
    err-any _ _ (last-begun c.args.traces (g.F.FilesByName.bytes_at c.args.files.now) (g.F.FilesByName.unreadable c.args.files.now)
    (map string_bytes c.args.names.now) _ _ _ c.in_ok-passed.passed c.in_ok-passed.failed c.as_bytes.result.now c.in_ok-passed.ensures.tested text
    c.write.ensures.prefix)

pub returns-in_err-flush-clause-prefix : goal.returns-in_err-flush-clause-prefix
returns-in_err-flush-clause-prefix g c =
    let text : c.as_bytes.result.now ≡ tally_line c.in_ok-passed.passed c.in_ok-passed.failed = search rules in
    err-any _ _ (kept-begun c.args.traces (g.F.FilesByName.bytes_at c.args.files.now) (g.F.FilesByName.unreadable c.args.files.now)
    (map string_bytes c.args.names.now) _ _ _ _ c.in_ok-passed.passed c.in_ok-passed.failed c.as_bytes.result.now c.in_ok-passed.ensures.tested text
    c.in_ok-write.ensures.written c.flush.ensures.unchanged)
