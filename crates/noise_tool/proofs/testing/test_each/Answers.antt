use Rattle.std.proofs.Common.{arith, ◌+◌, ℕ, List, map, string_bytes, take}
use Rattle.noise_tool.proofs.Common.{tested_names}
use Rattle.noise_tool.proofs.TestingLemmas.{asked-at, asked-here, err-any, failed-more, named-here, none-begun, one-begun, others-at, passed-more}
use Rattle.noise_tool.proofs.testing.test_each.Goals.{then-met, else-met}
use Rattle.noise_tool.proofs.testing.test_each.Goals as goal

pub loop-name-preserved : goal.loop-name-preserved
loop-name-preserved g c =
    let i = c.loop-name.name-index in
    let names = c.args.names.now in
    let name = c.as_str-name.result.now in
    let again = c.is_again-again.result in
    let before : List (List ℕ) = map string_bytes (take i names) in
    let all : List (List ℕ) = map string_bytes (take (i + 1) names) in
    let asked_is = asked-here names i c.name-item.result name again c.loop-name.named c.loop-name-test.true c.name-item.is
    c.as_str-name.ensures.value c.loop-name.invariant.2 c.is_again-again.ensures in
    let named_is = named-here names i c.name-item.result name c.loop-name.named c.is_named-named.result c.loop-name-test.true c.name-item.is
    c.as_str-name.ensures.value c.loop-name.invariant.2 c.is_named-named.ensures in
    elim c.if-met.branch [
      | then-met w ↦ (
        omega (arith, w.passed-is, w.failed-is, c.loop-name.invariant.0),
        rw (w.passed-is, w.failed-is) (passed-more c.args.traces (g.F.FilesByName.bytes_at c.args.files.now) (g.F.FilesByName.unreadable c.args.files.now)
            (tested_names before) (tested_names all) name again _ _ _ c.loop-name.passed c.loop-name.failed c.in_ok-text.met asked_is w.if-met.true
            c.loop-name.invariant.1 _ c.in_ok-text.ensures.tested c.in_ok-write_text.ensures.written),
        named_is,
      )
      | else-met w ↦ (
        omega (arith, w.passed-is, w.failed-is, c.loop-name.invariant.0),
        rw (w.passed-is, w.failed-is) (failed-more c.args.traces (g.F.FilesByName.bytes_at c.args.files.now) (g.F.FilesByName.unreadable c.args.files.now)
            (tested_names before) (tested_names all) name again _ _ _ c.loop-name.passed c.loop-name.failed c.in_ok-text.met asked_is w.if-met.false
            c.loop-name.invariant.1 _ c.in_ok-text.ensures.tested c.in_ok-write_text.ensures.written),
        named_is,
      )
    ]

pub returns-in_err-text-clause-prefix : goal.returns-in_err-text-clause-prefix
returns-in_err-text-clause-prefix g c =
    let i = c.loop-name.name-index in
    let names = c.args.names.now in
    let name = c.as_str-name.result.now in
    let again = c.is_again-again.result in
    let asked_is = asked-here names i c.name-item.result name again c.loop-name.named c.loop-name-test.true c.name-item.is
    c.as_str-name.ensures.value c.loop-name.invariant.2 c.is_again-again.ensures in
    err-any _ _ (none-begun c.args.traces (g.F.FilesByName.bytes_at c.args.files.now) (g.F.FilesByName.unreadable c.args.files.now)
    (tested_names (map string_bytes (take i names))) _ (map string_bytes names) _ _ c.loop-name.passed c.loop-name.failed
    (asked-at names i name again asked_is) c.loop-name.invariant.1)

pub returns-in_err-write_text-clause-prefix : goal.returns-in_err-write_text-clause-prefix
returns-in_err-write_text-clause-prefix g c =
    let i = c.loop-name.name-index in
    let names = c.args.names.now in
    let name = c.as_str-name.result.now in
    let again = c.is_again-again.result in
    let asked_is = asked-here names i c.name-item.result name again c.loop-name.named c.loop-name-test.true c.name-item.is
    c.as_str-name.ensures.value c.loop-name.invariant.2 c.is_again-again.ensures in
    err-any _ _ (one-begun c.args.traces (g.F.FilesByName.bytes_at c.args.files.now) (g.F.FilesByName.unreadable c.args.files.now)
    (tested_names (map string_bytes (take i names))) (others-at names (i + 1)) (map string_bytes names) name again _ _ _ c.loop-name.passed
    c.loop-name.failed _ c.in_ok-text.met (asked-at names i name again asked_is) c.loop-name.invariant.1 c.in_ok-text.ensures.tested
    c.write_text.ensures.prefix)
