use Rattle.std.proofs.Common.{rules, ◌≡◌, ◌∷◌, [], ◌≤◌, refl, length}
use Rattle.noise_lines.proofs.OutputLemmas.{feed-cut, line-cut, line-written, lines-written}
use Rattle.noise_lines.proofs.PrefixLemmas.{prefix-whole}
use Rattle.noise_lines.proofs.output.write_lines.Goals as goal

pub returns-in_err-write-clause-prefix : goal.returns-in_err-write-clause-prefix
returns-in_err-write-clause-prefix g c =
    let lines = c.args.lines.now in
    line-cut lines lines c.loop-line.line-index c.line-item.result c.deref.result.now _ _ _ refl c.loop-line-test.true c.line-item.is
    c.deref.ensures.value c.loop-line.invariant c.write.ensures.prefix

pub returns-in_err-write-2-clause-prefix : goal.returns-in_err-write-2-clause-prefix
returns-in_err-write-2-clause-prefix g c =
    let lines = c.args.lines.now in
    let feed : c.as_slice.result.now ≡ 10 ∷ [] = search rules in
    feed-cut lines lines c.loop-line.line-index c.line-item.result c.deref.result.now c.as_slice.result.now _ _ _ _ refl c.loop-line-test.true
    c.line-item.is c.deref.ensures.value feed c.loop-line.invariant c.in_ok-write.ensures.written c.write-in-loop-line.ensures.prefix

pub loop-line-preserved : goal.loop-line-preserved
loop-line-preserved g c =
    let lines = c.args.lines.now in
    let feed : c.as_slice.result.now ≡ 10 ∷ [] = search rules in
    line-written lines lines c.loop-line.line-index c.line-item.result c.deref.result.now c.as_slice.result.now _ _ _ _ refl c.loop-line-test.true
    c.line-item.is c.deref.ensures.value feed c.loop-line.invariant c.in_ok-write.ensures.written c.in_ok-write-2.ensures.written

pub returns-clause-written : goal.returns-clause-written
returns-clause-written g c =
    let lines = c.args.lines.now in
    let all : length lines ≤ c.loop-line.line-index = search rules in
    lines-written lines lines c.loop-line.line-index _ _ refl all c.loop-line.invariant

pub returns-clause-prefix : goal.returns-clause-prefix
returns-clause-prefix g c =
    let lines = c.args.lines.now in
    let all : length lines ≤ c.loop-line.line-index = search rules in
    prefix-whole _ _ _ (lines-written lines lines c.loop-line.line-index _ _ refl all c.loop-line.invariant)
