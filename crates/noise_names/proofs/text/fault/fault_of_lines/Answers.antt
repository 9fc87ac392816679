use Rattle.std.proofs.Common.{rules}
use Rattle.noise_names.proofs.FirstFaults.{right-start, next-right, line-fault, cut-fault, all-fault}
use Rattle.noise_names.proofs.Reading.{differ_from_test, equal_from_test}
use Rattle.noise_names.proofs.text.fault.fault_of_lines.Goals as goal

pub loop-rest-init : goal.loop-rest-init
loop-rest-init c = right-start c.args.places.now c.args.lines.now _ c.new-judged.ensures

pub returns-in-Err : goal.returns-in-Err
returns-in-Err c = record {
  fault =
      λ s h same.
      let r = c.loop-rest.invariant in
      line-fault c.args.places.now s c.args.lines.now c.loop-rest.rest.now c.first_line-line.result.bytes.now c.loop-rest.number c.loop-rest.judged c.in-Err.kind
      c.fault.result h same r (differ_from_test _ _ 0 c.is_empty.ensures c.loop-rest-test.true) c.first_line-line.ensures.bytes
      (c.in-Err.ensures r.passed _ r.matches r.are) c.fault.ensures;
}

pub returns-then-not-line : goal.returns-then-not-line
returns-then-not-line c = record {
  fault =
      λ s h same.
      let r = c.loop-rest.invariant in
      cut-fault c.args.places.now s c.args.lines.now c.loop-rest.rest.now c.first_line-line.result.bytes.now c.first_line-line.result.after.now
      c.first_line-line.result.ended c.loop-rest.number c.loop-rest.judged c.in-Ok.judged c.fault-then-not-line.result h same r
      (differ_from_test _ _ 0 c.is_empty.ensures c.loop-rest-test.true) c.first_line-line.ensures.bytes c.first_line-line.ensures.whole c.if-not-line.true
      (c.in-Ok.ensures r.passed _ r.matches r.are) c.fault-then-not-line.ensures;
}

pub loop-rest-preserved : goal.loop-rest-preserved
loop-rest-preserved c =
    let r = c.loop-rest.invariant in
    next-right c.args.places.now c.args.lines.now c.loop-rest.rest.now c.first_line-line.result.bytes.now c.first_line-line.result.after.now
    c.first_line-line.result.ended c.loop-rest.number c.loop-rest.judged c.in-Ok.judged r c.first_line-line.ensures.bytes c.first_line-line.ensures.whole
    c.if-not-line.false (c.in-Ok.ensures r.passed _ r.matches r.are)

pub returns : goal.returns
returns c = record {
  fault =
      search (rules, all-fault, equal_from_test);
}
