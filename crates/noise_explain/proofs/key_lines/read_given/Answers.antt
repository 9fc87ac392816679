use Rattle.std.proofs.Common.{◌<◌, arith, length, sym, subst, List, []}
use Rattle.noise_explain.specs.KeyLines.{AreLines, IsRead, none}
use Rattle.noise_explain.specs.declared.values.Given.{Given}
use Rattle.noise_explain.proofs.KeyLineLemmas.{after-nothing, after-value, lines-right, wrong-file}
use Rattle.noise_explain.proofs.key_lines.read_given.Goals as goal
use Rattle.noise_explain.proofs.key_lines.read_given.Goals.{in-Nothing, in-Value+in_ok-push_given-in-Value}

pub loop-i-init : goal.loop-i-init
loop-i-init c = subst (λ (given : List Given). AreLines c.in_ok-places.places.items [] given) (sym c.new-given.ensures.items) none

pub returns-in-Wrong-clause-fault : goal.returns-in-Wrong-clause-fault
returns-in-Wrong-clause-fault c =
    let within : c.loop-i.i < length c.in_ok-lines.lines.items = omega (arith, c.loop-i-test.true, c.len-i-end.ensures, c.in_ok-lines.lines.ok.0) in
    wrong-file c.args.pattern.now c.args.text.now c.in_ok-places.places.items c.in_ok-lines.lines.items c.loop-i.i c.index.result.now c.loop-i.given.items
    c.in_ok-read_line.field-0 c.in-Wrong.why c.in_ok-places.ensures c.in_ok-lines.ensures within c.index.ensures c.loop-i.invariant
    (rw (c.deref.ensures.value, c.deref-in-loop-i.ensures.value) at c.in_ok-read_line.ensures) c.in-Wrong.is

pub loop-i-preserved : goal.loop-i-preserved
loop-i-preserved c =
    let within : c.loop-i.i < length c.in_ok-lines.lines.items = omega (arith, c.loop-i-test.true, c.len-i-end.ensures, c.in_ok-lines.lines.ok.0) in
    let read : IsRead c.in_ok-places.places.items c.loop-i.given.items c.index.result.now.now c.in_ok-read_line.field-0 =
    rw (c.deref.ensures.value, c.deref-in-loop-i.ensures.value) at c.in_ok-read_line.ensures in
    elim c.match-branch-4.branch [
      | in-Nothing w ↦ rw w.given-is
          (after-nothing c.in_ok-places.places.items c.in_ok-lines.lines.items c.loop-i.i c.index.result.now c.loop-i.given.items c.in_ok-read_line.field-0 within
          c.index.ensures c.loop-i.invariant read w.in-Nothing.is)
      | in-Value+in_ok-push_given-in-Value w ↦
          after-value c.in_ok-places.places.items c.in_ok-lines.lines.items c.loop-i.i c.index.result.now c.loop-i.given.items c.in_ok-read_line.field-0
          w.in-Value.one c.match-branch-4.given.items within c.index.ensures c.loop-i.invariant read w.in-Value.is (rw w.given-is w.in_ok-push_given-in-Value.ensures)
    ]

pub returns-clause-right : goal.returns-clause-right
returns-clause-right c = lines-right c.in_ok-places.places.items _ c.loop-i.given.items c.loop-i.invariant
