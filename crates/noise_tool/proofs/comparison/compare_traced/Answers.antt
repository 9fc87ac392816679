use Rattle.std.proofs.Common.{refl, sym}
use Rattle.noise_tool.proofs.Common.{traces_of, bytes_of}
use Rattle.noise_tool.proofs.DocumentLemmas.{finding-of}
use Rattle.noise_tool.proofs.comparison.compare_traced.Goals as goal

pub returns-in-Ok-clause-made : goal.returns-in-Ok-clause-made
returns-in-Ok-clause-made c = λ file runs are_facts. record {
  logged = c.in-Ok.lines.items;
  logged_are = rw (c.deref-2.ensures.value, c.in_ok-plain.ensures, c.deref.ensures.value, c.in_ok-whole.ensures) at c.in-Ok.ensures.lines;
  right = c.in_ok-right.right.items;
  right_are = record {
    file = runs.file;
    is_right = runs.right;
    text_is = runs.text_is;
    lines = bytes_of c.args.traced.now.outcome.lines.items;
    start = bytes_of c.args.traced.now.start.items;
    traces = traces_of c.args.traced.now.traces.items;
    shown = runs.shown refl;
    words_are = c.in_ok-right.ensures;
  };
  facts = c.args.facts.now;
  facts_are = are_facts;
  compared = c.in_ok-report-in-Ok.report.text.items;
  reported = rw (c.deref-in-Ok.ensures.value, c.deref-in-Ok-2.ensures.value, sym c.in_ok-with_others-in-Ok.ensures.finding) at c.in_ok-report-in-Ok.ensures;
  known = c.in_ok-known-in-Ok.known.items;
  listed = rw (c.deref-in-Ok-4.ensures.value, c.deref-in-Ok-5.ensures.value) at c.in_ok-known-in-Ok.ensures;
  text_is = rw (c.deref-in-Ok-8.ensures.value, c.saturating_sub-others.ensures, c.in_ok-written_lines-in-Ok.ensures, c.deref-in-Ok-3.ensures.value, c.in_ok-whole.ensures, c.len.ensures, c.in-Ok.lines.ok.0) at c.in_ok-with_others-in-Ok.ensures.text;
}

pub found_facts-requires : goal.found_facts-requires
found_facts-requires c = record {
  found = rw (c.deref-in-Ok-6.ensures.value, c.deref-in-Ok-7.ensures.value)
      (finding-of c.args.facts.now c.in_ok-right.right.items c.in-Ok.lines.items c.in_ok-report-in-Ok.report.finding c.in_ok-report-in-Ok.report.text.items
      (rw (c.deref-in-Ok.ensures.value, c.deref-in-Ok-2.ensures.value) at c.in_ok-report-in-Ok.ensures));
}

pub returns-in-Ok-clause-facts : goal.returns-in-Ok-clause-facts
returns-in-Ok-clause-facts c = λ file runs. record {
  logged = c.in-Ok.lines.items;
  logged_are = rw (c.deref-2.ensures.value, c.in_ok-plain.ensures, c.deref.ensures.value, c.in_ok-whole.ensures) at c.in-Ok.ensures.lines;
  right = c.in_ok-right.right.items;
  right_are = record {
    file = runs.file;
    is_right = runs.right;
    text_is = runs.text_is;
    lines = bytes_of c.args.traced.now.outcome.lines.items;
    start = bytes_of c.args.traced.now.start.items;
    traces = traces_of c.args.traced.now.traces.items;
    shown = runs.shown refl;
    words_are = c.in_ok-right.ensures;
  };
  are_facts = rw (c.deref-in-Ok-6.ensures.value, c.deref-in-Ok-7.ensures.value, sym c.in_ok-with_others-in-Ok.ensures.finding) at c.in_ok-found-in-Ok.ensures.facts;
}
