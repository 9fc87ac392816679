use Rattle.std.proofs.Common.{◌∙◌, sym}
use Rattle.noise_tool.proofs.TestingLemmas.{start-fault, start-read}
use Rattle.noise_tool.proofs.trace_file.trace_text.Goals as goal

pub trace-requires : goal.trace-requires
trace-requires c = record {
  same = c.vector_texts_are_unique.ensures c.args.file c.in_ok-again.again c.requires.right c.in_ok-again.ensures.right
      (sym c.requires.text ∙ c.in_ok-again.ensures.text);
}

pub returns-clause-fault : goal.returns-clause-fault
returns-clause-fault c = start-fault c.args.text.now c.args.file c.trace.result c.requires.right c.requires.text c.trace.ensures.fault

pub returns-clause-read : goal.returns-clause-read
returns-clause-read c = start-read c.args.file c.trace.result c.trace.ensures.fault
