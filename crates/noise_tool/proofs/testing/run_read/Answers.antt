use Rattle.noise_tool.proofs.TestingLemmas.{runs-traced, runs-untraced, start-fault, start-read}
use Rattle.noise_tool.proofs.testing.run_read.Goals as goal

pub returns-then-traces-clause-runs : goal.returns-then-traces-clause-runs
returns-then-traces-clause-runs c =
    runs-traced c.args.traces c.args.text.now c.args.vector c.trace_text.result c.requires.right c.requires.text
    c.trace_text.ensures.lines c.trace_text.ensures.expected

pub returns-else-traces-clause-runs : goal.returns-else-traces-clause-runs
returns-else-traces-clause-runs c =
    runs-untraced c.args.traces c.args.text.now c.args.vector c.untraced.result c.if-traces.false
    c.requires.right c.requires.text c.untraced.ensures.lines c.untraced.ensures.expected

pub returns-else-traces-clause-fault : goal.returns-else-traces-clause-fault
returns-else-traces-clause-fault c =
    start-fault c.args.text.now c.args.vector c.untraced.result c.requires.right c.requires.text c.untraced.ensures.fault

pub returns-else-traces-clause-read : goal.returns-else-traces-clause-read
returns-else-traces-clause-read c = start-read c.args.vector c.untraced.result c.untraced.ensures.fault
