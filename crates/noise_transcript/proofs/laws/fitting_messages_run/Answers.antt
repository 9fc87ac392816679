use Rattle.noise_transcript.proofs.Runs.{fitting-messages-run}
use Rattle.noise_transcript.proofs.laws.fitting_messages_run.Goals as goal

pub returns : goal.returns
returns c = fitting-messages-run (record {
  own = c.setup_is_whole.ensures.own;
  keys = c.tokens_match.ensures.keys;
  parts = c.alike_are_parts.ensures;
  come = c.messages_come_through.ensures.come;
  leave = c.messages_come_through.ensures.ends;
  can = c.messages_come_through.ensures.can;
  turns = c.fitting_messages_take_turns.ensures;
})
