use Rattle.noise_channel.proofs.Agreeing.{channel-agrees}
use Rattle.noise_channel.proofs.laws.channel_agrees.Goals as goal

pub returns : goal.returns
returns c p a b ps qs v w interval h =
    channel-agrees c.outgoing_is_incoming.ensures c.prefix_or_forged.ensures c.history_follows.ensures c.hash_reports.ensures.keys p a b ps qs v w interval h
