use Rattle.noise_channel.proofs.Agreeing.{finished-agree}
use Rattle.noise_channel.proofs.laws.finished_agree.Goals as goal

pub returns : goal.returns
returns c p a b ps qs v w interval h =
    finished-agree c.outgoing_is_incoming.ensures c.prefix_or_forged.ensures c.history_follows.ensures c.finished_is_one.ensures p a b ps qs v w interval h
