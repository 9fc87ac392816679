use Rattle.noise_channel.proofs.Finishing.{finished-is-one}
use Rattle.noise_channel.proofs.laws.finished_is_one.Goals as goal

pub returns : goal.returns
returns c = finished-is-one c.keys_carried.ensures.written c.keys_carried.ensures.accepted c.history_follows.ensures c.hash_reports.ensures.keys
