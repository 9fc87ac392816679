use Rattle.std.proofs.Common.{rules}
use Rattle.noise_duel.proofs.Common.{slice_get-map, slice_get_past}
use Rattle.noise_duel.proofs.datagram_party.open_numbered.Goals as goal

pub returns-in-None : goal.returns-in-None
returns-in-None c s p = search (rules, slice_get_past, slice_get-map)
