use Rattle.std.proofs.Common.{rules}
use Rattle.noise_keys.specs.TokenPlaces.{found-after, matches-first}
use Rattle.noise_handshake.proofs.own_keys.was_sent.Goals as goal

pub returns : goal.returns
returns c = record { value = search (rules, found-after, matches-first) }
