use Rattle.std.proofs.Common.{rules}
use Rattle.noise_keys.specs.TokenPlaces.{found-after, matches-places_of}
use Rattle.noise_keys.proofs.key_tokens.sends.Goals as goal

pub returns : goal.returns
returns c = search (rules, found-after, matches-places_of)
