use Rattle.std.proofs.Common.{◌≡◌, List, ◌++◌, drop, Ok}
use Rattle.noise_names.proofs.Common.{Place, token_places, Walks}
use Rattle.noise_names.proofs.seen.Seen.walk_tokens.Given as goal

abbrev pub invariant-loop-token : goal.invariant-loop-token
invariant-loop-token l =
    (l.index ≡ l.token-index)
    × (done : List Place) × Walks l.initial.self l.self done (Ok tt)
    × (done ++ token_places l.party l.message l.index (drop l.token-index l.tokens) ≡ token_places l.party l.message 0 l.tokens)
