use Rattle.std.proofs.Common.{◌≡◌, ◌≤◌, ◌*◌, ℕ, List, ◌++◌, drop}
use Rattle.noise_names.proofs.Common.{Plan, Place, token_places, has_psk, overhead_from}
use Rattle.noise_names.specs.Checking.{seen_of}
use Rattle.noise_names.proofs.seen.Seen.tokens_len.Given as goal

abbrev pub invariant-loop-token : goal.invariant-loop-token
invariant-loop-token l =
    (l.sum ≤ 48 * l.token-index)
    × ((earlier : List Place) (n : ℕ) → l.initial.self ≡ seen_of earlier →
    (done : List Place) × (l.self ≡ seen_of (earlier ++ done))
    × ((plan : Plan) → l.psk ≡ has_psk plan → l.sum ≡ overhead_from plan earlier done)
    × (done ++ token_places l.party n l.token-index (drop l.token-index l.tokens) ≡ token_places l.party n 0 l.tokens))
