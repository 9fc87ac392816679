-- What a party finds before a psk token without a psk.
use Rattle.std.proofs.Common.{ℕ, ◌<◌, List}
use Rattle.noise_handshake.proofs.Common.{Option, Result, Ok, Err, MatchOption, MatchResult, Agreement, Party, Listens, Refuses, Stops, reader, tokens_now, StopsFor, WantsToRead, BeginsBefore}
use Rattle.noise_handshake.specs.declared.stop.Stop.{Stop}
use Rattle.noise_handshake.proofs.Wanted.{wants-of}

-- for a party that listens
pub before-of : (v : Party) (m : List ℕ) (k : ℕ) (o : Result (Option (List ℕ)) Stop) → Listens v
    → MatchResult o (λ remote. BeginsBefore (reader v) v.remote v.psks v.state (tokens_now v) m k remote)
    (λ stop. (stop.token < k) × Stops (reader v) v.remote v.psks v.state (tokens_now v) m stop.token stop.cause × MatchOption stop.want
    ((j : ℕ) → Stops (reader v) v.remote v.psks v.state (tokens_now v) m j Agreement → ⊥)
    (λ want. StopsFor (reader v) v.remote v.psks v.state (tokens_now v) m want.0 want.1))
    → MatchResult o (λ remote. BeginsBefore (reader v) v.remote v.psks v.state (tokens_now v) m k remote)
    (λ stop. (stop.token < k) × Refuses v m stop.token stop.cause × MatchOption stop.want
    ((j : ℕ) → Refuses v m j Agreement → ⊥) (λ want. WantsToRead v m want.0 want.1))
before-of v m k (Ok remote) l h = h
before-of v m k (Err stop) l h = (h.0, record { listens = l; stops = h.1 }, wants-of v m stop.want l h.2)
