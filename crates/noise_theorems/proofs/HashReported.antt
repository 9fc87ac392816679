-- The hash that two ends report after the lines of a conversation.
use Rattle.std.proofs.Common.{rules, ◌≡◌, ℕ, List, length}
use Rattle.std.specs.Prelude.{Some, None}
use Rattle.noise_theorems.proofs.Common.{nat_le, if◌then◌else◌, Role, Plan, SymmetricState, session_hash, end_after, Start}

-- an end after lines reports the hash exactly if there is a line for each handshake message
pub hash-reported : (p : Plan) (role : Role) (s theirs : Start) (interval : ℕ) (r : SymmetricState) (lines : List (Role × List ℕ))
    → session_hash (end_after p role s theirs interval r lines) ≡ (if nat_le (length p.messages) (length lines) then Some r.hash else None)
hash-reported p role s theirs interval r lines = search rules
