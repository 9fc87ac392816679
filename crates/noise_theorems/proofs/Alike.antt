-- What two ends of equal setup start from.
use Rattle.std.proofs.Common.{rules, ◌≡◌, ℕ, List, Option}
use Rattle.noise_theorems.proofs.Common.{Role, Plan, Own, setup_fault, EndState, EndValue, IsReportedBy, progress, role_of}
use Rattle.noise_handshake.specs.declared.remote.Remote.{Remote}

-- an end that reports what a state says is of its party's role
pub role-reported : {K : Type 0} (e : EndValue K) (v : EndState) → IsReportedBy v e → role_of (progress e) ≡ v.party.role
role-reported e v reported = search rules

pub fault-same : (role : Role) (own : Own → Option (List ℕ)) (plan other : Plan) (remote known : Remote) (n : ℕ)
    → plan ≡ other → remote ≡ known → setup_fault plan role own remote n ≡ setup_fault other role own known n
fault-same role own plan other remote known n a c = search
