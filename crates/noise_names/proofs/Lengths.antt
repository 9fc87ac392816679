-- The overhead of a message, from what is kept of the places before it.
use Rattle.std.proofs.Common.{rules, ◌≡◌, ℕ, ◌+◌, Bool, true, false, cond, ◌&&◌, ◌||◌, List, [], ◌∷◌, ◌++◌, refl, ap, append_assoc, append-nil, arith}
use Rattle.noise_names.proofs.Common.{Role, Initiator, Responder, E, S, Ee, Es, Se, Ss, Psk, Seen, same_role, Plan, Step, does, payload, transport, Place, has_psk, is_among, occurs, has_key, added_len, overhead_from, key_by, added_by}
use Rattle.noise_names.specs.Checking.{seen_of}

by_party : (party : Role) (x a b : Bool) → x || (a || b) ≡ ((x && same_role party Initiator) || a) || ((x && same_role party Responder) || b)
by_party Initiator true a b = refl
by_party Initiator false a b = refl
by_party Responder true true b = refl
by_party Responder true false b = refl
by_party Responder false a b = refl

-- an e is of either party
occurs-e : (places : List Place) → occurs E places ≡ is_among Initiator E places || is_among Responder E places
occurs-e [] = refl
occurs-e (p ∷ places) = search (by_party, (occurs-e places))

pub key_by-seen_of : (plan : Plan) (earlier : List Place) → key_by (seen_of earlier) (has_psk plan) ≡ has_key plan earlier
unfolding seen_of
key_by-seen_of plan earlier = search occurs-e

-- what is kept reports what a place adds
pub added_by-seen_of : (plan : Plan) (earlier : List Place) (step : Step) → added_by (seen_of earlier) (has_psk plan) step ≡ added_len plan earlier step
added_by-seen_of plan earlier (does E) = refl
added_by-seen_of plan earlier (does S) = ap (λ (b : Bool). 32 + cond b 16 0) (key_by-seen_of plan earlier)
added_by-seen_of plan earlier (does Ee) = refl
added_by-seen_of plan earlier (does Es) = refl
added_by-seen_of plan earlier (does Se) = refl
added_by-seen_of plan earlier (does Ss) = refl
added_by-seen_of plan earlier (does Psk) = refl
added_by-seen_of plan earlier payload = ap (λ (b : Bool). cond b 16 0) (key_by-seen_of plan earlier)
added_by-seen_of plan earlier transport = refl

-- some places and then others
pub overhead_from-append : (plan : Plan) (earlier ps qs : List Place) →
    overhead_from plan earlier (ps ++ qs) ≡ overhead_from plan earlier ps + overhead_from plan (earlier ++ ps) qs
overhead_from-append plan earlier [] qs = rw (append-nil earlier) (omega arith)
overhead_from-append plan earlier (p ∷ ps) qs =
    let next : List Place = earlier ++ p ∷ [] in
    let more : overhead_from plan next (ps ++ qs) ≡ overhead_from plan next ps + overhead_from plan (next ++ ps) qs =
    search ((overhead_from-append plan next ps qs)) in
    let same : overhead_from plan (next ++ ps) qs ≡ overhead_from plan (earlier ++ p ∷ ps) qs = search append_assoc in
    joined (added_len plan earlier p.step) _ _ _ _ more same where
      joined : (here a b c d : ℕ) → a ≡ b + c → c ≡ d → here + a ≡ (here + b) + d
      joined here a b c d e f = omega arith

-- one place more
pub sum-more : (plan : Plan) (earlier done : List Place) (seen : Seen) (psk : Bool) (p : Place) (sum more : ℕ) →
    seen ≡ seen_of (earlier ++ done) → psk ≡ has_psk plan → sum ≡ overhead_from plan earlier done → more ≡ added_by seen psk p.step →
    sum + more ≡ overhead_from plan earlier (done ++ p ∷ [])
sum-more plan earlier done seen psk p sum more e f g h = search (rules, added_by-seen_of, overhead_from-append)
