-- A refusal is determined.
use Rattle.std.proofs.Common.{rules, ◌≡◌, ℕ, suc, ◌<◌, List, take, sym, subst, arith, take-take}
use Rattle.noise_handshake.proofs.Common.{Token, SymmetricState, Remote, Cause, Party, Reader, reader, CanBegin, Stops, Accepts, Refuses, tokens_now}
use Rattle.noise_handshake.proofs.Apart.{front-apart, reads-leads, stops-not}

not-earlier : (v : Reader) (known : Remote) (psks : List (List ℕ)) (r : SymmetricState) (ts : List Token) (m : List ℕ) (k j : ℕ) (c d : Cause)
    → Stops v known psks r ts m k c → Stops v known psks r ts m j d → k < j → ⊥
not-earlier v known psks r ts m k j c d a b h =
    a.further (omega (arith, h, b.within))
    (subst (λ (us : List Token). CanBegin v known psks r us m) (take-take (suc k) j ts (omega (arith, h)))
    (reads-leads v known psks r (take j ts) b.carried m b.rest (suc k) b.leads))

pub same-place : (k j : ℕ) → (k < j → ⊥) → (j < k → ⊥) → k ≡ j
same-place k j f g = grind arith

same-cause : (v : Reader) (known : Remote) (psks : List (List ℕ)) (r : SymmetricState) (ts : List Token) (m : List ℕ) (k : ℕ) (c d : Cause)
    → Stops v known psks r ts m k c → Stops v known psks r ts m k d → c ≡ d
same-cause v known psks r ts m k c d a b = search (rules, front-apart)

pub stops-one : (v : Reader) (known : Remote) (psks : List (List ℕ)) (r : SymmetricState) (ts : List Token) (m : List ℕ) (k j : ℕ) (c d : Cause)
    → Stops v known psks r ts m k c → Stops v known psks r ts m j d → (k ≡ j) × (c ≡ d)
stops-one v known psks r ts m k j c d a b =
    let e : k ≡ j = same-place k j (not-earlier v known psks r ts m k j c d a b) (not-earlier v known psks r ts m j k d c b a) in
    (e, same-cause v known psks r ts m k c d a (subst (λ (i : ℕ). Stops v known psks r ts m i d) (sym e) b))

-- one token and one cause
pub refuses-one : (v : Party) (m : List ℕ) (k j : ℕ) (c d : Cause) → Refuses v m k c → Refuses v m j d → (k ≡ j) × (c ≡ d)
refuses-one v m k j c d a b = stops-one (reader v) v.remote v.psks v.state (tokens_now v) m k j c d a.stops b.stops

-- what is accepted isn't refused
pub accepts-or : (v : Party) (m : List ℕ) (xs : List (List ℕ)) (p : List ℕ) (k : ℕ) (c : Cause) → Accepts v m xs p → Refuses v m k c → ⊥
accepts-or v m xs p k c a b = stops-not (reader v) v.remote v.psks v.state (tokens_now v) m k c xs p b.stops a.reads
