-- The handshake that a key schedule follows.
use Rattle.std.proofs.Common.{◌≡◌, ℕ, List, Bool, false, sym, ap, subst, ◌∙◌}
use Rattle.std.specs.Prelude.{None, Some, IfSome, IsSome}
use Rattle.noise_trace.proofs.Common.{same_Some, Option, Party, Remote, Plan, Role, SymmetricState, E, S, Follows, going}
use Rattle.noise_keys.specs.declared.keys.Own.{Own}
use Rattle.noise_keys.specs.declared.keys.Own.TheVariants.{Ephemeral, Static}
use Rattle.noise_keys.specs.Keys.{KeyPairs}
use Rattle.noise_handshake.specs.HandshakeValue.{HandshakeValue}
use Rattle.noise_handshake.specs.Late.{IsLateWhole}
use Rattle.noise_handshake.specs.Matching.{Matches, party_of}
use Rattle.noise_handshake.specs.Setup.{lacks_own}
use Rattle.noise_trace.specs.declared.schedule.Following.{Following}

pub some-is : {A : Type 0} (o : Option A) (x : A) → IsSome o → IfSome o (λ y. y ≡ x) → o ≡ Some x
some-is None x is e = absurd (cc)
some-is (Some y) x is e = ap Some e

-- a party that goes on
pub going-on : {K : Type 0} (pairs : K → KeyPairs) (h : HandshakeValue K) (v : Party) → v.ended ≡ false → Matches pairs h (going v) → Matches pairs h v
going-on pairs h v e m = subst (λ (b : Bool). Matches pairs h (record v { ended = b })) (sym e) m

pub gone-on : {K : Type 0} (pairs : K → KeyPairs) (h : HandshakeValue K) (v : Party) → v.ended ≡ false → Matches pairs h v → Matches pairs h (going v)
gone-on pairs h v e m = subst (λ (b : Bool). Matches pairs h (record v { ended = b })) e m

-- that of a key schedule, where it is there
pub followed : {K : Type 0} (pairs : K → KeyPairs) (f : Following K) (h : HandshakeValue K) (v : Party) → f.handshake ≡ Some h → v.ended ≡ false
    → Follows pairs f v → Matches pairs h v
followed {K} pairs f h v is e s =
    let same : s.handshake ≡ h = same_Some {A = HandshakeValue K} s.handshake h (sym s.there ∙ is) in
    going-on pairs h v e (subst (λ (z : HandshakeValue K). Matches pairs z (going v)) same s.matches)

-- the same handshake with other keys, not ended
module _ {K : Type 0} (pairs : K → KeyPairs) (h : HandshakeValue K) (keys : K) where
  abbrev pub beside : HandshakeValue K
  beside = record h { keys = keys; ended = false }

  pub beside-is : (g : HandshakeValue K) → g.pattern ≡ h.pattern → g.role ≡ h.role → g.keys ≡ keys → g.remote ≡ h.remote → g.psks ≡ h.psks
      → g.passed ≡ h.passed → g.ended ≡ false → g.state ≡ h.state → g ≡ beside
  beside-is g p r k m s n e t =
      ap (λ (z : Plan). record g { pattern = z }) p
      ∙ ap (λ (z : Role). record g { pattern = h.pattern; role = z }) r
      ∙ ap (λ (z : K). record g { pattern = h.pattern; role = h.role; keys = z }) k
      ∙ ap (λ (z : Remote). record g { pattern = h.pattern; role = h.role; keys = keys; remote = z }) m
      ∙ ap (λ (z : List (List ℕ)). record g { pattern = h.pattern; role = h.role; keys = keys; remote = h.remote; psks = z }) s
      ∙ ap (λ (z : ℕ). record beside { passed = z; ended = g.ended; state = g.state }) n
      ∙ ap (λ (z : Bool). record beside { ended = z; state = g.state }) e
      ∙ ap (λ (z : SymmetricState). record beside { state = z }) t

  module _ (v : Party) (s : Matches pairs h v) (own : (pairs keys).public ≡ v.own) where
    pub beside-whole : IsLateWhole pairs h → IsLateWhole pairs beside
    beside-whole q =
        let w = q.1 in
        let same : (pairs keys).public ≡ (pairs h.keys).public = own ∙ sym (ap (λ (z : Party). z.own) s.is) in (
          q.0,
          record {
            within = w.within;
            psks = w.psks;
            own_e = ap (λ (f : Own → Option (List ℕ)). lacks_own h.pattern h.role E (f Ephemeral)) same ∙ w.own_e;
            own_s = ap (λ (f : Own → Option (List ℕ)). lacks_own h.pattern h.role S (f Static)) same ∙ w.own_s;
            remote_e = w.remote_e;
            remote_s = w.remote_s;
            key = w.key;
            nonce = w.nonce;
          },
        )

    pub beside-matches : (pairs keys).agree ≡ v.agree → Matches pairs beside (going v)
    beside-matches agree = record {
      is = ap (λ (f : Own → Option (List ℕ)). record (party_of pairs beside) { own = f }) own
          ∙ ap (λ (f : Own → List ℕ → Option (List ℕ)). record (party_of pairs beside) { own = v.own; agree = f }) agree
          ∙ ap (λ (z : Party). record z { own = v.own; agree = v.agree; ended = false }) s.is;
      supplied = s.supplied;
    }
