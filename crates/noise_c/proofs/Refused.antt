-- A refused message that ends the handshake, by one that doesn't.
use Rattle.std.proofs.Common.{◌≡◌, ◌≤◌, ◌⊎◌, inl, inr, ℕ, List, true, false, sym, subst, ◌∙◌, ap, arith}
use Rattle.noise_c.proofs.Common.{Plan, Party, NoiseHandshake, NoiseResult, KeepsParty, WasRefused}
use Rattle.noise_handshake.specs.Matching.{ended_party}
use Rattle.noise_c.specs.Outcomes.{ReadOutcome}
use Rattle.noise_c.specs.Outcomes.ReadOutcome.{accepted, wants_dh_result, wants_psk, declined, refused, too_long, unusable}
use Rattle.noise_c.proofs.Stored.{usable-ended}

-- the struct of a handshake that has ended
pub keeps-ended : (k : NoiseHandshake) (p : Plan) (v : Party) → KeepsParty k p v
    → KeepsParty (record k { ended = 1 }) p (ended_party v)
keeps-ended k p v s = record {
  pattern = s.pattern;
  later = s.later;
  matches = ap ended_party s.matches;
}

ends-refused : (old mid : NoiseHandshake) (p : Plan) (v : Party) (m : List ℕ) (code token : ℕ) → mid ≡ old
    → WasRefused false p v m code token mid → WasRefused true p v m code token (record mid { ended = 1 })
ends-refused old mid p v m code token same w = record {
  cause = w.cause;
  code_is = w.code_is;
  refuses = w.refuses;
  keeps = keeps-ended mid p v w.keeps;
}

abbrev IsRefusalCode : ℕ → Type 0
IsRefusalCode code = (15 ≤ code) × (code ≤ 16)

-- one of the other numbers
outside : (code : ℕ) → (code ≡ 10) ⊎ ((12 ≤ code) × (code ≤ 13)) → IsRefusalCode code → ⊥
outside code (inl e) w = omega (arith, e, w.0)
outside code (inr h) w = omega (arith, h.1, w.0)

module _ (old mid new : NoiseHandshake) (m after : List ℕ) (r next : NoiseResult) where
  pub ends : (code : ℕ) → ReadOutcome false old m r mid after next code
      → (IsRefusalCode code → new ≡ record mid { ended = 1 }) → ((IsRefusalCode code → ⊥) → new ≡ mid)
      → ReadOutcome true old m r new after next code
  ends code (accepted u e w a f) is same =
      subst (λ (z : NoiseHandshake). ReadOutcome true old m r z after next 0) (sym (same (λ c. omega (arith, c.0)))) (accepted u e w a f)
  ends code (wants_dh_result e a f) is same = wants_dh_result e a f
  ends code (wants_psk e a f) is same = wants_psk e a f
  ends code (declined n c e s a f) is same = declined n c e (same (outside n c) ∙ s) a f
  ends code (refused n low high e s u a f) is same =
      subst (λ (z : NoiseHandshake). ReadOutcome true old m r z after next n) (sym (is (low, high)))
      (refused n low high e (ap (λ (z : NoiseHandshake). record z { ended = 1 }) s) (λ o. usable-ended mid (u o)) a
      (λ p v k. ends-refused old mid p v m n next.token s (f p v k)))
  ends code (too_long n u e a) is same = too_long n u e a
  ends code (unusable n e a) is same = unusable n e a
