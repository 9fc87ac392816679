-- Whose turn it is, by whether the messages that passed are an even number.
use Rattle.std.proofs.Common.{◌≡◌, ◌⊎◌, inl, inr, ℕ, zero, suc, ◌%◌, nat_eq, refl, ap, sym, ◌∙◌, arith}
use Rattle.noise_handshake.proofs.Common.{Role, Initiator, Responder, other, same_role, turn_from, other-other}

turns : (a : Role) (k : ℕ) → ((k % 2 ≡ 0) × (turn_from a k ≡ a)) ⊎ ((k % 2 ≡ 1) × (turn_from a k ≡ other a))
turns a zero = inl (refl, refl)
turns a (suc k) = elim (turns (other a) k) [
  | inl h ↦ inr (omega (arith, h.0), h.1)
  | inr h ↦ inl (omega (arith, h.0), h.1 ∙ other-other a)
]

pub initiator-writes : (k : ℕ) → nat_eq (k % 2) 0 ≡ same_role (turn_from Initiator k) Initiator
initiator-writes k = elim (turns Initiator k) [
  | inl h ↦ ap (λ (n : ℕ). nat_eq n 0) h.0 ∙ sym (ap (λ (r : Role). same_role r Initiator) h.1)
  | inr h ↦ ap (λ (n : ℕ). nat_eq n 0) h.0 ∙ sym (ap (λ (r : Role). same_role r Initiator) h.1)
]

pub responder-writes : (k : ℕ) → nat_eq (k % 2) 1 ≡ same_role (turn_from Initiator k) Responder
responder-writes k = elim (turns Initiator k) [
  | inl h ↦ ap (λ (n : ℕ). nat_eq n 1) h.0 ∙ sym (ap (λ (r : Role). same_role r Responder) h.1)
  | inr h ↦ ap (λ (n : ℕ). nat_eq n 1) h.0 ∙ sym (ap (λ (r : Role). same_role r Responder) h.1)
]
