-- What a message leaves of a handshake with all its psks, for its party.
use Rattle.std.proofs.Common.{ℕ, List, inl, inr, ap, sym, subst, ◌∙◌}
use Rattle.noise_session.proofs.Common.{HandshakeValue, after_message, after_own}
use Rattle.noise_handshake.specs.Calls.{HasRead, HasWritten, IsNotRead, IsNotWritten}
use Rattle.noise_handshake.specs.HandshakeValue.{HasPsks, after_read, after_written}
use Rattle.noise_handshake.specs.Late.{LacksPskAt}
use Rattle.noise_handshake.specs.Matching.{IsSupplied, Matches, party_of}
use Rattle.noise_handshake.specs.Party.{Party, Accepts, Refuses}
use Rattle.noise_handshake.specs.Writing.{LacksDhResult, Writes}
use Rattle.noise_handshake.specs.declared.faults.Cause.{Cause}
use Rattle.noise_handshake.specs.declared.faults.ReadFault.TheVariants as read
use Rattle.noise_handshake.specs.declared.faults.WriteFault.TheVariants as write
use Rattle.noise_keys.specs.Keys.{KeyPairs}

module _ {K : Type 0} (pairs : K → KeyPairs) (h next : HandshakeValue K) (v : Party) (m : Matches pairs h v) where
  module _ (kept : (xs : List (List ℕ)) (payload : List ℕ) → IsSupplied h → IsSupplied (after_read h xs payload) × IsSupplied (after_written h xs payload)) where
    pub was-read : (message payload : List ℕ) → HasRead (party_of pairs h) h message payload next
        → (xs : List (List ℕ)) × Accepts v message xs payload × Matches pairs next (after_message v xs payload)
    was-read message payload r = (
      r.1.0,
      subst (λ (w : Party). Accepts w message r.1.0 payload) m.is r.1.1,
      record {
        is = ap (party_of pairs) r.1.2 ∙ ap (λ (w : Party). after_message w r.1.0 payload) m.is;
        supplied = subst (λ (z : HandshakeValue K). IsSupplied z) (sym r.1.2) (kept r.1.0 payload m.supplied).0;
      },
    )

    pub was-written : (payload message : List ℕ) → HasWritten (party_of pairs h) h payload message next
        → (xs : List (List ℕ)) × Writes v payload xs message × Matches pairs next (after_own v xs payload)
    was-written payload message r = (
      r.1.0,
      subst (λ (w : Party). Writes w payload r.1.0 message) m.is r.1.1,
      record {
        is = ap (party_of pairs) r.1.2 ∙ ap (λ (w : Party). after_own w r.1.0 payload) m.is;
        supplied = subst (λ (z : HandshakeValue K). IsSupplied z) (sym r.1.2) (kept r.1.0 payload m.supplied).1;
      },
    )

  module _ (has : IsSupplied h → HasPsks h) (none : (k : ℕ) → HasPsks h → LacksPskAt h k → ⊥) where
    pub was-refused : (message : List ℕ) (token : ℕ) (cause : Cause) → IsNotRead pairs h message (read.Refused token cause)
        → Refuses v message token cause
    was-refused message token cause r = elim r [
      | inl refuses ↦ subst (λ (w : Party). Refuses w message token cause) m.is refuses.1
      | inr lacks ↦ absurd (none token (has m.supplied) lacks.1)
    ]

    pub was-lacking : (n token : ℕ) → IsNotWritten pairs h n (write.Agreement token) → LacksDhResult v token
    was-lacking n token r = elim r.1 [
      | inl lacks ↦ subst (λ (w : Party). LacksDhResult w token) m.is lacks.1
      | inr at ↦ absurd (none token (has m.supplied) at)
    ]
