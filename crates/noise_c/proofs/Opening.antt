-- What opening a datagram returns by number.
use Rattle.std.proofs.Common.{◌≡◌, ◌⊎◌, ◌≤◌, inl, inr, ℕ, ◌+◌, List, drop, take, ap, sym, subst, ◌∙◌, refl, arith}
use Rattle.std.specs.Prelude.{slice_range, option_map, not, Err, true, false}
use Rattle.noise_c.proofs.Common.{Bool, Option, Some, None, MatchOption, if◌then◌else◌, false≢true, DatagramReceiverValue, DatagramReceiverMatches, NoiseResult, IsDatagramCode, OpensDatagramInPlace, datagram_receiver_from_c, is_datagram_receiver}
use Rattle.noise_session.specs.declared.datagram_fault.DatagramFault.{DatagramFault}
use Rattle.noise_c.specs.TransportCodes.{datagram_code}
use Rattle.noise_session.specs.DatagramCalls.{DatagramReceiverOpens, IsUnderKey, OpensAfterNonce, declined_for}
use Rattle.noise_session.specs.Datagrams.{datagram_receiver_fault}
use Rattle.noise_c.specs.DatagramStructs.{IsSealedFor}
use Rattle.noise_c.specs.declared.structs.NoiseDatagramReceiver.{NoiseDatagramReceiver}
use Rattle.noise_c.proofs.Numbers.{other, not-before}
use Rattle.noise_session.specs.declared.datagram_fault.DatagramFault.TheVariants as declined

datagram-codes : (fault : DatagramFault) → (11 ≤ datagram_code fault)
datagram-codes declined.TooLong = omega arith
datagram-codes _ = omega arith

pub declined-from : (fault : DatagramFault) (code : ℕ) → code ≡ datagram_code fault → 11 ≤ code
declined-from fault code is = subst (λ (n : ℕ). 11 ≤ n) (sym is) (datagram-codes fault)

not-struct : {A : Type 0} (fault : DatagramFault) → datagram_code fault ≡ 23 → A
not-struct declined.TooLong e = other 11 23 refl e
not-struct declined.Short e = other 15 23 refl e
not-struct declined.Tag e = other 16 23 refl e
not-struct declined.OneWay e = other 22 23 refl e
not-struct declined.Reserved e = other 26 23 refl e
not-struct declined.Old e = other 27 23 refl e
not-struct declined.Repeated e = other 28 23 refl e

-- none of them is that of a struct that no call has left
pub declined-not-struct : {A : Type 0} (fault : DatagramFault) (code : ℕ) → code ≡ datagram_code fault → code ≡ 23 → A
declined-not-struct fault code is e = not-struct fault (sym is ∙ e)

declined-sort : (fault : DatagramFault) → IsDatagramCode (datagram_code fault)
declined-sort declined.TooLong = inr (inl refl)
declined-sort declined.Short = inr (inr (inl refl))
declined-sort declined.Tag = inr (inr (inr (inl refl)))
declined-sort declined.OneWay = inr (inr (inr (inr (inl refl))))
declined-sort declined.Reserved = inr (inr (inr (inr (inr (inr (inl refl))))))
declined-sort declined.Old = inr (inr (inr (inr (inr (inr (inr (inl refl)))))))
declined-sort declined.Repeated = inr (inr (inr (inr (inr (inr (inr (inr refl)))))))

pub declined-among : (fault : DatagramFault) (code : ℕ) → code ≡ datagram_code fault → IsDatagramCode code
declined-among fault code is = subst (λ (n : ℕ). IsDatagramCode n) (sym is) (declined-sort fault)

-- the number is that of the first fault, or of a wrong tag
refusal-is : (o : Option DatagramFault) (fault : DatagramFault) (code : ℕ) (Q : Type 0) → fault ≡ declined_for o → code ≡ datagram_code fault
    → (o ≡ None → Q) → MatchOption (option_map datagram_code o) ((code ≡ 0) ⊎ ((code ≡ 16) × Q)) (λ refusal. code ≡ refusal)
refusal-is None fault code Q f is never = inr (is ∙ ap datagram_code f, never refl)
refusal-is (Some g) fault code Q f is never = is ∙ ap datagram_code f

pub accepted-is : (o : Option DatagramFault) (Q : Type 0) → o ≡ None
    → MatchOption (option_map datagram_code o) ((◌≡◌ {A = ℕ} 0 0) ⊎ ((◌≡◌ {A = ℕ} 0 16) × Q)) (λ refusal. 0 ≡ refusal)
accepted-is None Q f = inl refl
accepted-is (Some g) Q f = cc

-- of a struct that a call has left
pub known-refusal : (known : Bool) (o : Option ℕ) (P : Option ℕ → Type 0) → known ≡ true → P o → P (if not known then Some 23 else o)
known-refusal true o P e x = x
known-refusal false o P e x = absurd (false≢true e)

pub unknown-refusal : (known : Bool) (o : Option ℕ) (P : Option ℕ → Type 0) → known ≡ false → P (Some 23) → P (if not known then Some 23 else o)
unknown-refusal true o P e x = absurd (false≢true (sym e))
unknown-refusal false o P e x = x

-- a datagram that the library declines leaves all as it was
pub datagram_declined : (old new : NoiseDatagramReceiver) (bytes after : List ℕ) (results next : NoiseResult) (code : ℕ)
    (h left : DatagramReceiverValue) (fault : DatagramFault) (payload_in : ℕ → List ℕ) → DatagramReceiverOpens h left bytes (Err fault) payload_in
    → OpensAfterNonce bytes after (Err fault) → code ≡ datagram_code fault → h ≡ datagram_receiver_from_c old → is_datagram_receiver old ≡ true
    → new ≡ old → next ≡ results → OpensDatagramInPlace old new bytes after results next code
datagram_declined old new bytes after results next code h left fault payload_in opens place is from known same other_same =
    let least = declined-from fault code is in
    record {
      unusable = (declined-not-struct fault code is, λ none. absurd (false≢true (sym none ∙ known)));
      code_is = known-refusal (is_datagram_receiver old) (option_map datagram_code (datagram_receiver_fault (datagram_receiver_from_c old) bytes))
          (λ (o : Option ℕ). MatchOption o ((code ≡ 0) ⊎ ((code ≡ 16) × ((payload : List ℕ) → IsSealedFor old bytes payload → ⊥))) (λ refusal. code ≡ refusal))
          known
          (subst (λ (z : DatagramReceiverValue). MatchOption (option_map datagram_code (datagram_receiver_fault z bytes))
          ((code ≡ 0) ⊎ ((code ≡ 16) × ((payload : List ℕ) → IsUnderKey z bytes payload → ⊥))) (λ refusal. code ≡ refusal)) from
          (refusal-is (datagram_receiver_fault h bytes) fault code ((payload : List ℕ) → IsUnderKey h bytes payload → ⊥) opens.fault is opens.opened));
      place = not-before code 11 0 least refl;
      opened = not-before code 11 0 least refl;
      opens = not-before code 11 0 least refl;
      declined = λ _ _. (fault, is, λ v s. opens.opens v (subst (λ (z : DatagramReceiverValue). DatagramReceiverMatches z v) (sym from) s));
      beyond = not-before code 11 0 least refl;
      same = not-before code 11 0 least refl;
      known = not-before code 11 0 least refl;
      unchanged = λ _. (same, place.unchanged, other_same);
      codes = declined-among fault code is;
    }

-- the payload, from the ninth byte on
pub from-ninth : (bytes : List ℕ) (n : ℕ) → take n (drop 8 bytes) ≡ slice_range bytes 8 (8 + n)
from-ninth bytes n = ap (λ (k : ℕ). take k (drop 8 bytes)) (omega arith)
