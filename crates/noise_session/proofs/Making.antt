-- Why a payload isn't written, by the faults of a handshake and of a transport.
use Rattle.std.proofs.Common.{◌≡◌, ℕ, ◌==◌, ◌-◌, nat_lt, List, length, take, drop, Bool, true, false, not, Option, Some, None, Result, Ok, Err, MatchOption, IsOk, if◌then◌else◌, refl, ap, ◌∙◌}
use Rattle.noise_session.proofs.Common.{⊤, put_mid, HandshakeValue, is_turn, write_fault, length_now, SendFault, Progress, refusal, Handshaking}
use Rattle.std.proofs.lemmas.Bool.{lt-ltb}
use Rattle.noise_session.proofs.Places.{unwritten}
use Rattle.noise_names.specs.Tokens.{other, same_role, turn_from}
use Rattle.noise_names.specs.declared.token.Role.{Role}
use Rattle.noise_names.specs.declared.token.Role.TheVariants.{Initiator, Responder}
use Rattle.noise_handshake.specs.HandshakeValue.{length_unless, message_len_of}
use Rattle.noise_handshake.specs.Matching.{DoesNotWrite, party_of}
use Rattle.noise_keys.specs.Keys.{KeyPairs}
use Rattle.noise_handshake.specs.declared.faults.WriteFault.{WriteFault}
use Rattle.noise_handshake.specs.declared.faults.WriteFault.TheVariants as write
use Rattle.noise_session.specs.declared.faults.SendFault.TheVariants as fault

-- why no message is written now, by what is asked, at a handshake and at an end
abbrev asked : Bool → Bool → Bool → Bool → Option WriteFault
asked ended done turn long =
    if ended then Some write.Ended else if done then Some write.Done else if not turn then Some write.NotYourTurn else if long then Some write.TooLong else None

abbrev refused : Bool → Bool → Option SendFault
refused turn long = if not turn then Some fault.NotYourTurn else if long then Some fault.TooLong else None

none-asked : (ended done turn long : Bool) → asked ended done turn long ≡ None → refused turn long ≡ None
none-asked true done turn long h = cc
none-asked false true turn long h = cc
none-asked false false false long h = cc
none-asked false false true true h = cc
none-asked false false true false h = refl

turn-refused : (role turn : Role) (long : Bool) → turn ≡ other role → refused (same_role turn role) long ≡ Some fault.NotYourTurn
turn-refused Initiator turn long e = ap (λ (t : Role). refused (same_role t Initiator) long) e
turn-refused Responder turn long e = ap (λ (t : Role). refused (same_role t Responder) long) e

long-refused : (role turn : Role) (long : Bool) → turn ≡ role → long ≡ true → refused (same_role turn role) long ≡ Some fault.TooLong
long-refused Initiator turn long e f = ap (λ (t : Role). refused (same_role t Initiator) long) e ∙ ap (refused true) f
long-refused Responder turn long e f = ap (λ (t : Role). refused (same_role t Responder) long) e ∙ ap (refused true) f

has-length : (o : Option WriteFault) (m n : ℕ) → length_unless o m ≡ Some n → o ≡ None
has-length None m n h = refl
has-length (Some f) m n h = cc

module _ {K : Type 0} (h : HandshakeValue K) (n : ℕ) where
  abbrev now : Progress
  now = Handshaking h.pattern h.role h.passed

  pub due-now : write_fault h n ≡ None → refusal now n ≡ None
  due-now t = none-asked h.ended (h.passed == length h.pattern.messages) (is_turn h.role h.passed) (nat_lt 65535 (length_now h n)) t

  pub length-due : (m : ℕ) → message_len_of h n ≡ Some m → refusal now n ≡ None
  length-due m t = due-now (has-length (write_fault h n) (length_now h n) m t)

  module _ (pairs : K → KeyPairs) where
    pub not-turn : DoesNotWrite (party_of pairs h) n write.NotYourTurn → refusal now n ≡ Some fault.NotYourTurn
    not-turn d = turn-refused h.role (turn_from Initiator h.passed) (nat_lt 65535 (length_now h n)) d.turn

    pub too-long : DoesNotWrite (party_of pairs h) n write.TooLong → refusal now n ≡ Some fault.TooLong
    too-long d =
        let long : nat_lt 65535 (length_now h n) ≡ true = lt-ltb 65535 (length_now h n) d.1 in
        long-refused h.role (turn_from Initiator h.passed) (nat_lt 65535 (length_now h n)) d.0.turn long

-- what a result of a transport reports of why nothing is sealed
abbrev sealed : ℕ → Result ℕ SendFault
sealed n = Ok n

abbrev unsealed : SendFault → Result ℕ SendFault
unsealed f = Err f

pub seal-due : (o : Option SendFault) (n : ℕ) → MatchOption o (IsOk (sealed n)) (λ f. sealed n ≡ Err f) → o ≡ None
seal-due None n h = refl
seal-due (Some f) n h = cc

pub seal-refused : (o : Option SendFault) (f : SendFault) → MatchOption o (IsOk (unsealed f)) (λ e. unsealed f ≡ Err e) → o ≡ Some f
seal-refused None f h = cc
seal-refused (Some e) f h = cc

-- what is refused leaves a buffer as it was, where it leaves its end so
pub refused-whole : (o : Option SendFault) (r : Result ℕ SendFault) (start : ℕ) (out written : List ℕ)
    → MatchOption o ⊤ (λ f. (r ≡ Err f) × (written ≡ take (length out - start) (drop start out)))
    → MatchOption o ⊤ (λ f. (r ≡ Err f) × (put_mid start (length out - start) out written ≡ out))
refused-whole None r start out written h = tt
refused-whole (Some f) r start out written h = (h.0, unwritten out written start h.1)
