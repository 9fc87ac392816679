-- A number that an export returns is none of those that another clause is about.
use Rattle.std.proofs.Common.{◌≡◌, ◌≤◌, ◌<◌, ◌⊎◌, inl, inr, ℕ, true, false, eqb, ltb, sym, subst, refl, arith}
use Rattle.noise_c.proofs.Common.{eqb-false, Cause, Agreement, ReadFault, Want, IsAgreement, NoiseResult, cause_code, read_code, write_code, ReportsWant}
use borrow.Author.Tests.{ltb-true}
use Rattle.noise_handshake.specs.declared.faults.WriteFault.{WriteFault}
use Rattle.noise_c.proofs.Wants.{want-code}
use Rattle.noise_handshake.specs.declared.faults.ReadFault.TheVariants as read
use Rattle.noise_handshake.specs.declared.faults.WriteFault.TheVariants as write

-- it is another one
pub other : {A : Type 0} (code wanted : ℕ) → eqb code wanted ≡ false → code ≡ wanted → A
other code wanted e same = absurd (eqb-false code wanted e same)

-- it is above the last one
pub above : {A : Type 0} (code last : ℕ) → ltb last code ≡ true → code ≤ last → A
above code last e within = absurd (omega (arith, ltb-true last code e, within))

-- it is from the first of its own numbers on, and the other one is before that
pub not-before : {A : Type 0} (code first wanted : ℕ) → first ≤ code → ltb wanted first ≡ true → code ≡ wanted → A
not-before code first wanted from low e = absurd (omega (arith, from, ltb-true wanted first low, e))

-- or up to the last of them, and the other one is after that
pub not-after : {A : Type 0} (code last wanted : ℕ) → code ≤ last → ltb last wanted ≡ true → code ≡ wanted → A
not-after code last wanted to high e = absurd (omega (arith, to, ltb-true last wanted high, e))

-- the first of its own numbers is already above the last one
pub beyond : {A : Type 0} (code first last : ℕ) → first ≤ code → ltb last first ≡ true → code ≤ last → A
beyond code first last from low within = absurd (omega (arith, from, ltb-true last first low, within))

-- it is below a number that it isn't above and that it isn't
pub under : (code last : ℕ) → code ≤ last → (code ≡ last → ⊥) → code < last
under code last to differs = omega (arith, to, differs)

-- a length isn't both above a limit and within it
pub too-long : {A : Type 0} (n limit : ℕ) → limit < n → n ≤ limit → A
too-long n limit more less = absurd (omega (arith, more, less))

-- ---- the numbers of a want: WANTED and WANTED_PSK

pub wants-other : {A : Type 0} (want : Want) (results : NoiseResult) (code wanted : ℕ) → ReportsWant want results code → eqb 20 wanted ≡ false → eqb 40 wanted ≡ false
    → code ≡ wanted → A
wants-other {A} want results code wanted t answer psk =
    want-code want results code (λ (n : ℕ). n ≡ wanted → A) t (other 20 wanted answer) (other 40 wanted psk)

-- ---- the numbers of the faults of writing

withheld-codes : (fault : WriteFault) → (10 ≤ write_code fault) × (write_code fault ≤ 14)
withheld-codes write.Ended = (omega arith, omega arith)
withheld-codes _ = (omega arith, omega arith)

pub withheld-within : (fault : WriteFault) (code : ℕ) → code ≡ write_code fault → (10 ≤ code) × (code ≤ 14)
withheld-within fault code is = subst (λ (n : ℕ). (10 ≤ n) × (n ≤ 14)) (sym is) (withheld-codes fault)

-- the fault of the number of AGREEMENT
pub withheld-agreement : (fault : WriteFault) → write_code fault ≡ 14 → IsAgreement fault
withheld-agreement write.Ended e = other 13 14 refl e
withheld-agreement write.Done e = other 12 14 refl e
withheld-agreement write.NotYourTurn e = other 10 14 refl e
withheld-agreement write.TooLong e = other 11 14 refl e
withheld-agreement (write.Agreement token) e = tt

-- ---- the numbers of the faults of reading

refused-codes : (cause : Cause) → (14 ≤ cause_code cause) × (cause_code cause ≤ 16)
refused-codes Agreement = (omega arith, omega arith)
refused-codes _ = (omega arith, omega arith)

-- those of a refusal
pub refused-within : (fault : ReadFault) (code token : ℕ) (cause : Cause) → code ≡ read_code fault
    → fault ≡ read.Refused token cause → (14 ≤ code) × (code ≤ 16)
refused-within fault code token cause is e =
    subst (λ (n : ℕ). (14 ≤ n) × (n ≤ 16)) (sym (subst (λ (f : ReadFault). code ≡ read_code f) e is)) (refused-codes cause)

-- no refusal
abbrev pub IsPlain : ReadFault → Type 0
IsPlain fault = (token : ℕ) (cause : Cause) → fault ≡ read.Refused token cause → ⊥

plain-codes : (fault : ReadFault) → IsPlain fault → (read_code fault ≡ 10) ⊎ ((12 ≤ read_code fault) × (read_code fault ≤ 13))
plain-codes read.NotYourTurn plain = inl refl
plain-codes read.Done plain = inr (omega arith, omega arith)
plain-codes read.Ended plain = inr (omega arith, omega arith)
plain-codes (read.Refused token cause) plain = absurd (plain token cause refl)

-- those of a fault that is none
pub plain-among : (fault : ReadFault) (code : ℕ) → IsPlain fault → code ≡ read_code fault → (code ≡ 10) ⊎ ((12 ≤ code) × (code ≤ 13))
plain-among fault code plain is = subst (λ (n : ℕ). (n ≡ 10) ⊎ ((12 ≤ n) × (n ≤ 13))) (sym is) (plain-codes fault plain)

pub plain-within : (code : ℕ) → (code ≡ 10) ⊎ ((12 ≤ code) × (code ≤ 13)) → (10 ≤ code) × (code ≤ 13)
plain-within code (inl e) = (omega (arith, e), omega (arith, e))
plain-within code (inr w) = (omega (arith, w), w.1)
