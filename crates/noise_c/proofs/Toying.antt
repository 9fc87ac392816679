-- Programs with keys for tests: their calls, joined, and the law's premises.
use Rattle.std.proofs.Common.{rules, ◌≡◌, ℕ, ◌+◌, ◌-◌, drop, length-drop, ◌<◌, ◌≤◌, List, [], ◌∷◌, ◌++◌, length, take, refl, ap, sym, subst, ◌∙◌, arith}
use Rattle.std.proofs.lemmas.List.{drop-append-le, take-append-le}
use Rattle.std.specs.Prelude.{slice_range, true, false}
use Rattle.noise_c.proofs.Common.{Bool, Option, Some, None, is_some, max, nat_eq, nat_tests, Plan, IsValid, Own, Role, TableEntry, NoiseHandshake, NoiseResult, psks_of, setup_fault, fault_in, code_of, public_in, table_of, remote_of, IsPatternOf, E, S, Remote}
use Rattle.noise_names.specs.declared.token.Role.TheVariants.{Initiator, Responder}
use Rattle.noise_names.specs.Tokens.{other}
use Rattle.noise_keys.specs.Keys.{key_of, xor_dh_result-same}
use Rattle.noise_keys.specs.declared.xor_keys.XorKeys.{XorKeys}
use Rattle.noise_keys.specs.declared.faults.SetupFault.{SetupFault}
use Rattle.noise_keys.specs.declared.faults.SetupFault.TheVariants as setup
use Rattle.noise_handshake.specs.Setup.{has_before}
use Rattle.noise_handshake.specs.Counterparts.{DhResultsAgree, keys_if, xor_agreement, xor_public}
use Rattle.noise_c.specs.HandshakeStructs.{IsStarted, Supplies, key_from_c, key_to_c}
use Rattle.noise_c.specs.Outcomes.{ReadOutcome, WriteOutcome}
use Rattle.noise_c.specs.Outcomes.WriteOutcome.{written, wants_dh_result as write_wants, wants_psk as write_wants_psk, withheld, no_room, unusable as write_unusable}
use Rattle.noise_c.specs.Outcomes.ReadOutcome.{accepted, wants_dh_result as read_wants, wants_psk as read_wants_psk, declined, refused, too_long, unusable as read_unusable}
use Rattle.noise_c.specs.TwoPrograms.{Agree, Calls, HaveTalked, Passed, Program, TwoProgramsAgree, program_start}
use Rattle.noise_c.specs.TwoPrograms.Calls.{none, wrote, took, answered}
use Rattle.noise_c.specs.FinishedPrograms.{HaveBothFinished, IsDone, ProgramsFinish}
use Rattle.noise_c.specs.Toys.{Leads, Passes, toy_secrets, toy_setup}
use Rattle.noise_c.proofs.Programs.{among-next, read-of, written-of}

-- ---- calls, joined

pub begun : (keys : XorKeys) (k : NoiseHandshake) → Leads keys k [] [] k
begun keys k p ws rs last calls = calls

pub joined : (keys : XorKeys) (k mid next : NoiseHandshake) (ws rs : List Passed) → Leads keys k [] [] mid → Leads keys mid ws rs next → Leads keys k ws rs next
joined keys k mid next ws rs f g p us xs last calls = f p (ws ++ us) (rs ++ xs) last (g p us xs last calls)

pub answers : (keys : XorKeys) (k next : NoiseHandshake) (entry : TableEntry) (code : ℕ) → Supplies k next entry code → code ≡ 0 → k.answer_count < 8
    → xor_agreement keys entry.own entry.remote ≡ Some entry.answer → Leads keys k [] [] next
answers keys k next entry code s e few is p ws rs last calls =
    let now : Supplies k next entry 0 = subst (λ (n : ℕ). Supplies k next entry n) e s in
    answered k next last entry ws rs now (among-next p k next entry (xor_agreement keys) (now.added refl few) is) calls

pub writes-one : (keys : XorKeys) (k next : NoiseHandshake) (payload out after : List ℕ) (results new : NoiseResult) (code : ℕ)
    → WriteOutcome k payload out results next after new code → code ≡ 0
    → Leads keys k (record { message = take new.len after; payload = payload } ∷ []) [] next
writes-one keys k next payload out after results new code o e p ws rs last calls =
    let f = written-of k next payload out after results new code o e in
    wrote k next last (record { message = take new.len after; payload = payload }) ws rs f.0 f.1 calls

pub reads-one : (keys : XorKeys) (k next : NoiseHandshake) (message after : List ℕ) (results new : NoiseResult) (code : ℕ)
    → ReadOutcome true k message results next after new code → code ≡ 0
    → Leads keys k [] (record { message = message; payload = slice_range after new.from (new.from + new.len) } ∷ []) next
reads-one keys k next message after results new code o e p ws rs last calls =
    let f = read-of true k next message after results new code o e in
    took k next last (record { message = message; payload = slice_range after new.from (new.from + new.len) }) ws rs f.0 f.1 calls

pub written-fits : (k next : NoiseHandshake) (payload out after : List ℕ) (results new : NoiseResult) (code : ℕ)
    → WriteOutcome k payload out results next after new code → code ≡ 0 → new.len ≤ length after
written-fits k next payload out after results new _ (written u m r l d f) e = l
written-fits k next payload out after results new _ (write_wants a b c f) e = absurd (omega (arith, e))
written-fits k next payload out after results new _ (write_wants_psk a b c f) e = absurd (omega (arith, e))
written-fits k next payload out after results new _ (withheld code low high a b c f) e = absurd (omega (arith, e, low))
written-fits k next payload out after results new _ (no_room a b c d g) e = absurd (omega (arith, e))
written-fits k next payload out after results new _ (write_unusable a b c d) e = absurd (omega (arith, e))

-- a call that wants a DH result has changed nothing
pub write-wants : (k next : NoiseHandshake) (payload out after : List ℕ) (results new : NoiseResult) (code : ℕ)
    → WriteOutcome k payload out results next after new code → code ≡ 20 → next ≡ k
write-wants k next payload out after results new _ (written u m r l d f) e = absurd (omega (arith, e))
write-wants k next payload out after results new _ (write_wants a b c f) e = b
write-wants k next payload out after results new _ (write_wants_psk a b c f) e = b
write-wants k next payload out after results new _ (withheld code low high a b c f) e = b
write-wants k next payload out after results new _ (no_room a b c d g) e = d
write-wants k next payload out after results new _ (write_unusable a b c d) e = c

-- ---- the start

pub no-fault : (o : Option SetupFault) → code_of o ≡ 0 → o ≡ None
no-fault None e = refl
no-fault (Some setup.EphemeralMissing) e = cc
no-fault (Some setup.StaticMissing) e = cc
no-fault (Some setup.RemoteMissing) e = cc
no-fault (Some setup.RemoteUnexpected) e = cc
no-fault (Some setup.PskCount) e = cc

back-key : (o : Option (List ℕ)) → key_from_c (key_to_c o) ≡ o
back-key None = refl
back-key (Some bytes) = refl

public-is : (n : ℕ) (keys : XorKeys) → public_in (table_of (toy_setup n keys)) ≡ xor_public keys
public-is n keys =
    ap {B = Own → Option (List ℕ)} (λ (z : Option (List ℕ)). (λ own. key_of own z (key_from_c (key_to_c keys.s)))) (back-key keys.e)
    ∙ ap {B = Own → Option (List ℕ)} (λ (z : Option (List ℕ)). (λ own. key_of own keys.e z)) (back-key keys.s)

none-shown : (e s : Bool) (own : Own → Option (List ℕ)) → false ≡ e → false ≡ s → ◌≡◌ {A = Remote} (record { e = None; s = None }) (keys_if e s own)
none-shown false false own f g = refl
none-shown true s own f g = cc
none-shown false true own f g = cc

-- ---- three messages of two programs

abbrev RemoteIsShown : Type 0
RemoteIsShown = (p : Plan) (role : Role) (own : Own → Option (List ℕ)) (known : Remote) (n : ℕ) → setup_fault p role own known n ≡ None
    → (is_some known.e ≡ has_before p (other role) E) × (is_some known.s ≡ has_before p (other role) S)

abbrev XorKeysAgree : Type 0
XorKeysAgree = (a b : XorKeys) (p : Plan) (role : Role) (known theirs : Remote) (n m : ℕ) → IsValid p
    → setup_fault p role (xor_public a) known n ≡ None → setup_fault p (other role) (xor_public b) theirs m ≡ None
    → DhResultsAgree p role (xor_public a) (xor_agreement a) (xor_public b) (xor_agreement b)

third : (a b c x y z : Passed) (rest : List Passed) → a ∷ b ∷ [] ≡ (x ∷ y ∷ []) ++ rest → y ≡ b
third a b c x y z rest e = search rules

module _ (law : TwoProgramsAgree) (shown : RemoteIsShown) (xor : XorKeysAgree) (name payload one two three : List ℕ) (a b : XorKeys)
    (k0 k1 k2 k3 l0 l1 l2 l3 : NoiseHandshake)
    (started : IsStarted name [] (toy_setup 0 a) k0) (started_too : IsStarted name [] (toy_setup 1 b) l0)
    (fault : (p : Plan) → IsPatternOf name p → IsValid p → fault_in p (toy_setup 0 a) ≡ None)
    (fault_too : (p : Plan) → IsPatternOf name p → IsValid p → fault_in p (toy_setup 1 b) ≡ None)
    (m1 : Passes a b payload one k0 k1 l0 l1) (m2 : Passes b a payload two l1 l2 k1 k2) (m3 : Passes a b payload three k2 k3 l2 l3) where
  abbrev p : Plan
  p = started.usable.pattern

  named : IsPatternOf name p
  named = subst (λ (z : List ℕ). IsPatternOf z p) started.text_is started.usable.named

  valid : IsValid p
  valid = started.usable.valid

  abbrev of : List ℕ → List ℕ → Passed
  of message handed = record { message = message; payload = handed }

  abbrev left : Program
  left = record {
    text = name;
    prologue = [];
    setup = toy_setup 0 a;
    secrets = toy_secrets a;
    begun = k0;
    written = of m1.message payload ∷ of m3.message payload ∷ [];
    read = of m2.message two ∷ [];
    last = k3;
  }

  abbrev right : Program
  right = record {
    text = name;
    prologue = [];
    setup = toy_setup 1 b;
    secrets = toy_secrets b;
    begun = l0;
    written = of m2.message payload ∷ [];
    read = of m1.message one ∷ of m3.message three ∷ [];
    last = l3;
  }

  calls : Calls p (toy_secrets a) k0 left.written left.read k3
  calls = m1.writes p (of m3.message payload ∷ []) (of m2.message two ∷ []) k3
      (m2.reads p (of m3.message payload ∷ []) [] k3 (m3.writes p [] [] k3 (none k3)))

  calls_too : Calls p (toy_secrets b) l0 right.written right.read l3
  calls_too = m1.reads p (of m2.message payload ∷ []) (of m3.message three ∷ []) l3
      (m2.writes p [] (of m3.message three ∷ []) l3 (m3.reads p [] [] l3 (none l3)))

  dh_results : DhResultsAgree p Initiator (program_start left).own (xor_agreement a) (program_start right).own (xor_agreement b)
  dh_results =
      subst (λ (z : Own → Option (List ℕ)). DhResultsAgree p Initiator z (xor_agreement a) (program_start right).own (xor_agreement b)) (sym (public-is 0 a))
      (subst (λ (z : Own → Option (List ℕ)). DhResultsAgree p Initiator (xor_public a) (xor_agreement a) z (xor_agreement b)) (sym (public-is 1 b))
      (xor a b p Initiator (remote_of (toy_setup 0 a)) (remote_of (toy_setup 1 b)) (max 0 (psks_of p.messages)) (max 0 (psks_of p.messages)) valid
      (subst (λ (z : Own → Option (List ℕ)). setup_fault p Initiator z (remote_of (toy_setup 0 a)) (max 0 (psks_of p.messages)) ≡ None) (public-is 0 a)
      (fault p named valid))
      (subst (λ (z : Own → Option (List ℕ)). setup_fault p Responder z (remote_of (toy_setup 1 b)) (max 0 (psks_of p.messages)) ≡ None) (public-is 1 b)
      (fault_too p named valid))))

  talked : HaveTalked p left right
  talked =
      let mine = shown p Initiator (public_in (table_of (toy_setup 0 a))) (remote_of (toy_setup 0 a)) (max 0 (psks_of p.messages)) (fault p named valid) in
      let theirs = shown p Responder (public_in (table_of (toy_setup 1 b))) (remote_of (toy_setup 1 b)) (max 0 (psks_of p.messages)) (fault_too p named valid) in
      record {
        valid = valid;
        initiator = record { named = named; role_is = refl; later = []; psks = refl; started = started; calls = calls };
        responder = record { named = named; role_is = refl; later = []; psks = refl; started = started_too; calls = calls_too };
        prologue = refl;
        psks = refl;
        known = none-shown (has_before p Responder E) (has_before p Responder S) (program_start right).own mine.0 mine.1;
        known_too = none-shown (has_before p Initiator E) (has_before p Initiator S) (program_start left).own theirs.0 theirs.1;
        dh_results = dh_results;
        there = ([], refl);
        back = ([], refl);
      }

  pub agreed : Agree p left right
  agreed = law p left right talked

  pub handed : three ≡ payload
  handed = ap (λ (m : Passed). m.payload) (third (of m1.message payload) (of m3.message payload) (of m1.message one) (of m1.message one) (of m3.message three)
      (of m1.message one) agreed.there.0 agreed.there.1)

  -- of a pattern without psks, once both have finished
  pub finished : ProgramsFinish → psks_of p.messages ≡ 0 → IsDone k3 → IsDone l3 → HaveBothFinished k3 l3
  finished finish none_due done done_too =
      finish p left right talked
      (subst (λ (n : ℕ). setup_fault p Initiator (program_start left).own (program_start left).remote (max 0 n) ≡ None) none_due (fault p named valid))
      (subst (λ (n : ℕ). setup_fault p Responder (program_start right).own (program_start right).remote (max 0 n) ≡ None) none_due (fault_too p named valid))
      (λ x y k l r s own theirs gives gives_too.
      xor_dh_result-same (key_of x a.e a.s) (key_of y b.e b.s) k l r s (sym (ap (λ (f : Own → Option (List ℕ)). f x) (public-is 0 a)) ∙ own)
      (sym (ap (λ (f : Own → Option (List ℕ)). f y) (public-is 1 b)) ∙ theirs) gives gives_too)
      done done_too

pub code-is : (n k : ℕ) → nat_eq n k ≡ true → n ≡ k
code-is n k e = grind (arith, nat_tests)

pub read-fits : (ends : Bool) (k next : NoiseHandshake) (message after : List ℕ) (results new : NoiseResult) (code : ℕ)
    → ReadOutcome ends k message results next after new code → code ≡ 0 → new.from + new.len ≤ length after
read-fits ends k next message after results new _ (accepted u r l d f) e = l
read-fits ends k next message after results new _ (read_wants a b f) e = absurd (omega (arith, e))
read-fits ends k next message after results new _ (read_wants_psk a b f) e = absurd (omega (arith, e))
read-fits ends k next message after results new _ (declined code low a b c f) e = absurd (grind (arith, e, low))
read-fits ends k next message after results new _ (refused code low high a b c d f) e = absurd (omega (arith, e, low))
read-fits ends k next message after results new _ (too_long a b c d) e = absurd (omega (arith, e))
read-fits ends k next message after results new _ (read_unusable a b c) e = absurd (omega (arith, e))

-- a place in the first bytes is that place in all
range-in-front : (front rest : List ℕ) (i n : ℕ) → i + n ≤ length front → slice_range (front ++ rest) i (i + n) ≡ slice_range front i (i + n)
range-in-front front rest i n h =
    ap (take (i + n - i)) (drop-append-le i front rest (omega (arith, h)))
    ∙ take-append-le (i + n - i) (drop i front) rest (omega (arith, h, length-drop i front))

pub passes : (keys theirs : XorKeys) (payload out after rest : List ℕ) (len i n : ℕ) (from sent to taken : NoiseHandshake)
    → Leads keys from (record { message = take len out; payload = payload } ∷ []) [] sent
    → i + n ≤ length after
    → Leads theirs to [] (record { message = take len out; payload = slice_range after i (i + n) } ∷ []) taken
    → Passes keys theirs payload (slice_range (after ++ rest) i (i + n)) from sent to taken
passes keys theirs payload out after rest len i n from sent to taken f h g = record {
  message = take len out;
  writes = f;
  reads = subst (λ (z : List ℕ). Leads theirs to [] (record { message = take len out; payload = z } ∷ []) taken) (sym (range-in-front after rest i n h)) g;
}
