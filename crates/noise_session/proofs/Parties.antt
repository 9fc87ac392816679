-- How far an end has come, by the state that it matches.
use Rattle.std.proofs.Common.{rules, ◌≡◌, ◌≢◌, ℕ, ◌==◌, ◌<◌, ◌≤◌, nat_lt, List, length, Bool, true, false, Option, Some, None, IsTrue, if◌then◌else◌, refl, sym, ◌∙◌, ap, subst, arith}
use Rattle.noise_session.proofs.Common.{nat_tests, Role, Phase, is_open, idle_step, refusal, StepValue, SendFault, HandshakeValue, Handshaking, Open, HasEnded, EndValue, EndState, EndMatches, IsReportedBy, PhaseMatches, HandshakeMatches, OpenMatches, hash_in, progress_in, progress_of, remote_static_in, session_hash, session_remote_static, ended_session, TransportValue, eqb-true, ne_eqb}
use Rattle.noise_names.specs.Plan.{Plan, is_one_way}
use Rattle.noise_handshake.specs.Party.{Party}
use Rattle.noise_session.specs.inner.Phases.{ended_in}
use Rattle.std.proofs.lemmas.Bool.{eq-eqb}
use Rattle.noise_session.specs.declared.phase.Phase.TheVariants as phase
use Rattle.noise_keys.specs.Keys.{KeyPairs}

pub progress-handshaking : (v : EndState) → v.party.ended ≡ false → v.party.passed ≢ length v.party.pattern.messages
    → progress_of v ≡ Handshaking v.party.pattern v.party.role v.party.passed
progress-handshaking v going more = search rules

pub progress-open : (v : EndState) → v.party.ended ≡ false → v.party.passed ≡ length v.party.pattern.messages
    → progress_of v ≡ Open v.party.role (is_one_way v.party.pattern) v.sent v.received
progress-open v going all = search rules

pub progress-ended_session : (v : EndState) → v.party.ended ≡ true → progress_of v ≡ HasEnded v.party.role
progress-ended_session v ended_party = rw ended_party refl

-- the hash is reported once all messages have passed
pub no-hash : (v : EndState) → v.party.passed ≢ length v.party.pattern.messages → session_hash v ≡ None
no-hash v more = let test = ne_eqb v.party.passed (length v.party.pattern.messages) more in rw test refl

pub whole-hash : (v : EndState) → v.party.passed ≡ length v.party.pattern.messages → session_hash v ≡ Some v.party.state.hash
whole-hash v all = let test = eq-eqb v.party.passed (length v.party.pattern.messages) all in rw test refl

pub is-open : (v : EndState) (t : TransportValue) → OpenMatches t v → IsTrue (is_open (progress_of v))
is-open v t s = ap is_open (progress-open v s.going s.all)

-- an open end has seen all messages of its handshake
open-by : (ended done : Bool) (role : Role) (one_way : Bool) (sent received : ℕ) (pattern : Plan) (passed : ℕ)
    → IsTrue (is_open (if ended then HasEnded role else if done then Open role one_way sent received else Handshaking pattern role passed)) → done ≡ true
open-by true done role one_way sent received pattern passed h = cc
open-by false true role one_way sent received pattern passed h = refl
open-by false false role one_way sent received pattern passed h = cc

pub open-passed : (v : EndState) → IsTrue (is_open (progress_of v)) → v.party.passed ≡ length v.party.pattern.messages
open-passed v opens =
    eqb-true v.party.passed (length v.party.pattern.messages)
    (open-by v.party.ended (v.party.passed == length v.party.pattern.messages) v.party.role
    (is_one_way v.party.pattern) v.sent v.received v.party.pattern v.party.passed opens)

-- one to which messages of its handshake are to come isn't open
pub closed-yet : (v : EndState) → v.party.passed < length v.party.pattern.messages → IsTrue (is_open (progress_of v)) → ⊥
closed-yet v more opens = let all = open-passed v opens in omega arith

module _ {K : Type 0} (pairs : K → KeyPairs) where
  pub phase-progress : (p : Phase K) (v : EndState) → PhaseMatches pairs p v → progress_in p ≡ progress_of v
  phase-progress (phase.Handshaking h every) v s =
      ap (λ (z : Party). Handshaking z.pattern z.role z.passed) s.party.is ∙ sym (progress-handshaking v s.going s.more)
  phase-progress (phase.Open t) v s = search progress-open
  phase-progress (phase.Ended role reported) v s = ap HasEnded s.role ∙ sym (progress-ended_session v s.ended)

  -- its step where it takes no bytes now
  pub phase-idle : (p : Phase K) (v : EndState) (step : Option StepValue) → PhaseMatches pairs p v → idle_step (progress_in p) ≡ step
      → idle_step (progress_of v) ≡ step
  phase-idle p v step s idle = ap idle_step (sym (phase-progress p v s)) ∙ idle

  -- the phase of a handshake, and of a transport
  pub as-handshake : (p : Phase K) (h : HandshakeValue K) (every : ℕ) (v : EndState) → p ≡ phase.Handshaking h every → PhaseMatches pairs p v
      → HandshakeMatches pairs h every v
  as-handshake p h every v is s = subst (λ (q : Phase K). PhaseMatches pairs q v) is s

  pub as-open : (p : Phase K) (t : TransportValue) (v : EndState) → p ≡ phase.Open t → PhaseMatches pairs p v → OpenMatches t v
  as-open p t v is s = subst (λ (q : Phase K). PhaseMatches pairs q v) is s

  -- why nothing is written in this phase
  pub refused-by : (p q : Phase K) (v : EndState) (n : ℕ) (why : Option SendFault) → PhaseMatches pairs p v → p ≡ q
      → refusal (progress_in q) n ≡ why → refusal (progress_of v) n ≡ why
  refused-by p q v n why s is e = search rules

  -- its hash, and the other party's static key
  phase-hash : (p : Phase K) (v : EndState) → PhaseMatches pairs p v → hash_in p ≡ session_hash v
  phase-hash (phase.Handshaking h every) v s = sym (no-hash v s.more)
  phase-hash (phase.Open t) v s = ap (λ (h : List ℕ). Some h) s.transport.hash ∙ sym (whole-hash v s.all)
  phase-hash (phase.Ended role reported) v s = s.hash

  phase-remote : (p : Phase K) (v : EndState) → PhaseMatches pairs p v → remote_static_in p ≡ session_remote_static v
  phase-remote (phase.Handshaking h every) v s = rw (s.going, ap (λ (z : Party). z.remote) s.party.is) refl
  phase-remote (phase.Open t) v s = rw (s.going, s.transport.remote_static) refl
  phase-remote (phase.Ended role reported) v s = rw s.ended refl

  pub end-reported : (e : EndValue K) (v : EndState) → EndMatches pairs e v → IsReportedBy v e
  end-reported e v s = search (phase-progress, phase-hash, phase-remote)

  -- what is held of a frame doesn't count
  pub phase-partial : (p : Phase K) (v : EndState) (partial : List ℕ) → PhaseMatches pairs p v
      → PhaseMatches pairs p (record v { partial = partial })
  phase-partial (phase.Handshaking h every) v partial s = search
  phase-partial (phase.Open t) v partial s = record { going = s.going; all = s.all; transport = s.transport }
  phase-partial (phase.Ended role reported) v partial s = record { ended = s.ended; role = s.role; hash = s.hash }

  -- what is left of it where the session ends
  pub phase-ended : (p : Phase K) (v : EndState) → PhaseMatches pairs p v → PhaseMatches pairs (ended_in p) (ended_session v)
  phase-ended (phase.Handshaking h every) v s = record { ended = refl; role = ap (λ (z : Party). z.role) s.party.is; hash = sym (no-hash v s.more) }
  phase-ended (phase.Open t) v s = search whole-hash
  phase-ended (phase.Ended role reported) v s = record { ended = refl; role = s.role; hash = s.hash }

pub not-long : (n : ℕ) → nat_lt 65535 n ≡ false → n ≤ 65535
not-long n e = grind (arith, nat_tests)
