-- A message is judged as an open transport judges it.
use Rattle.std.proofs.Common.{◌≡◌, ◌≢◌, ℕ, ◌-◌, ◌==◌, ◌&&◌, nat_lt, ◌+◌, List, [], length, take, Bool, true, false, Option, Some, None, Result, Ok, Err, MatchOption, IfErr, if◌then◌else◌, refl, sym, ◌∙◌, ap, subst, arith}
use Rattle.noise_session.proofs.Common.{⊤, slice_range, Initiator, same_role, Cause, OpenFault, Payload, Dropped, Exhausted, last_nonce, TransportValue, open_fault, unopened_fault, due_message, EndState, OpenMatches, EndedMatches, transport_in, ended_session, Judges, dropped, exhausted, eqb-true, eqb-false}
use Rattle.noise_handshake.specs.declared.faults.Cause.TheVariants.{Short, Tag}
use Rattle.noise_session.specs.Taking.Judges.{opened}
use Rattle.noise_session.proofs.Parties.{is-open, whole-hash}
use Rattle.noise_session.specs.declared.faults.OpenFault.TheVariants as unopened

-- what a result reports of the fault that comes before any message is looked at
abbrev tested : Bool → Bool → Option OpenFault
tested silent last = if silent then Some unopened.OneWay else if last then Some unopened.Exhausted else None

abbrev IsResult : Bool → Bool → ℕ → Result ℕ OpenFault → Type 0
IsResult silent last n r = MatchOption (tested silent last) (IfErr r (λ f. f ≡ unopened_fault n)) (λ f. r ≡ Err f)

reported-ok : (silent last : Bool) (n m : ℕ) → IsResult silent last n (Ok m) → last ≡ false
reported-ok true last n m h = cc
reported-ok false true n m h = cc
reported-ok false false n m h = refl

-- a fault of a message's own, and the cause that is reported of it
abbrev pub IsOwn : OpenFault → Type 0
IsOwn unopened.Short = ⊤
IsOwn unopened.Tag = ⊤
IsOwn _ = ⊥

abbrev pub cause_in : OpenFault → Cause
cause_in unopened.Short = Short
cause_in _ = Tag

reported-own : (silent last : Bool) (n : ℕ) (f : OpenFault) → IsOwn f → IsResult silent last n (Err f) → (silent ≡ false) × (last ≡ false) × (f ≡ unopened_fault n)
reported-own true last n f own h = let is : f ≡ unopened.OneWay = cc in absurd (subst IsOwn is own)
reported-own false true n f own h = let is : f ≡ unopened.Exhausted = cc in absurd (subst IsOwn is own)
reported-own false false n f own h = (refl, refl, h)

own-cause : (short : Bool) (f : OpenFault) → f ≡ (if short then unopened.Short else unopened.Tag) → (if short then Short else Tag) ≡ cause_in f
own-cause true f e = sym (ap cause_in e)
own-cause false f e = sym (ap cause_in e)

-- it isn't Exhausted
own-fault : (short : Bool) → unopened.Exhausted ≡ (if short then unopened.Short else unopened.Tag) → ⊥
own-fault true e = cc
own-fault false e = cc

reported-exhausted : (silent last : Bool) (n : ℕ) → IsResult silent last n (Err unopened.Exhausted) → last ≡ true
reported-exhausted true last n h = cc
reported-exhausted false true n h = refl
reported-exhausted false false n h = absurd (own-fault (nat_lt n 16) h)

module _ (t : TransportValue) (v : EndState) (s : OpenMatches t v) (message : List ℕ) where
  abbrev silent : Bool
  silent = t.one_way && same_role t.role Initiator

  abbrev last : Bool
  last = t.receive_nonce == last_nonce

  not-last : last ≡ false → v.received ≢ last_nonce
  not-last e = λ same. eqb-false t.receive_nonce last_nonce e (s.transport.receiver.nonce ∙ same)

  pub opened-as : (n : ℕ) (after : List ℕ) → IsResult silent last (length message) (Ok n)
      → message ≡ due_message (transport_in v) (take n after)
      → Judges v message (Payload (slice_range after 0 n)) (record v { received = v.received + 1; partial = [] })
  opened-as n after fault is =
      let all : n ≡ n - 0 = omega arith in
      subst (λ (k : ℕ). Judges v message (Payload (take k after)) (record v { received = v.received + 1; partial = [] })) all
      (opened v message (take n after) (is-open v t s) (not-last (reported-ok silent last (length message) n fault)) is)

  pub dropped-as : (f : OpenFault) → IsOwn f → IsResult silent last (length message) (Err f)
      → (open_fault t ≡ None → (payload : List ℕ) → message ≢ due_message (transport_in v) payload)
      → Judges v message (Dropped (cause_in f)) (record v { partial = [] })
  dropped-as f own fault not =
      let r = reported-own silent last (length message) f own fault in
      let free : open_fault t ≡ None = rw (r.0, r.1) refl in
      subst (λ (c : Cause). Judges v message (Dropped c) (record v { partial = [] })) (own-cause (nat_lt (length message) 16) f r.2)
      (dropped v message (is-open v t s) (not-last r.1) (not free))

  pub exhausted-as : IsResult silent last (length message) (Err unopened.Exhausted) → Judges v message Exhausted (ended_session v)
  exhausted-as fault =
      exhausted v message (is-open v t s)
      (sym s.transport.receiver.nonce ∙ eqb-true t.receive_nonce last_nonce (reported-exhausted silent last (length message) fault))

  pub ended-open : EndedMatches t.role (Some t.hash) (ended_session v)
  ended-open = search whole-hash
