-- From one call of an end to a run.
use Rattle.std.proofs.Common.{rules, ◌≡◌, ℕ, ◌+◌, ◌<◌, ◌≤◌, List, ◌∷◌, ◌++◌, length, take, drop, true, false, ◌&&◌, if◌then◌else◌, Bool, Option, Some, None, Ok, refl, ap, sym, subst, ◌∙◌, arith, append_assoc, append-nil, length-append, Vec, Global, take-take, []}
use Rattle.std.proofs.Math.Seq.{take-append_seam, drop-append_seam, drop-append-add, drop-length}
use Rattle.noise_duel.proofs.Common.{map-append, take-append-le, Initiator, same_role, frame, IsPartial, StepValue, Progress, idle_step, Handshaking, HasEnded, EndState, progress_of, Judges, Takes, accepted, dropped, exhausted, Sends, sends_handshake, sends_transport, bytes_of, step_of, Note, Wrote, Judged, Side, with_state, wrote_handshake, wrote_transport, accepted_handshake, accepted_transport, SideWrites, SideReads, SideReceives, writes_handshake, writes_transport, accepts_handshake, accepts_transport, refuses_message, is_idle, waits, reads_frame, step_note, left_of, frame-whole, same_Some}
use Rattle.noise_handshake.specs.HandshakeValue.{is_turn}
use Rattle.noise_session.specs.Steps.StepValue.{Ended, YourTurn, Silent}
use Rattle.noise_session.specs.Progress.Progress.{Open}
use Rattle.noise_session.specs.Taking.Judges.{refused, opened}
use Rattle.noise_session.specs.Taking.Takes.{idles, waits as waits_for_more, judges}
use Rattle.noise_duel.specs.declared.entry.Idle.{Idle}
use Rattle.noise_duel.specs.declared.entry.Idle.TheVariants as idle

-- the front of a buffer whose front was written
pub front-of : (out xs : List ℕ) (n len : ℕ) → n ≤ len → n ≤ length out → take n (take len (out ++ xs)) ≡ take n out
front-of out xs n len f g = take-take n len (out ++ xs) f ∙ take-append-le n out xs g

-- a frame more
pub frames-unchanged : (old new : List (Vec ℕ Global)) (f : Vec ℕ Global) (bytes : List ℕ) (frames after : List (List ℕ)) → new ≡ old ++ f ∷ [] → f.items ≡ bytes
    → bytes_of old ≡ frames → after ≡ frames ++ bytes ∷ [] → bytes_of new ≡ after
frames-unchanged old new f bytes frames after e is same more = search (rules, map-append)

-- a write that succeeds
pub record HasSent (s : Side) (payload bytes : List ℕ) (next : EndState) : Type 0 where
  pub after : Side
  pub writes : SideWrites s payload (Wrote (length s.frames)) after
  pub state : after.state ≡ next
  pub frames : after.frames ≡ s.frames ++ bytes ∷ []

pub sends-writes : (s : Side) (payload bytes : List ℕ) (next : EndState) → Sends s.state payload (Ok bytes) next → HasSent s payload bytes next
sends-writes s payload bytes next (sends_handshake _ _ message xs e w) = record {
  after = wrote_handshake s (record { message = message; carried = xs; payload = payload });
  writes = writes_handshake s message payload xs e w;
  state = refl;
  frames = refl;
}
sends-writes s payload bytes next (sends_transport _ _ e due) = record {
  after = wrote_transport s (record { message = _; payload = payload });
  writes = writes_transport s _ payload e due refl;
  state = refl;
  frames = refl;
}

-- a message that is judged
pub record HasRead (s : Side) (message : List ℕ) (step : StepValue) (next : EndState) : Type 0 where
  pub after : Side
  pub reads : SideReads s message step after
  pub state : after.state ≡ next
  pub frames : after.frames ≡ s.frames
  pub note : step_note step ≡ Judged step ∷ []

pub judges-reads : (s : Side) (message : List ℕ) (step : StepValue) (next : EndState) → Judges s.state message step next → HasRead s message step next
judges-reads s message step next (accepted _ _ payload xs a) = record {
  after = accepted_handshake s (record { message = message; carried = xs; payload = payload });
  reads = accepts_handshake s message payload xs a;
  state = refl;
  frames = refl;
  note = refl;
}
judges-reads s message step next (refused _ _ token cause r) = record {
  after = with_state s next;
  reads = refuses_message s message step next tt (refused s.state message token cause r);
  state = refl;
  frames = refl;
  note = refl;
}
judges-reads s message step next (opened _ _ payload due low is) = record {
  after = accepted_transport s (record { message = message; payload = payload });
  reads = accepts_transport s message payload due low is;
  state = refl;
  frames = refl;
  note = refl;
}
judges-reads s message step next (dropped _ _ due low never) = record {
  after = with_state s next;
  reads = refuses_message s message step next tt (dropped s.state message due low never);
  state = refl;
  frames = refl;
  note = refl;
}
judges-reads s message step next (exhausted _ _ due full) = record {
  after = with_state s next;
  reads = refuses_message s message step next tt (exhausted s.state message due full);
  state = refl;
  frames = refl;
  note = refl;
}

-- how a message is judged doesn't depend on what was held
judges-any : (v next : EndState) (partial message : List ℕ) (step : StepValue) → Judges (record v { partial = partial }) message step next → Judges v message step next
judges-any v next partial message step (accepted _ _ payload xs a) = accepted v message payload xs a
judges-any v next partial message step (refused _ _ token cause r) = refused v message token cause r
judges-any v next partial message step (opened _ _ payload due low is) = opened v message payload due low is
judges-any v next partial message step (dropped _ _ due low never) = dropped v message due low never
judges-any v next partial message step (exhausted _ _ due full) = exhausted v message due full

reads-any : (s next : Side) (partial message : List ℕ) (step : StepValue) → SideReads (with_state s (record (s.state) { partial = partial })) message step next
    → SideReads s message step next
reads-any s next partial message step (accepts_handshake _ _ payload xs a) = accepts_handshake s message payload xs a
reads-any s next partial message step (accepts_transport _ _ payload due low is) = accepts_transport s message payload due low is
reads-any s next partial message step (refuses_message _ _ _ after none j) =
    refuses_message s message step after none (judges-any s.state after partial message step j)

-- bytes that come after others that made no whole frame
receives-later : (s last : Side) (front bytes : List ℕ) (notes : List Note) → idle_step (progress_of s.state) ≡ None
    → SideReceives (with_state s (record (s.state) { partial = s.state.partial ++ front })) bytes notes last → SideReceives s (front ++ bytes) notes last
receives-later s last front bytes notes due (is_idle _ _ step e) = cc
receives-later s last front bytes notes due (waits _ _ e partial) =
    let same : (s.state.partial ++ front) ++ bytes ≡ s.state.partial ++ (front ++ bytes) = append_assoc s.state.partial front bytes in
    subst (λ (partial : List ℕ). SideReceives s (front ++ bytes) [] (with_state s (record (s.state) { partial = partial }))) (sym same)
    (waits s (front ++ bytes) due (subst (λ (partial : List ℕ). IsPartial partial) same partial))
receives-later s last front bytes notes due (reads_frame _ next _ _ message rest step more e is short reads on) =
    reads_frame s next last (front ++ bytes) message rest step more due (sym (append_assoc s.state.partial front bytes) ∙ is) short
    (reads-any s next (s.state.partial ++ front) message step reads) on

-- nothing more comes
nothing-at : (s : Side) (idle : Option StepValue) → idle_step (progress_of s.state) ≡ idle → IsPartial s.state.partial → SideReceives s [] [] s
nothing-at s None e partial =
    subst (λ (partial : List ℕ). SideReceives s [] [] (with_state s (record (s.state) { partial = partial }))) (append-nil s.state.partial)
    (waits s [] e (subst (λ (partial : List ℕ). IsPartial partial) (sym (append-nil s.state.partial)) partial))
nothing-at s (Some step) e partial = is_idle s [] step e

pub receives-nothing : (s : Side) → IsPartial s.state.partial → SideReceives s [] [] s
receives-nothing s partial = nothing-at s (idle_step (progress_of s.state)) refl partial

-- one take, with what comes after the piece
pub record HasDelivered (s : Side) (piece : List ℕ) (n : ℕ) (step : StepValue) (next : EndState) : Type 0 where
  pub after : Side
  pub state : after.state ≡ next
  pub frames : after.frames ≡ s.frames
  pub goes_on : (rest : List ℕ) (notes : List Note) (last : Side) → SideReceives after (drop n piece ++ rest) notes last
      → SideReceives s (piece ++ rest) (step_note step ++ notes) last

-- the steps of ends that take no bytes
pub record IsIdleStep (step : StepValue) : Type 0 where
  pub why : Idle
  pub left : (n : ℕ) → left_of step n ≡ Some (why, n)
  pub is : step_of why ≡ step
  pub quiet : step_note step ≡ []

idle-turn : (turn : Bool) (step : StepValue) → (if turn then Some YourTurn else None) ≡ Some step → IsIdleStep step
idle-turn true step e = subst IsIdleStep (same_Some YourTurn step e) (record { why = idle.YourTurn; left = λ n. refl; is = refl; quiet = refl })
idle-turn false step e = cc

idle-silent : (silent : Bool) (step : StepValue) → (if silent then Some Silent else None) ≡ Some step → IsIdleStep step
idle-silent true step e = subst IsIdleStep (same_Some Silent step e) (record { why = idle.Silent; left = λ n. refl; is = refl; quiet = refl })
idle-silent false step e = cc

pub is-idle : (p : Progress) (step : StepValue) → idle_step p ≡ Some step → IsIdleStep step
is-idle (Handshaking pattern role passed) step e = idle-turn (is_turn role passed) step e
is-idle (Open role one_way sent received) step e = idle-silent (one_way && same_role role Initiator) step e
is-idle (HasEnded role) step e = subst IsIdleStep (same_Some Ended step e) (record { why = idle.Ended; left = λ n. refl; is = refl; quiet = refl })

-- what is after a frame stands after the bytes that were taken
rest-taken : (partial piece message rest : List ℕ) (n : ℕ) → partial ++ piece ≡ frame message ++ rest → n + length rest ≡ length piece → drop n piece ≡ rest
rest-taken partial piece message rest n e count =
    let long : length partial + n ≡ length (frame message) = omega (arith, ap length e, length-append partial piece, length-append (frame message) rest, count) in
    sym (drop-append-add partial piece n) ∙ ap (λ (k : ℕ). drop k (partial ++ piece)) long ∙ ap (drop (length (frame message))) e
    ∙ drop-append_seam (frame message) rest

pub takes-taken : (s : Side) (piece : List ℕ) (n : ℕ) (step : StepValue) (next : EndState) → Takes s.state piece n step next → HasDelivered s piece n step next
takes-taken s piece n step next (idles _ _ _ e) = record {
  after = s;
  state = refl;
  frames = refl;
  goes_on = search rules;
}
takes-taken s piece n step next (waits_for_more _ _ e partial) = record {
  after = with_state s (record (s.state) { partial = s.state.partial ++ piece });
  state = refl;
  frames = refl;
  goes_on = λ rest notes last h.
      let after = with_state s (record (s.state) { partial = s.state.partial ++ piece }) in
      receives-later s last piece rest notes e (subst (λ (bytes : List ℕ). SideReceives after (bytes ++ rest) notes last) (drop-length piece) h);
}
takes-taken s piece n step next (judges _ _ _ message beyond _ _ e is short count j) =
    let r = judges-reads s message step next j in
    record {
      after = r.after;
      state = r.state;
      frames = r.frames;
      goes_on = λ rest notes last h.
          subst (λ (ms : List Note). SideReceives s (piece ++ rest) (ms ++ notes) last) (sym r.note)
          (reads_frame s r.after last (piece ++ rest) message (beyond ++ rest) step notes e
          (sym (append_assoc s.state.partial piece rest) ∙ ap (λ (z : List ℕ). z ++ rest) is ∙ append_assoc (frame message) beyond rest) short r.reads
          (subst (λ (bytes : List ℕ). SideReceives r.after (bytes ++ rest) notes last) (rest-taken s.state.partial piece message beyond n is count) h));
    }

-- an end that takes none of some bytes is idle, and stays as it is
pub takes-none : (v next : EndState) (piece : List ℕ) (n : ℕ) (step : StepValue) → Takes v piece n step next → n ≡ 0 → 0 < length piece → IsPartial v.partial
    → (idle_step (progress_of v) ≡ Some step) × (next ≡ v)
takes-none v next piece n step (idles _ _ _ e) none some partial = (e, refl)
takes-none v next piece n step (waits_for_more _ _ e f) none some partial = absurd (omega (arith, none, some))
takes-none v next piece n step (judges _ _ _ message rest _ _ e is short count j) none some partial =
    let long : length v.partial ≡ length (frame message) =
    omega (arith, ap length is, length-append v.partial piece, length-append (frame message) rest, count, none) in
    let same : v.partial ≡ frame message =
    sym (take-append_seam v.partial piece) ∙ ap (λ (k : ℕ). take k (v.partial ++ piece)) long ∙ ap (take (length (frame message))) is
    ∙ take-append_seam (frame message) rest in
    absurd (frame-whole message [] short (subst (λ (bytes : List ℕ). IsPartial bytes) (same ∙ sym (append-nil (frame message))) partial))
