-- Frames that one end writes, joined and cut anywhere, are their payloads at the other end.
use Rattle.std.proofs.Common.{◌≡◌, ℕ, ◌+◌, ◌^◌, ◌<◌, ◌≤◌, List, [], ◌∷◌, ◌++◌, length, take, drop, Option, Some, None, Ok, refl, ap, sym, subst, ◌∙◌, arith, append_assoc, append-nil, length-append}
use Rattle.std.proofs.lemmas.Bool.Decides.{nat_tests}
use Rattle.std.proofs.lemmas.List.{append_cancel_left, drop_at, nil_from_length, take-append-le, take_at, take-append-drop}
use Rattle.byteorder.specs.Endian.{big_bytes, big_number}
use Rattle.byteorder.specs.Numbers.{big_number-reads_back}
use Rattle.std.specs.List.{concat}
use Rattle.std.specs.Prelude.{◌&&◌, nat_lt}
use Rattle.noise_names.specs.Validity.{IsValid}
use Rattle.noise_theorems.proofs.Common.{map-append, Bool, true, false, if◌then◌else◌, StepValue, EndState, progress_of, idle_step, same_role, Judges, Takes, Note, Wrote, Judged, left_note, Side, with_state, accepted_handshake, accepted_transport, Initiator}
use Rattle.noise_handshake.specs.HandshakeValue.{is_turn}
use Rattle.noise_session.specs.Counterparts.{EndCounterparts}
use Rattle.noise_session.specs.Frames.{frame, IsPartial}
use Rattle.noise_session.specs.Framing.{frame-same, frame-whole}
use Rattle.noise_session.specs.Progress.{Progress}
use Rattle.noise_session.specs.Progress.Progress.{Handshaking, Open, HasEnded}
use Rattle.noise_session.specs.Sending.{Sends}
use Rattle.noise_session.specs.Sending.Sends.{sends_handshake, sends_transport}
use Rattle.noise_session.specs.Steps.StepValue.{More, Payload, YourTurn, Silent}
use Rattle.noise_session.specs.Taking.Judges.{accepted, refused, opened, dropped, exhausted}
use Rattle.noise_session.specs.Taking.Takes.{idles, waits as waits_for_more, judges}
use Rattle.noise_duel.specs.Runs.{SideWrites, SideReads, SideReceives}
use Rattle.noise_duel.specs.Runs.SideWrites.{writes_handshake, writes_transport}
use Rattle.noise_duel.specs.Runs.SideReads.{accepts_handshake, accepts_transport, refuses_message}
use Rattle.noise_duel.specs.Runs.SideReceives.{is_idle, waits, reads_frame}
use Rattle.noise_theorems.specs.Joined.{WritesAll, ReceivesAll, accepted_notes, bytes_since, JoinedFramesCome, JoinedFramesComeWhole, JoinedFramesCanCome}
use Rattle.noise_theorems.specs.Joined.WritesAll.{stops as writes_no_more, goes_on as writes_on}
use Rattle.noise_theorems.specs.Joined.ReceivesAll.{stops, goes_on}

-- ---- what is to come to an end

-- These bytes are frames, of which the end accepts each as one of these payloads; what it holds of a frame doesn't
-- count. After them it is another end.
data Coming : EndState → List ℕ → List (List ℕ) → EndState → Type 0 where
  no_more : (v y : EndState) → record v { partial = [] } ≡ y → Coming v [] [] y
  comes : (v x y : EndState) (message payload rest : List ℕ) (more : List (List ℕ)) → idle_step (progress_of v) ≡ None → length message ≤ 65535
      → Judges v message (Payload payload) x → Coming x rest more y → Coming v (frame message ++ rest) (payload ∷ more) y

-- what is held doesn't count where a whole message is judged
judged-holding : (v x : EndState) (q message : List ℕ) (step : StepValue) → Judges v message step x → Judges (record v { partial = q }) message step x
judged-holding v x q m step (accepted _ _ p xs a) = accepted (record v { partial = q }) m p xs a
judged-holding v x q m step (refused _ _ k c r) = refused (record v { partial = q }) m k c r
judged-holding v x q m step (opened _ _ p opens low is) = opened (record v { partial = q }) m p opens low is
judged-holding v x q m step (dropped _ _ opens low never) = dropped (record v { partial = q }) m opens low never
judged-holding v x q m step (exhausted _ _ opens last) = exhausted (record v { partial = q }) m opens last

-- and none of it is left
judged-bare : (v x : EndState) (message : List ℕ) (step : StepValue) → Judges v message step x → x.partial ≡ []
judged-bare v x m step (accepted _ _ p xs a) = refl
judged-bare v x m step (refused _ _ k c r) = refl
judged-bare v x m step (opened _ _ p opens low is) = refl
judged-bare v x m step (dropped _ _ opens low never) = refl
judged-bare v x m step (exhausted _ _ opens last) = refl

coming-holding : (v y : EndState) (q bytes : List ℕ) (ps : List (List ℕ)) → Coming v bytes ps y → Coming (record v { partial = q }) bytes ps y
coming-holding v y q bytes ps (no_more _ _ is) = no_more (record v { partial = q }) y is
coming-holding v y q bytes ps (comes _ x _ m p rest more listens short j on) =
    comes (record v { partial = q }) x y m p rest more listens short (judged-holding v x q m (Payload p) j) on

coming-more : (v x y : EndState) (bytes others : List ℕ) (ps qs : List (List ℕ)) → Coming v bytes ps x → Coming x others qs y
    → Coming v (bytes ++ others) (ps ++ qs) y
coming-more v x y bytes others ps qs (no_more _ _ is) on = bare (subst (λ (z : EndState). Coming z others qs y) (sym is) on)
  where
    bare : Coming (record v { partial = [] }) others qs y → Coming v others qs y
    bare c = coming-holding (record v { partial = [] }) y v.partial others qs c
coming-more v x y bytes others ps qs (comes _ z _ m p rest more listens short j between) on =
    subst (λ (b : List ℕ). Coming v b (p ∷ (more ++ qs)) y) (sym (append_assoc (frame m) rest others))
    (comes v z y m p (rest ++ others) (more ++ qs) listens short j (coming-more z x y rest others more qs between on))

-- ---- what is written is to come

record HasSent (s : Side) (payload : List ℕ) (next : Side) : Type 0 where
  pub bytes : List ℕ
  pub sends : Sends s.state payload (Ok bytes) next.state
  pub frames : next.frames ≡ s.frames ++ bytes ∷ []
  pub pattern : next.state.party.pattern ≡ s.state.party.pattern

sent : (s : Side) (payload : List ℕ) (next : Side) (n : ℕ) → SideWrites s payload (Wrote n) next → HasSent s payload next
sent s payload next n (writes_handshake _ message _ xs due writes) = record {
  bytes = frame message;
  sends = sends_handshake s.state payload message xs due writes;
  frames = refl;
  pattern = refl;
}
sent s payload next n (writes_transport _ message _ due opens is) = record {
  bytes = frame message;
  sends = subst (λ (m : List ℕ). Sends s.state payload (Ok (frame m)) (record (s.state) { sent = s.state.sent + 1 })) (sym is)
      (sends_transport s.state payload due opens);
  frames = refl;
  pattern = refl;
}

-- an end that takes no bytes hands out no payload
turn-not : (turn : Bool) (payload : List ℕ) → (if turn then Some YourTurn else None) ≡ Some (Payload payload) → ⊥
turn-not true payload e = cc
turn-not false payload e = cc

silent-not : (silent : Bool) (payload : List ℕ) → (if silent then Some Silent else None) ≡ Some (Payload payload) → ⊥
silent-not true payload e = cc
silent-not false payload e = cc

idles-not : (p : Progress) (payload : List ℕ) → idle_step p ≡ Some (Payload payload) → ⊥
idles-not (Handshaking pattern role passed) payload e = turn-not (is_turn role passed) payload e
idles-not (Open role one_way n m) payload e = silent-not (one_way && same_role role Initiator) payload e
idles-not (HasEnded role) payload e = cc

more-not : (payload : List ℕ) → More ≡ Payload payload → ⊥
more-not payload e = cc

-- a whole piece that is a payload's is a frame
taken-comes : (v y : EndState) (f payload : List ℕ) (k : ℕ) (step : StepValue) → k ≡ length f → step ≡ Payload payload → v.partial ≡ [] → Takes v f k step y
    → Coming v f (payload ∷ []) y
taken-comes v y f payload k step all e bare (idles _ _ _ idle) = absurd (idles-not (progress_of v) payload (idle ∙ ap (λ (s : StepValue). Some s) e))
taken-comes v y f payload k step all e bare (waits_for_more _ _ listens part) = absurd (more-not payload e)
taken-comes v y f payload k step all e bare (judges _ _ _ message rest _ _ listens is short count j) =
    let over : rest ≡ [] = nil_from_length rest (omega (arith, count, all)) in
    let whole : f ≡ frame message ++ [] = ap (λ (h : List ℕ). h ++ f) (sym bare) ∙ is ∙ ap (λ (r : List ℕ). frame message ++ r) over in
    let here : Judges v message (Payload payload) y = subst (λ (s : StepValue). Judges v message s y) e j in
    subst (λ (b : List ℕ). Coming v b (payload ∷ []) y) (sym whole)
    (comes v y y message payload [] [] listens short here (no_more y y (ap (λ (q : List ℕ). record y { partial = q }) (sym (judged-bare v y message (Payload payload) here)))))

record IsToCome (s last : Side) (v : EndState) (payloads : List (List ℕ)) : Type 0 where
  pub frames : List (List ℕ)
  pub frames_are : last.frames ≡ s.frames ++ frames
  pub after : EndState
  pub coming : Coming v (concat frames) payloads after
  pub ends : EndCounterparts last.state after

abbrev WrittenIsReceived : Type 0
WrittenIsReceived = (v w x : EndState) (payload f : List ℕ) → IsValid v.party.pattern → EndCounterparts v w → Sends v payload (Ok f) x
    → (y : EndState) × Takes w f (length f) (Payload payload) y × EndCounterparts x y

abbrev JudgedOnce : Type 0
JudgedOnce = (v x y : EndState) (m : List ℕ) (s t : StepValue) → Judges v m s x → Judges v m t y → (s ≡ t) × (x ≡ y)

to-come : WrittenIsReceived → (s last : Side) (v : EndState) (payloads : List (List ℕ)) → IsValid s.state.party.pattern → EndCounterparts s.state v
    → WritesAll s payloads last → IsToCome s last v payloads
to-come law s last v payloads valid c (writes_no_more _) = record {
  frames = [];
  frames_are = sym (append-nil s.frames);
  after = v;
  coming = no_more v v (ap (λ (q : List ℕ). record v { partial = q }) (sym c.partial_there));
  ends = c;
}
to-come law s last v payloads valid c (writes_on _ next _ payload n more here on) =
    let w = sent s payload next n here in
    let t = law s.state v next.state payload w.bytes valid c w.sends in
    let first = taken-comes v t.0 w.bytes payload (length w.bytes) (Payload payload) refl refl c.partial_there t.1 in
    let r = to-come law next last t.0 more (subst IsValid (sym w.pattern) valid) t.2 on in
    record {
      frames = w.bytes ∷ r.frames;
      frames_are = r.frames_are ∙ ap (λ (fs : List (List ℕ)). fs ++ r.frames) w.frames ∙ append_assoc s.frames (w.bytes ∷ []) r.frames;
      after = r.after;
      coming = coming-more v t.0 r.after w.bytes (concat r.frames) (payload ∷ []) more first r.coming;
      ends = r.ends;
    }

-- ---- a piece comes

record HasCome (r : Side) (notes : List Note) (later : List ℕ) (ps : List (List ℕ)) (y : EndState) : Type 0 where
  pub came : List (List ℕ)
  pub more : List (List ℕ)
  pub split : ps ≡ came ++ more
  pub notes_are : notes ≡ accepted_notes came
  pub coming : Coming r.state (r.state.partial ++ later) more y
  pub partial : IsPartial r.state.partial

read : (t next : Side) (message : List ℕ) (step : StepValue) → SideReads t message step next → Judges t.state message step next.state
read t next message step (accepts_handshake _ _ p xs a) = accepted t.state message p xs a
read t next message step (accepts_transport _ _ p opens low is) = opened t.state message p opens low is
read t next message step (refuses_message _ _ _ after bad j) = j

no-bytes : (a b : List ℕ) → [] ≡ a ++ b → (a ≡ []) × (b ≡ [])
no-bytes [] b e = (refl, sym e)
no-bytes (x ∷ a) b e = cc

no-frame : (m rest later : List ℕ) → [] ≡ (frame m ++ rest) ++ later → ⊥
no-frame m rest later e = cc

-- the front of a frame is less than one
front-partial : (p later m rest : List ℕ) → p ++ later ≡ frame m ++ rest → length p < 2 + length m → length m ≤ 65535 → IsPartial p
front-partial [] later m rest e less short = omega arith
front-partial (a ∷ []) later m rest e less short = omega arith
front-partial (a ∷ b ∷ p) later m rest e less short =
    let fits : length m < 256 ^ 2 = omega arith in
    let same : big_number 2 (a ∷ b ∷ p) ≡ big_number 2 (frame m ++ rest) = ap (big_number 2) e in
    let number : big_number 2 (frame m ++ rest) ≡ length m =
    ap (big_number 2) (append_assoc (big_bytes 2 (length m)) m rest) ∙ big_number-reads_back 2 (length m) (m ++ rest) fits in
    let is : big_number 2 (a ∷ b ∷ p) ≡ length m = same ∙ number in
    grind (arith, nat_tests)

-- a frame that has come is the first part of what has
record HasFrame (p later m rest : List ℕ) : Type 0 where
  pub left : List ℕ
  pub cut : p ≡ frame m ++ left
  pub rest_is : rest ≡ left ++ later

has-frame : (p later m rest : List ℕ) → p ++ later ≡ frame m ++ rest → length (frame m) ≤ length p → HasFrame p later m rest
has-frame p later m rest e long =
    let n : ℕ = length (frame m) in
    let first : take n p ≡ frame m = sym (take-append-le n p later long) ∙ ap (take n) e ∙ take_at (frame m) rest n refl in
    let cut : p ≡ frame m ++ drop n p = sym (take-append-drop n p) ∙ ap (λ (q : List ℕ). q ++ drop n p) first in
    record {
      left = drop n p;
      cut = cut;
      rest_is = append_cancel_left (frame m) rest (drop n p ++ later)
          (sym e ∙ ap (λ (q : List ℕ). q ++ later) cut ∙ append_assoc (frame m) (drop n p) later);
    }

record CanRead (t : Side) (message : List ℕ) (step : StepValue) (x : EndState) : Type 0 where
  pub after : Side
  pub reads : SideReads t message step after
  pub state : after.state ≡ x

can-read : (t : Side) (message payload : List ℕ) (step : StepValue) (x : EndState) → step ≡ Payload payload → Judges t.state message step x
    → CanRead t message step x
can-read t m payload step x e (accepted _ _ p xs a) = record {
  after = accepted_handshake t (record { message = m; carried = xs; payload = p });
  reads = accepts_handshake t m p xs a;
  state = refl;
}
can-read t m payload step x e (opened _ _ p opens low is) = record {
  after = accepted_transport t (record { message = m; payload = p });
  reads = accepts_transport t m p opens low is;
  state = refl;
}
can-read t m payload step x e (refused _ _ k c r) = cc
can-read t m payload step x e (dropped _ _ opens low never) = cc
can-read t m payload step x e (exhausted _ _ opens last) = cc

abbrev CanReceive : Side → List ℕ → Type 0
CanReceive t piece = (notes : List Note) × (r : Side) × SideReceives t piece notes r

can-rest : (t : Side) (piece : List ℕ) → t.state.partial ++ piece ≡ [] → CanReceive t piece
can-rest t piece none = go (idle_step (progress_of t.state)) refl
  where
    go : (o : Option StepValue) → idle_step (progress_of t.state) ≡ o → CanReceive t piece
    go (Some step) e = (left_note step (length piece), t, is_idle t piece step e)
    go None e =
        let partial : IsPartial [] = omega arith in
        ([], with_state t (record (t.state) { partial = t.state.partial ++ piece }), waits t piece e (subst IsPartial (sym none) partial))

can-receive : (t : Side) (v y : EndState) (piece later bytes : List ℕ) (ps : List (List ℕ)) → t.state ≡ v
    → bytes ≡ (t.state.partial ++ piece) ++ later → Coming v bytes ps y → CanReceive t piece
can-receive t v y piece later bytes ps at is (no_more _ _ last) =
    can-rest t piece (no-bytes (t.state.partial ++ piece) later is).0
can-receive t v y piece later bytes ps at is (comes _ x _ m p rest more listens short j on) =
    go (λ r left at_x cut. can-receive r x y left later rest more at_x cut on)
    (nat_lt (length (t.state.partial ++ piece)) (length (frame m))) refl
  where
    idle : idle_step (progress_of t.state) ≡ None
    idle = subst (λ (z : EndState). idle_step (progress_of z) ≡ None) (sym at) listens

    size : length (frame m) ≡ 2 + length m
    size = length-append (big_bytes 2 (length m)) m

    whole : ((r : Side) (left : List ℕ) → r.state ≡ x → rest ≡ (r.state.partial ++ left) ++ later → CanReceive r left)
        → HasFrame (t.state.partial ++ piece) later m rest → CanReceive t piece
    whole again f =
        let r = can-read t m p (Payload p) x refl (subst (λ (z : EndState). Judges z m (Payload p) x) (sym at) j) in
        let bare : r.after.state.partial ≡ [] = ap (λ (z : EndState). z.partial) r.state ∙ judged-bare v x m (Payload p) j in
        let h = again r.after f.left r.state (f.rest_is ∙ ap (λ (q : List ℕ). (q ++ f.left) ++ later) (sym bare)) in
        (Judged (Payload p) ∷ h.0, h.1, reads_frame t r.after h.1 piece m f.left (Payload p) h.0 idle f.cut short r.reads h.2)

    go : ((r : Side) (left : List ℕ) → r.state ≡ x → rest ≡ (r.state.partial ++ left) ++ later → CanReceive r left) → (b : Bool)
        → nat_lt (length (t.state.partial ++ piece)) (length (frame m)) ≡ b → CanReceive t piece
    go again true e =
        let less : length (t.state.partial ++ piece) < 2 + length m = grind (arith, nat_tests) in (
          [],
          with_state t (record (t.state) { partial = t.state.partial ++ piece }),
          waits t piece idle
              (front-partial (t.state.partial ++ piece) later m rest (sym is) less short),
        )
    go again false e =
        let long : length (frame m) ≤ length (t.state.partial ++ piece) = grind (arith, nat_tests) in
        whole again (has-frame (t.state.partial ++ piece) later m rest (sym is) long)

module _ (once : JudgedOnce) where
  -- over bytes with which those begin that the end holds
  receives : (t r : Side) (piece later bytes : List ℕ) (notes : List Note) (ps : List (List ℕ)) (y : EndState) → IsPartial t.state.partial
      → bytes ≡ (t.state.partial ++ piece) ++ later → Coming t.state bytes ps y → SideReceives t piece notes r → HasCome r notes later ps y
  receives t r piece later bytes notes ps y part is (no_more _ _ last) (is_idle _ _ step idle) =
      let empty = no-bytes (t.state.partial ++ piece) later is in
      let held = no-bytes t.state.partial piece (sym empty.0) in
      record {
        came = [];
        more = [];
        split = refl;
        notes_are = ap (λ (b : List ℕ). left_note step (length b)) held.1;
        coming = subst (λ (b : List ℕ). Coming t.state b [] y) (sym (ap (λ (b : List ℕ). t.state.partial ++ b) empty.1 ∙ append-nil t.state.partial ∙ held.0))
            (no_more t.state y last);
        partial = part;
      }
  receives t r piece later bytes notes ps y part is (comes _ x _ m p rest more listens short j on) (is_idle _ _ step idle) = absurd (let e = sym listens ∙ idle in cc)
  receives t r piece later bytes notes ps y part is c (waits _ _ listens still) = record {
    came = [];
    more = ps;
    split = refl;
    notes_are = refl;
    coming = coming-holding t.state y (t.state.partial ++ piece) ((t.state.partial ++ piece) ++ later) ps
        (subst (λ (b : List ℕ). Coming t.state b ps y) is c);
    partial = still;
  }
  receives t r piece later bytes notes ps y part is (no_more _ _ last) (reads_frame _ mid _ _ message left step notes_after listens cut small reads on) =
      absurd (no-frame message left later (is ∙ ap (λ (b : List ℕ). b ++ later) cut))
  receives t r piece later bytes notes ps y part is (comes _ x _ m p rest more listens short j coming)
      (reads_frame _ mid _ _ message left step notes_after idle cut small reads on) =
      let same = frame-same m message rest (left ++ later) short small
      (is ∙ ap (λ (b : List ℕ). b ++ later) cut ∙ append_assoc (frame message) left later) in
      let one = once t.state x mid.state message (Payload p) step (subst (λ (z : List ℕ). Judges t.state z (Payload p) x) same.0 j)
      (read t mid message step reads) in
      let bare : mid.state.partial ≡ [] = ap (λ (z : EndState). z.partial) (sym one.1) ∙ judged-bare t.state x m (Payload p) j in
      let r1 = receives mid r left later rest notes_after more y (subst IsPartial (sym bare) (omega arith))
      (same.1 ∙ ap (λ (q : List ℕ). (q ++ left) ++ later) (sym bare)) (subst (λ (z : EndState). Coming z rest more y) one.1 coming) on in
      record {
        came = p ∷ r1.came;
        more = r1.more;
        split = ap (λ (zs : List (List ℕ)). p ∷ zs) r1.split;
        notes_are = ap (λ (s : StepValue). Judged s ∷ notes_after) (sym one.0) ∙ ap (λ (ns : List Note). Judged (Payload p) ∷ ns) r1.notes_are;
        coming = r1.coming;
        partial = r1.partial;
      }

  -- pieces, one after another
  receives-all : (t r : Side) (pieces : List (List ℕ)) (later bytes : List ℕ) (notes : List Note) (ps : List (List ℕ)) (y : EndState) → IsPartial t.state.partial
      → bytes ≡ t.state.partial ++ (concat pieces ++ later) → Coming t.state bytes ps y → ReceivesAll t pieces notes r → HasCome r notes later ps y
  receives-all t r pieces later bytes notes ps y part is c (stops _) = record {
    came = [];
    more = ps;
    split = refl;
    notes_are = refl;
    coming = subst (λ (b : List ℕ). Coming t.state b ps y) is c;
    partial = part;
  }
  receives-all t r pieces later bytes notes ps y part is c (goes_on _ mid _ piece more before after here on) =
      let all : bytes ≡ (t.state.partial ++ piece) ++ (concat more ++ later) =
      is ∙ ap (λ (b : List ℕ). t.state.partial ++ b) (append_assoc piece (concat more) later)
      ∙ sym (append_assoc t.state.partial piece (concat more ++ later)) in
      let h = receives t mid piece (concat more ++ later) bytes before ps y part all c here in
      let k = receives-all mid r more later (mid.state.partial ++ (concat more ++ later)) after h.more y h.partial refl h.coming on in
      record {
        came = h.came ++ k.came;
        more = k.more;
        split = h.split ∙ ap (λ (zs : List (List ℕ)). h.came ++ zs) k.split ∙ sym (append_assoc h.came k.came k.more);
        notes_are = ap (λ (ns : List Note). ns ++ after) h.notes_are ∙ ap (λ (ns : List Note). accepted_notes h.came ++ ns) k.notes_are
            ∙ sym (map-append (λ (p : List ℕ). Judged (Payload p)) h.came k.came);
        coming = k.coming;
        partial = k.partial;
      }

  can-receive-all : (t : Side) (pieces : List (List ℕ)) (later bytes : List ℕ) (ps : List (List ℕ)) (y : EndState) → IsPartial t.state.partial
      → bytes ≡ t.state.partial ++ (concat pieces ++ later) → Coming t.state bytes ps y → (notes : List Note) × (r : Side) × ReceivesAll t pieces notes r
  can-receive-all t [] later bytes ps y part is c = ([], t, stops t)
  can-receive-all t (piece ∷ pieces) later bytes ps y part is c =
      let all : bytes ≡ (t.state.partial ++ piece) ++ (concat pieces ++ later) =
      is ∙ ap (λ (b : List ℕ). t.state.partial ++ b) (append_assoc piece (concat pieces) later)
      ∙ sym (append_assoc t.state.partial piece (concat pieces ++ later)) in
      let here = can-receive t t.state y piece (concat pieces ++ later) bytes ps refl all c in
      let h = receives t here.1 piece (concat pieces ++ later) bytes here.0 ps y part all c here.2 in
      let on = can-receive-all here.1 pieces later (here.1.state.partial ++ (concat pieces ++ later)) h.more y h.partial refl h.coming in
      (here.0 ++ on.0, on.1, goes_on t here.1 on.1 piece pieces here.0 on.0 here.2 on.2)

  -- where no byte is to come any more, no payload is
  over : (r : Side) (notes : List Note) (later bytes : List ℕ) (ps : List (List ℕ)) (y : EndState) → IsPartial r.state.partial → bytes ≡ r.state.partial
      → Coming r.state bytes ps y → (ps ≡ []) × (r.state ≡ y)
  over r notes later bytes ps y part is (no_more _ _ last) = (refl, ap (λ (q : List ℕ). record (r.state) { partial = q }) (sym is) ∙ last)
  over r notes later bytes ps y part is (comes _ x _ m p rest more listens short j on) = absurd (frame-whole m rest short (subst IsPartial (sym is) part))

  module _ (law : WrittenIsReceived) where
    written-bytes : (s last : Side) (v : EndState) (payloads : List (List ℕ)) (w : IsToCome s last v payloads) (pieces : List (List ℕ)) (later : List ℕ)
        → concat pieces ++ later ≡ bytes_since s last → concat w.frames ≡ concat pieces ++ later
    written-bytes s last v payloads w pieces later is =
        sym (ap (λ (fs : List (List ℕ)). concat (drop (length s.frames) fs)) w.frames_are ∙ ap concat (drop_at s.frames w.frames (length s.frames) refl)) ∙ sym is

    come : (s t last r : Side) (payloads pieces : List (List ℕ)) (later : List ℕ) (notes : List Note) (valid : IsValid s.state.party.pattern)
        (c : EndCounterparts s.state t.state) (all : WritesAll s payloads last) → ReceivesAll t pieces notes r
        → concat pieces ++ later ≡ bytes_since s last
        → HasCome r notes later payloads (IsToCome.after (to-come law s last t.state payloads valid c all))
    come s t last r payloads pieces later notes valid c all run is =
        let w = to-come law s last t.state payloads valid c all in
        receives-all t r pieces later (concat w.frames) notes payloads w.after (subst IsPartial (sym c.partial_there) (omega arith))
        (written-bytes s last t.state payloads w pieces later is ∙ ap (λ (q : List ℕ). q ++ (concat pieces ++ later)) (sym c.partial_there)) w.coming run

    pub joined-frames-come : JoinedFramesCome
    joined-frames-come s t last r payloads pieces later notes valid c all run is =
        let h = come s t last r payloads pieces later notes valid c all run is in (h.came, h.more, h.split, h.notes_are)

    pub joined-frames-come-whole : JoinedFramesComeWhole
    joined-frames-come-whole s t last r payloads pieces notes valid c all run is =
        let w = to-come law s last t.state payloads valid c all in
        let h = come s t last r payloads pieces [] notes valid c all run (append-nil (concat pieces) ∙ is) in
        let end = over r notes [] (r.state.partial ++ []) h.more w.after h.partial (append-nil r.state.partial) h.coming in (
          h.notes_are ∙ ap accepted_notes (sym (append-nil h.came) ∙ ap (λ (zs : List (List ℕ)). h.came ++ zs) (sym end.0) ∙ sym h.split),
          subst (λ (z : EndState). EndCounterparts last.state z) (sym end.1) w.ends,
        )

    pub joined-frames-can-come : JoinedFramesCanCome
    joined-frames-can-come s t last payloads pieces later valid c all is =
        let w = to-come law s last t.state payloads valid c all in
        can-receive-all t pieces later (concat w.frames) payloads w.after (subst IsPartial (sym c.partial_there) (omega arith))
        (written-bytes s last t.state payloads w pieces later is ∙ ap (λ (q : List ℕ). q ++ (concat pieces ++ later)) (sym c.partial_there)) w.coming
