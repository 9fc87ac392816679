-- What comes of one line between two ends, where the message that is written is accepted.
use Rattle.std.proofs.Common.{rules, ◌≡◌, ◌≢◌, ℕ, ◌≤◌, List, ◌∷◌, ◌++◌, length, refl, ap, sym, subst, ◌∙◌, arith, append-nil, Some, None, slice_get, []}
use Rattle.std.specs.Prelude.{false, Err, Option}
use Rattle.noise_duel.proofs.Common.{IsTrue, Role, other, Accepts, Writes, LacksDhResult, LawsBelow, SendFault, frame, IsPartial, transport_message, last_nonce, StepValue, is_open, idle_step, refusal, EndState, progress_of, Judges, accepted, dropped, exhausted, Sends, refuses, lacks_dh_result, frame-same, Side, Sides, side, with_side, with_state, wrote_handshake, accepted_handshake, wrote_transport, accepted_transport, Say, Note, Wrote, WriteFault, Judged, left_note, held_note, noted_by, SideWrites, SideReads, SideReceives, Happens, GivesNoPayload, writes_nothing, writes_handshake, writes_transport, accepts_handshake, accepts_transport, refuses_message, is_idle, waits, reads_frame, says_nothing, says, get-last}
use Rattle.noise_session.specs.Steps.StepValue.{Payload}
use Rattle.noise_session.specs.Taking.Judges.{refused}
use Rattle.noise_duel.proofs.Invariant.{all-passed}
use Rattle.noise_duel.proofs.Prefixes.{transport_message-same}

-- ---- writing

-- nothing keeps the end from writing
sends-no-fault : (v next : EndState) (payload : List ℕ) (why : SendFault) → refusal (progress_of v) (length payload) ≡ None → ((k : ℕ) → LacksDhResult v.party k → ⊥)
    → Sends v payload (Err why) next → ⊥
sends-no-fault v next payload why e lacks (refuses _ _ _ f) = cc
sends-no-fault v next payload why e lacks (lacks_dh_result _ _ k f l) = lacks k l

pub writes-no-fault : (s next : Side) (payload : List ℕ) (why : SendFault) → refusal (progress_of s.state) (length payload) ≡ None
    → ((k : ℕ) → LacksDhResult s.state.party k → ⊥)
    → SideWrites s payload (WriteFault why) next → ⊥
writes-no-fault s next payload why e lacks (writes_nothing _ _ _ after sends) = sends-no-fault s.state after payload why e lacks sends

pub writes-message : LawsBelow → (s : Side) (payload : List ℕ) (next : Side) (message : List ℕ) (xs : List (List ℕ)) (k : ℕ) → is_open (progress_of s.state) ≡ false
    → Writes s.state.party payload xs message
    → SideWrites s payload (Wrote k) next → (next ≡ wrote_handshake s (record { message = message; carried = xs; payload = payload })) × (k ≡ length s.frames)
writes-message laws s payload next message xs k shut w (writes_handshake _ m _ ys e here) = search rules
writes-message laws s payload next message xs k shut w (writes_transport _ m _ e due is) = cc

pub writes-transport_message : (s : Side) (payload : List ℕ) (next : Side) (k : ℕ) → IsTrue (is_open (progress_of s.state))
    → SideWrites s payload (Wrote k) next
    → (next ≡ wrote_transport s (record { message = transport_message s.state.party.state s.state.party.role s.state.interval s.state.sent payload; payload = payload }))
    × (k ≡ length s.frames)
writes-transport_message s payload next k open-now (writes_handshake _ m _ ys e here) = search rules
writes-transport_message s payload next k open-now (writes_transport _ m _ e due is) =
    (ap (λ (z : List ℕ). wrote_transport s (record { message = z; payload = payload })) is, refl)

-- ---- hearing

pub reads-message : LawsBelow → (t : Side) (message payload : List ℕ) (xs : List (List ℕ)) → is_open (progress_of t.state) ≡ false
    → Accepts t.state.party message xs payload
    → (step : StepValue) (next : Side) → SideReads t message step next
    → (step ≡ Payload payload) × (next ≡ accepted_handshake t (record { message = message; carried = xs; payload = payload }))
reads-message laws t message payload xs shut a step next (accepts_handshake _ _ p ys b) = search rules
reads-message laws t message payload xs shut a step next (accepts_transport _ _ p due low is) = cc
reads-message laws t message payload xs shut a step next (refuses_message _ _ _ after bad j) =
    absurd (subst GivesNoPayload (laws.judged_once t.state after _ message step (Payload payload) j (accepted t.state message payload xs a)).0 bad)

transport_messages-no-fault : (v next : EndState) (message payload : List ℕ) (step : StepValue) → GivesNoPayload step → IsTrue (is_open (progress_of v))
    → v.received ≢ last_nonce
    → message ≡ transport_message v.party.state (other v.party.role) v.interval v.received payload → Judges v message step next → ⊥
transport_messages-no-fault v next message payload step bad due low is (refused _ _ token cause r) = omega (arith, r.listens.more, all-passed v due)
transport_messages-no-fault v next message payload step bad due low is (dropped _ _ d l never) = never payload is
transport_messages-no-fault v next message payload step bad due low is (exhausted _ _ d full) = low full
transport_messages-no-fault v next message payload step bad due low is _ = bad

pub reads-transport_message : (t : Side) (message payload : List ℕ) → IsTrue (is_open (progress_of t.state)) → t.state.received ≢ last_nonce
    → message ≡ transport_message t.state.party.state (other t.state.party.role) t.state.interval t.state.received payload
    → (step : StepValue) (next : Side) → SideReads t message step next
    → (step ≡ Payload payload) × (next ≡ accepted_transport t (record { message = message; payload = payload }))
reads-transport_message t message payload due low is step next (accepts_handshake _ _ p ys b) = search rules
reads-transport_message t message payload due low is step next (accepts_transport _ _ p d l i) =
    let same : p ≡ payload = transport_message-same t.state.party.state (other t.state.party.role) t.state.interval t.state.received p payload (sym i ∙ is) in
    (ap Payload same, ap (λ (z : List ℕ). accepted_transport t (record { message = message; payload = z })) same)
reads-transport_message t message payload due low is step next (refuses_message _ _ _ after bad j) = search transport_messages-no-fault

-- nothing more comes
receives-end : (s : Side) → idle_step (progress_of s.state) ≡ None → IsPartial s.state.partial → SideReceives s [] [] s
receives-end s due partial =
    subst (λ (partial : List ℕ). SideReceives s [] [] (with_state s (record (s.state) { partial = partial }))) (append-nil s.state.partial)
    (waits s [] due (subst (λ (partial : List ℕ). IsPartial partial) (sym (append-nil s.state.partial)) partial))

-- no bytes come to an end that holds none
receives-nothing : (t last : Side) (bytes : List ℕ) (notes : List Note) → bytes ≡ [] → t.state.partial ≡ [] → SideReceives t bytes notes last
    → (notes ≡ []) × (last ≡ t)
receives-nothing t last bytes notes none empty (is_idle _ _ step e) = (ap (λ (b : List ℕ). left_note step (length b)) none, refl)
receives-nothing t last bytes notes none empty (waits _ _ e partial) = search rules
receives-nothing t last bytes notes none empty (reads_frame _ next _ _ message rest step more e is small reads on) = search rules

-- one frame comes to an end that holds none, and whose message can be read in one way
pub receives-one : (t after last : Side) (message payload : List ℕ) (notes : List Note) → idle_step (progress_of t.state) ≡ None → t.state.partial ≡ []
    → after.state.partial ≡ [] → length message ≤ 65535
    → ((step : StepValue) (next : Side) → SideReads t message step next → (step ≡ Payload payload) × (next ≡ after))
    → SideReceives t (frame message) notes last → (notes ≡ Judged (Payload payload) ∷ []) × (last ≡ after)
receives-one t after last message payload notes idle empty bare short one (is_idle _ _ step e) = cc
receives-one t after last message payload notes idle empty bare short one (waits _ _ e partial) = search rules
receives-one t after last message payload notes idle empty bare short one (reads_frame _ next _ _ m rest step more e is small reads on) =
    let same = frame-same message m [] rest short small (append-nil (frame message) ∙ ap (λ (h : List ℕ). h ++ frame message) (sym empty) ∙ is) in
    let found = one step next (subst (λ (z : List ℕ). SideReads t z step next) (sym same.0) reads) in
    let quiet = receives-nothing next last rest more (sym same.1) (ap (λ (s : Side). s.state.partial) found.1 ∙ bare) on in
    (ap (λ (z : StepValue). Judged z ∷ more) found.0 ∙ ap (λ (ms : List Note). Judged (Payload payload) ∷ ms) quiet.0, quiet.1 ∙ found.1)

-- ---- the line

last-is : (fs : List (List ℕ)) (f g : List ℕ) (n : ℕ) → n ≡ length fs → slice_get (fs ++ f ∷ []) n ≡ Some g → g ≡ f
last-is fs f g n e h = by fs (ap (slice_get (fs ++ f ∷ [])) (sym e) ∙ h)
  where
    by : (hs : List (List ℕ)) → slice_get (hs ++ f ∷ []) (length hs) ≡ Some g → g ≡ f
    by [] k = cc
    by (x ∷ hs) k = by hs k

pub say-happens : (d e : Sides) (role : Role) (payload message : List ℕ) (notes : List (Role × Note)) (after heard : Side)
    → ((why : SendFault) (next : Side) → SideWrites (side d role) payload (WriteFault why) next → ⊥)
    → ((k : ℕ) (next : Side) → SideWrites (side d role) payload (Wrote k) next → (next ≡ after) × (k ≡ length (side d role).frames))
    → after.frames ≡ (side d role).frames ++ frame message ∷ []
    → ((ns : List Note) (last : Side) → SideReceives (side d (other role)) (frame message) ns last → (ns ≡ Judged (Payload payload) ∷ []) × (last ≡ heard))
    → heard.state.partial ≡ []
    → Happens d (Say role payload) notes e
    → (notes ≡ (role, Wrote (length (side d role).frames)) ∷ (other role, Judged (Payload payload)) ∷ [])
    × (e ≡ with_side (with_side d role after) (other role) heard)
say-happens d e role payload message notes after heard lacks put frames hear bare (says_nothing _ _ _ why next written) = absurd (lacks why next written)
say-happens d e role payload message notes after heard lacks put frames hear bare (says _ _ _ bytes n ns next last written got receives) =
    let one = put n next written in
    let is : bytes ≡ frame message = search (rules, last-is) in
    let two = hear ns last (subst (λ (b : List ℕ). SideReceives (side d (other role)) b ns last) is receives) in
    let quiet : held_note (length last.state.partial) ≡ [] =
    ap (λ (s : Side). held_note (length s.state.partial)) two.1 ∙ ap (λ (h : List ℕ). held_note (length h)) bare in (
      ap (λ (k : ℕ). (role, Wrote k) ∷ noted_by (other role) (ns ++ held_note (length last.state.partial))) one.1
          ∙ ap (λ (ms : List Note). (role, Wrote (length (side d role).frames)) ∷ noted_by (other role) (ns ++ ms)) quiet
          ∙ ap (λ (ms : List Note). (role, Wrote (length (side d role).frames)) ∷ noted_by (other role) (ms ++ [])) two.0,
      ap (λ (s : Side). with_side (with_side d role s) (other role) last) one.0 ∙ ap (λ (s : Side). with_side (with_side d role after) (other role) s) two.1,
    )

-- ---- there is such a line

rests : (s : Side) → s.state.partial ≡ [] → SideReceives s [] [] s
rests s bare = go (idle_step (progress_of s.state)) refl
  where
    go : (o : Option StepValue) → idle_step (progress_of s.state) ≡ o → SideReceives s [] [] s
    go (Some step) e = is_idle s [] step e
    go None e =
        let partial : IsPartial [] = omega arith in receives-end s e (subst (λ (b : List ℕ). IsPartial b) (sym bare) partial)

pub receives-can : (t after : Side) (message payload : List ℕ) → idle_step (progress_of t.state) ≡ None → t.state.partial ≡ [] → after.state.partial ≡ []
    → length message ≤ 65535
    → SideReads t message (Payload payload) after → SideReceives t (frame message) (Judged (Payload payload) ∷ []) after
receives-can t after message payload idle empty bare short reads =
    reads_frame t after after (frame message) message [] (Payload payload) [] idle
    (ap (λ (h : List ℕ). h ++ frame message) empty ∙ sym (append-nil (frame message))) short reads (rests after bare)

pub say-can : (d : Sides) (role : Role) (payload message : List ℕ) (after heard : Side)
    → SideWrites (side d role) payload (Wrote (length (side d role).frames)) after
    → after.frames ≡ (side d role).frames ++ frame message ∷ [] → SideReceives (side d (other role)) (frame message) (Judged (Payload payload) ∷ []) heard
    → Happens d (Say role payload)
    ((role, Wrote (length (side d role).frames)) ∷ noted_by (other role) ((Judged (Payload payload) ∷ []) ++ held_note (length heard.state.partial)))
    (with_side (with_side d role after) (other role) heard)
say-can d role payload message after heard written frames receives =
    says d role payload (frame message) (length (side d role).frames) (Judged (Payload payload) ∷ []) after heard written
    (ap (λ (fs : List (List ℕ)). slice_get fs (length (side d role).frames)) frames ∙ get-last (side d role).frames (frame message)) receives
