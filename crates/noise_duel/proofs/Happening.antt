-- What comes of events, in code, from what comes of one end's part of them.
use Rattle.std.proofs.Common.{rules, ◌≡◌, ℕ, List, ◌∷◌, ◌++◌, length, map, refl, ap, sym, subst, ◌∙◌, append_assoc, append-nil, Option, Some, None, Result, Ok, Err, slice_get, Vec, Global, []}
use Rattle.std.specs.Result.{result_ok}
use Rattle.noise_duel.proofs.Common.{map-append, Role, Initiator, Responder, other, SendFault, frame, EndValue, note_of, notes_of, written_note, Event, Write, Say, Deliver, Note, Wrote, Missing, held_note, noted_by, DuelValue, DuelMatches, HasFrames, HasDelivered, RoleWrote, HasHappened, HasComeTo, SideWrites, SideReceives, Happens, Run, writes_handshake, writes_transport, writes, says_nothing, says, delivers, misses, injects, Side, Sides, side, with_side, same_Some, get-last}
use Rattle.noise_duel.specs.declared.entry.Entry.{Entry}
use Rattle.noise_duel.specs.declared.report.Report.{Report}
use Rattle.noise_events.specs.Events.{Raw}
use Rattle.noise_duel.specs.OneEnd.{HasReceived}
use Rattle.noise_duel.specs.Reports.{Reports}
use Rattle.noise_duel.specs.Runs.Run.{ends, begins}
use Rattle.noise_keys.specs.Keys.{KeyPairs}

-- one entry more
pub reported-more : (before after : List (Role × Entry)) (entry : Role × Entry) → after ≡ before ++ entry ∷ []
    → notes_of after ≡ notes_of before ++ (entry.0, note_of entry.1) ∷ []
reported-more before after entry is = ap notes_of is ∙ map-append (λ (e : Role × Entry). (e.0, note_of e.1)) before (entry ∷ [])

-- ---- a frame that was written is there

wrote-there : (s : Side) (payload : List ℕ) (next : Side) (n : ℕ) → SideWrites s payload (Wrote n) next
    → (bytes : List ℕ) × (slice_get next.frames n ≡ Some bytes)
wrote-there s payload next n (writes_handshake _ message _ xs free w) = (frame message, get-last s.frames (frame message))
wrote-there s payload next n (writes_transport _ message _ free opens is) = (frame message, get-last s.frames (frame message))

-- ---- a delivery, taken apart

record Delivery (d e : Sides) (role : Role) (n : ℕ) (notes : List (Role × Note)) : Type 0 where
  pub bytes : List ℕ
  pub heard : List Note
  pub reader : Side
  pub got : slice_get (side d (other role)).frames n ≡ Some bytes
  pub receives : SideReceives (side d role) bytes heard reader
  pub notes_are : notes ≡ noted_by role (heard ++ held_note (length reader.state.partial))
  pub beyond : e ≡ with_side d role reader

delivery : (d e : Sides) (role : Role) (n : ℕ) (notes : List (Role × Note)) (bytes : List ℕ) → slice_get (side d (other role)).frames n ≡ Some bytes
    → Happens d (Deliver role n) notes e → Delivery d e role n notes
delivery d e role n notes bytes there (delivers _ _ _ found heard reader got receives) =
    record { bytes = found; heard = heard; reader = reader; got = got; receives = receives; notes_are = refl; beyond = refl }
delivery d e role n notes bytes there (misses _ _ _ none) = cc

-- a write, and the delivery of its frame to the other role, are a Say
say-of : (d e : Sides) (role : Role) (payload : List ℕ) (n : ℕ) (next : Side) (notes : List (Role × Note)) → SideWrites (side d role) payload (Wrote n) next
    → Happens (with_side d role next) (Deliver (other role) n) notes e → Happens d (Say role payload) ((role, Wrote n) ∷ notes) e
say-of d e Initiator payload n next notes w h =
    let there = wrote-there d.initiator payload next n w in
    let it = delivery (with_side d Initiator next) e Responder n notes there.0 there.1 h in
    subst (λ (last : Sides). Happens d (Say Initiator payload) ((Initiator, Wrote n) ∷ notes) last) (sym it.beyond)
    (subst (λ (ns : List (Role × Note)). Happens d (Say Initiator payload) ((Initiator, Wrote n) ∷ ns)
    (with_side (with_side d Initiator next) Responder it.reader))
    (sym it.notes_are) (says d Initiator payload it.bytes n it.heard next it.reader w it.got it.receives))
say-of d e Responder payload n next notes w h =
    let there = wrote-there d.responder payload next n w in
    let it = delivery (with_side d Responder next) e Initiator n notes there.0 there.1 h in
    subst (λ (last : Sides). Happens d (Say Responder payload) ((Responder, Wrote n) ∷ notes) last) (sym it.beyond)
    (subst (λ (ns : List (Role × Note)). Happens d (Say Responder payload) ((Responder, Wrote n) ∷ ns)
    (with_side (with_side d Responder next) Initiator it.reader))
    (sym it.notes_are) (says d Responder payload it.bytes n it.heard next it.reader w it.got it.receives))

module _ {A B : Type 0} (pairs_a : A → KeyPairs)
    (pairs_b : B → KeyPairs) where
  -- ---- writing

  pub written : (d : Sides) (role : Role) (payload : List ℕ) (number : Option ℕ) (duel : DuelValue A B) (before after : Report)
      → RoleWrote pairs_a pairs_b d role payload number duel before after
      → HasHappened pairs_a pairs_b d (Write role payload) duel before after
  written d role payload number duel before after w = record {
    next = with_side d role w.next;
    notes = (role, written_note w.reported) ∷ [];
    happens = writes d role payload (written_note w.reported) w.next w.writes;
    matches = w.matches;
    frames = w.frames;
    entries = w.entries;
  }

  pub said-nothing : (d : Sides) (role : Role) (payload : List ℕ) (number : Option ℕ) (duel : DuelValue A B) (before after : Report)
      → RoleWrote pairs_a pairs_b d role payload number duel before after → number ≡ None
      → HasHappened pairs_a pairs_b d (Say role payload) duel before after
  said-nothing d role payload number duel before after w none = record {
    next = with_side d role w.next;
    notes = (role, written_note w.reported) ∷ [];
    happens = at w.reported (sym w.number_is ∙ none) w.writes;
    matches = w.matches;
    frames = w.frames;
    entries = w.entries;
  }
    where
      at : (reported : Result ℕ SendFault) → result_ok reported ≡ None → SideWrites (side d role) payload (written_note reported) w.next
          → Happens d (Say role payload) ((role, written_note reported) ∷ []) (with_side d role w.next)
      at (Ok n) e h = cc
      at (Err why) e h = says_nothing d role payload why w.next h

  pub said : (d : Sides) (role : Role) (payload : List ℕ) (number : Option ℕ) (n : ℕ) (between duel : DuelValue A B) (before middle after : Report)
      → (w : RoleWrote pairs_a pairs_b d role payload number between before middle) → number ≡ Some n
      → HasHappened pairs_a pairs_b (with_side d role w.next) (Deliver (other role) n) duel middle after
      → HasHappened pairs_a pairs_b d (Say role payload) duel before after
  said d role payload number n between duel before middle after w some h = search (rules, say-of, append_assoc)
    where
      at : (reported : Result ℕ SendFault) → result_ok reported ≡ Some n → SideWrites (side d role) payload (written_note reported) w.next
          → notes_of middle.entries.items ≡ notes_of before.entries.items ++ (role, written_note reported) ∷ []
          → SideWrites (side d role) payload (Wrote n) w.next × (notes_of middle.entries.items ≡ notes_of before.entries.items ++ (role, Wrote n) ∷ [])
      at (Ok k) e x y =
          let same : k ≡ n = same_Some k n e in (
            subst (λ (i : ℕ). SideWrites (side d role) payload (Wrote i) w.next) same x,
            subst (λ (i : ℕ). notes_of middle.entries.items ≡ notes_of before.entries.items ++ (role, Wrote i) ∷ []) same y,
          )
      at (Err why) e x y = cc

  -- ---- receiving

  came-initiator : (d : Sides) (event : Event) (bytes : List ℕ) (duel : DuelValue A B) (end : EndValue A) (before after : Report)
      → DuelMatches pairs_a pairs_b duel d → HasFrames before d
      → before.initiator ≡ after.initiator → before.responder ≡ after.responder
      → (h : HasReceived pairs_a d.initiator Initiator bytes end before.entries.items after.entries.items)
      → Happens d event (noted_by Initiator (h.notes ++ held_note (length h.next.state.partial))) (with_side d Initiator h.next)
      → HasHappened pairs_a pairs_b d event (record { initiator = end; responder = duel.responder }) before after
  came-initiator d event bytes duel end before after st fr one two h happens = record {
    next = with_side d Initiator h.next;
    notes = noted_by Initiator (h.notes ++ held_note (length h.next.state.partial));
    happens = happens;
    matches = record { initiator = h.matches; responder = st.responder };
    frames = record {
      initiator = ap (λ (v : Vec (Vec ℕ Global) Global). map (λ f. f.items) v.items) (sym one) ∙ fr.initiator ∙ sym h.frames;
      responder = ap (λ (v : Vec (Vec ℕ Global) Global). map (λ f. f.items) v.items) (sym two) ∙ fr.responder;
    };
    entries = h.reported;
  }

  came-responder : (d : Sides) (event : Event) (bytes : List ℕ) (duel : DuelValue A B) (end : EndValue B) (before after : Report)
      → DuelMatches pairs_a pairs_b duel d → HasFrames before d
      → before.initiator ≡ after.initiator → before.responder ≡ after.responder
      → (h : HasReceived pairs_b d.responder Responder bytes end before.entries.items after.entries.items)
      → Happens d event (noted_by Responder (h.notes ++ held_note (length h.next.state.partial))) (with_side d Responder h.next)
      → HasHappened pairs_a pairs_b d event (record { initiator = duel.initiator; responder = end }) before after
  came-responder d event bytes duel end before after st fr one two h happens = record {
    next = with_side d Responder h.next;
    notes = noted_by Responder (h.notes ++ held_note (length h.next.state.partial));
    happens = happens;
    matches = record { initiator = st.initiator; responder = h.matches };
    frames = record {
      initiator = ap (λ (v : Vec (Vec ℕ Global) Global). map (λ f. f.items) v.items) (sym one) ∙ fr.initiator;
      responder = ap (λ (v : Vec (Vec ℕ Global) Global). map (λ f. f.items) v.items) (sym two) ∙ fr.responder ∙ sym h.frames;
    };
    entries = h.reported;
  }

  -- bytes come in one piece
  pub injected-initiator : (d : Sides) (role : Role) (bytes : List ℕ) (duel : DuelValue A B) (end : EndValue A) (before after : Report) → role ≡ Initiator
      → DuelMatches pairs_a pairs_b duel d → HasFrames before d
      → before.initiator ≡ after.initiator → before.responder ≡ after.responder
      → HasReceived pairs_a d.initiator role bytes end before.entries.items after.entries.items
      → HasHappened pairs_a pairs_b d (Raw role bytes) (record { initiator = end; responder = duel.responder }) before after
  injected-initiator d Initiator bytes duel end before after is st fr one two h =
      came-initiator d (Raw Initiator bytes) bytes duel end before after st fr one two h (injects d Initiator bytes h.notes h.next h.receives)
  injected-initiator d Responder bytes duel end before after is st fr one two h = cc

  pub injected-responder : (d : Sides) (role : Role) (bytes : List ℕ) (duel : DuelValue A B) (end : EndValue B) (before after : Report) → role ≡ Responder
      → DuelMatches pairs_a pairs_b duel d → HasFrames before d
      → before.initiator ≡ after.initiator → before.responder ≡ after.responder
      → HasReceived pairs_b d.responder role bytes end before.entries.items after.entries.items
      → HasHappened pairs_a pairs_b d (Raw role bytes) (record { initiator = duel.initiator; responder = end }) before after
  injected-responder d Initiator bytes duel end before after is st fr one two h = cc
  injected-responder d Responder bytes duel end before after is st fr one two h =
      came-responder d (Raw Responder bytes) bytes duel end before after st fr one two h (injects d Responder bytes h.notes h.next h.receives)

  -- a frame comes, or there is none of that number
  pub took-initiator : (d : Sides) (role : Role) (n : ℕ) (found : Option (List ℕ)) (duel : DuelValue A B) (end : EndValue A) (before after : Report)
      → role ≡ Initiator → slice_get d.responder.frames n ≡ found
      → DuelMatches pairs_a pairs_b duel d → HasFrames before d
      → before.initiator ≡ after.initiator → before.responder ≡ after.responder
      → HasDelivered pairs_a d.initiator role n found end before.entries.items after.entries.items
      → HasHappened pairs_a pairs_b d (Deliver role n) (record { initiator = end; responder = duel.responder }) before after
  took-initiator d Responder n found duel end before after is got st fr one two h = cc
  took-initiator d Initiator n (Some bytes) duel end before after is got st fr one two h =
      came-initiator d (Deliver Initiator n) bytes duel end before after st fr one two h (delivers d Initiator n bytes h.notes h.next got h.receives)
  took-initiator d Initiator n None duel end before after is got st fr one two h = record {
    next = d;
    notes = (Initiator, Missing n) ∷ [];
    happens = misses d Initiator n got;
    matches = record { initiator = h.0; responder = st.responder };
    frames = record {
      initiator = ap (λ (v : Vec (Vec ℕ Global) Global). map (λ f. f.items) v.items) (sym one) ∙ fr.initiator;
      responder = ap (λ (v : Vec (Vec ℕ Global) Global). map (λ f. f.items) v.items) (sym two) ∙ fr.responder;
    };
    entries = h.1;
  }

  pub took-responder : (d : Sides) (role : Role) (n : ℕ) (found : Option (List ℕ)) (duel : DuelValue A B) (end : EndValue B) (before after : Report)
      → role ≡ Responder → slice_get d.initiator.frames n ≡ found
      → DuelMatches pairs_a pairs_b duel d → HasFrames before d
      → before.initiator ≡ after.initiator → before.responder ≡ after.responder
      → HasDelivered pairs_b d.responder role n found end before.entries.items after.entries.items
      → HasHappened pairs_a pairs_b d (Deliver role n) (record { initiator = duel.initiator; responder = end }) before after
  took-responder d Initiator n found duel end before after is got st fr one two h = cc
  took-responder d Responder n (Some bytes) duel end before after is got st fr one two h =
      came-responder d (Deliver Responder n) bytes duel end before after st fr one two h (delivers d Responder n bytes h.notes h.next got h.receives)
  took-responder d Responder n None duel end before after is got st fr one two h = record {
    next = d;
    notes = (Responder, Missing n) ∷ [];
    happens = misses d Responder n got;
    matches = record { initiator = st.initiator; responder = h.0 };
    frames = record {
      initiator = ap (λ (v : Vec (Vec ℕ Global) Global). map (λ f. f.items) v.items) (sym one) ∙ fr.initiator;
      responder = ap (λ (v : Vec (Vec ℕ Global) Global). map (λ f. f.items) v.items) (sym two) ∙ fr.responder;
    };
    entries = h.1;
  }

  -- ---- events, one after another

  pub nothing-yet : (d : Sides) (events : List Event) (duel : DuelValue A B) (report : Report)
      → DuelMatches pairs_a pairs_b duel d → HasFrames report d → report.entries.items ≡ []
      → HasComeTo pairs_a pairs_b d events events duel report
  nothing-yet d events duel report st fr empty = record {
    now = d;
    goes_on = λ notes last h. subst (λ (es : List (Role × Entry)). Run d events (notes_of es ++ notes) last) (sym empty) h;
    matches = st;
    frames = fr;
  }

  pub one-more : (d : Sides) (events rest more : List Event) (event : Event) (duel next : DuelValue A B) (report after : Report) → rest ≡ event ∷ more
      → (h : HasComeTo pairs_a pairs_b d events rest duel report)
      → HasHappened pairs_a pairs_b h.now event next report after
      → HasComeTo pairs_a pairs_b d events more next after
  one-more d events rest more event duel next report after is h t = record {
    now = t.next;
    goes_on = λ notes last run.
        subst (λ (ns : List (Role × Note)). Run d events ns last)
        (sym (ap (λ (ns : List (Role × Note)). ns ++ notes) t.entries ∙ append_assoc (notes_of report.entries.items) t.notes notes))
        (h.goes_on (t.notes ++ notes) last
        (subst (λ (es : List Event). Run h.now es (t.notes ++ notes) last) (sym is) (begins h.now t.next last event more t.notes notes t.happens run)));
    matches = t.matches;
    frames = t.frames;
  }

  pub all-come : (d : Sides) (events rest : List Event) (duel : DuelValue A B) (report : Report) → rest ≡ []
      → HasComeTo pairs_a pairs_b d events rest duel report
      → Reports pairs_a pairs_b d events duel report
  all-come d events rest duel report is h = record {
    last = h.now;
    run = subst (λ (ns : List (Role × Note)). Run d events ns h.now) (append-nil (notes_of report.entries.items))
        (h.goes_on [] h.now (subst (λ (es : List Event). Run h.now es [] h.now) (sym is) (ends h.now)));
    frames = h.frames;
    matches = h.matches;
  }
