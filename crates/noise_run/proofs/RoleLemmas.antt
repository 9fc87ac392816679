-- What comes of one role's part of an event, of both ends.
use Rattle.std.proofs.Common.{◌≡◌, ◌∙◌, ap, ℕ, List, ◌++◌, Result, Vec}
use Rattle.noise_run.proofs.Common.{Global, IfOk-weaker, Role, Initiator, Responder, Note, Side, Sides, side, with_side, traces_of, EndsTraced, TracedMatches, came_traces, written_trace, Selection, TracedEnd, TracedEnds}
use Rattle.noise_run.specs.TracedEvents.{Entries, Traces, TracesBytes, TracesReceived, TracesWrite, TracesWriteOf}
use Rattle.noise_run.proofs.RunningLemmas.{on_ok}

-- the end of a role, and both ends after its key schedule has gone on
abbrev end-at : TracedEnds → Role → TracedEnd
end-at ends Initiator = ends.initiator
end-at ends Responder = ends.responder

abbrev end-on : TracedEnds → Role → TracedEnd → TracedEnds
end-on ends Initiator t = record ends { initiator = t }
end-on ends Responder t = record ends { responder = t }

module _ (ends : TracedEnds) (d : Sides) where
  role-at : (role : Role) → EndsTraced ends d → (end-at ends role).role ≡ role
  role-at Initiator traced = traced.first
  role-at Responder traced = traced.second

  matches-at : (role : Role) → EndsTraced ends d → TracedMatches (end-at ends role) (side d role).state
  matches-at Initiator traced = traced.initiator
  matches-at Responder traced = traced.responder

  matches-on : (role : Role) → EndsTraced ends d → (t : TracedEnd) (s : Side) → t.role ≡ (end-at ends role).role → TracedMatches t s.state
      → EndsTraced (end-on ends role t) (with_side d role s)
  matches-on Initiator traced t s same matches = search
  matches-on Responder traced t s same matches = search

module _ {E : Type 0} (selection : Selection) (ends : TracedEnds) (t : TracedEnd) (role : Role) (bytes : List ℕ)
    (same : t.role ≡ (end-at ends role).role) where
  -- of bytes that came
  pub received : {A : Type 0} (entries : Entries) (old new : Traces) (r : Result A E)
      → TracesReceived selection (end-at ends role) t bytes entries old new r
      → TracesBytes selection role bytes entries ends (end-on ends role t) old new r
  received entries old new r clause = λ d reader notes x traced reported. on_ok r _ _ (λ h. (
    h.0 ∙ ap (λ (z : Role). traces_of old ++ came_traces selection z (side d role) reader bytes notes x) (role-at ends d role traced),
    matches-on ends d role traced t reader same h.1,
  )) (clause (side d role) reader role notes x (matches-at ends d role traced) reported)

  -- of a write
  pub wrote : (noted : Note) (r : Result (Vec (Vec ℕ Global) Global) E) → TracesWrite selection (end-at ends role) t bytes noted r
      → TracesWriteOf selection role bytes noted ends (end-on ends role t) r
  wrote noted r clause = λ d next payload note w traced reported framed. IfOk-weaker r _ _ (λ lines h. (
    h.0 ∙ ap (λ (z : Role). written_trace selection z (side d role) payload next note w) (role-at ends d role traced),
    matches-on ends d role traced t next same h.1,
  )) (clause (side d role) payload next note w (matches-at ends d role traced) reported framed)
