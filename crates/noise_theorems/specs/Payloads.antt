-- The payloads of a report, and those in the lists of a run that agreement compares.
use Rattle.std.specs.Prelude.{◌≡◌, ℕ, ◌+◌, Bool, true, false, List, [], ◌∷◌, ◌++◌, if◌then◌else◌}
use Rattle.std.specs.List.{flat_map}
use Rattle.noise_names.specs.declared.token.Role.{Role}
use Rattle.noise_names.specs.declared.token.Role.TheVariants.{Initiator, Responder}
use Rattle.noise_names.specs.Tokens.{other, same_role, turn_from}
use Rattle.noise_names.specs.Plan.{Plan}
use Rattle.noise_session.specs.Steps.StepValue.{Payload}
use Rattle.noise_events.specs.Events.{Event, Write, Say}
use Rattle.noise_duel.specs.Conversation.{sides_at_start}
use Rattle.noise_duel.specs.Forgery.{contents}
use Rattle.noise_duel.specs.Messages.{HandshakeMessage, Start}
use Rattle.noise_duel.specs.Notes.{Note, Wrote, WriteFault, Judged}
use Rattle.noise_duel.specs.Runs.{Run}
use Rattle.noise_duel.specs.Sides.{Side, Sides}

-- what is noted of a role
abbrev pub notes_about : Role → List (Role × Note) → List Note
notes_about role notes = flat_map (λ n. if same_role n.0 role then n.1 ∷ [] else []) notes

-- the payload of an accepted message
abbrev pub payload_reported : Note → List (List ℕ)
payload_reported (Judged (Payload bytes)) = bytes ∷ []
payload_reported _ = []

-- the payloads that a role received, in order
abbrev pub reported_to : Role → List (Role × Note) → List (List ℕ)
reported_to role notes = flat_map payload_reported (notes_about role notes)

-- the payload that an event gives a role to write
abbrev pub payload_given : Role → Event → List (List ℕ)
payload_given role (Write writer payload) = if same_role writer role then payload ∷ [] else []
payload_given role (Say writer payload) = if same_role writer role then payload ∷ [] else []
payload_given role _ = []

-- whether a write was done: a frame's number is noted, or a fault
abbrev pub was_written : Note → List Bool
was_written (Wrote n) = true ∷ []
was_written (WriteFault why) = false ∷ []
was_written _ = []

-- those of the payloads whose write was done
abbrev pub done_of : List (List ℕ) → List Bool → List (List ℕ)
done_of [] done = []
done_of (payload ∷ payloads) [] = []
done_of (payload ∷ payloads) (is_done ∷ done) = (if is_done then payload ∷ [] else []) ++ done_of payloads done

-- the payloads that a role wrote, in order: those that events gave it, where a frame's number is noted
abbrev pub written_by : Role → List Event → List (Role × Note) → List (List ℕ)
written_by role events notes =
    done_of (flat_map (payload_given role) events) (flat_map was_written (notes_about role notes))

-- the payloads of the handshake messages that a role wrote, from message n on (Noise 5.3: the initiator writes first,
-- then they take turns)
abbrev pub own_payloads : Role → ℕ → List HandshakeMessage → List (List ℕ)
own_payloads role n [] = []
own_payloads role n (p ∷ ps) =
    (if same_role (turn_from Initiator n) role then p.payload ∷ [] else []) ++ own_payloads role (n + 1) ps

-- A role wrote the payloads of its handshake messages and then of the transport messages that agreement takes as sent;
-- it received those of the other role's handshake messages and then of the transport messages that agreement takes as
-- received.
pub record ReportsPayloads (role : Role) (events : List Event) (notes : List (Role × Note)) (s : Side) : Type 0 where
  pub written : written_by role events notes ≡ own_payloads role 0 s.passed ++ contents s.sent
  pub reported : reported_to role notes ≡ own_payloads (other role) 0 s.passed ++ contents s.received

-- So it is at the end of every run of two new ends.
abbrev pub PayloadsAreReported : Type 0
PayloadsAreReported = (p : Plan) (a b : Start) (i j : ℕ) (events : List Event) (notes : List (Role × Note)) (d : Sides)
    → Run (sides_at_start p a b i j) events notes d
    → ReportsPayloads Initiator events notes d.initiator × ReportsPayloads Responder events notes d.responder
