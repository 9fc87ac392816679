-- The keys that a run uses, along what happens in it, and the lines of them.
use Rattle.std.specs.Prelude.{◌≡◌, ℕ, ◌+◌, List, [], ◌∷◌, ◌++◌, map, length, Option, Result}
use Rattle.noise_names.specs.declared.token.Role.{Role}
use Rattle.noise_names.specs.declared.token.Role.TheVariants.{Initiator, Responder}
use Rattle.noise_names.specs.Plan.{Plan, has_psk}
use Rattle.noise_names.specs.Tokens.{other}
use Rattle.noise_events.specs.Events.{Event, events_of}
use Rattle.noise_handshake.specs.declared.remote.Remote.{Remote}
use Rattle.noise_handshake.specs.Setup.{public_keys}
use Rattle.noise_session.specs.declared.faults.SendFault.{SendFault}
use Rattle.noise_session.specs.Ends.{EndState}
use Rattle.noise_session.specs.Frames.{frame}
use Rattle.noise_session.specs.Sending.{Sends}
use Rattle.noise_session.specs.Sending.Sends.{refuses, lacks_dh_result, sends_handshake, sends_transport}
use Rattle.noise_session.specs.Steps.{StepValue}
use Rattle.noise_session.specs.Steps.StepValue.{Payload}
use Rattle.noise_session.specs.Taking.{Judges}
use Rattle.noise_session.specs.Taking.Judges.{accepted, refused, opened, dropped, exhausted}
use Rattle.noise_lines.specs.TracedLines.{with_traces, with_traces_to}
use Rattle.noise_trace.specs.KeyUses.{KeyUseValue, message_use, opened_use, sent_use, stopped_use, tried_use}
use Rattle.noise_trace.specs.KeyUses.KeyUseValue.{Nothing}
use Rattle.noise_state.specs.Symmetric.{initiator_key, responder_key}
use Rattle.noise_duel.specs.Notes.{Note, held_note, left_note}
use Rattle.noise_duel.specs.Runs.{Happens, Run, SideReads, SideReceives, SideWrites}
use Rattle.noise_duel.specs.Runs.SideWrites.{writes_nothing, writes_handshake, writes_transport}
use Rattle.noise_duel.specs.Runs.SideReads.{accepts_handshake, accepts_transport, refuses_message}
use Rattle.noise_duel.specs.Runs.SideReceives.{is_idle, waits, reads_frame}
use Rattle.noise_duel.specs.Runs.Happens.{writes, says_nothing, says, delivers, misses, injects}
use Rattle.noise_duel.specs.Runs.Run.{ends, begins}
use Rattle.noise_duel.specs.Sides.{Side, Sides}
use Rattle.noise_trace.specs.Start.{start_steps}
use Rattle.noise_vectors.specs.FileKeys.{public_of}
use Rattle.noise_vectors.specs.declared.file_keys.FileKeys.{FileKeys}
use Rattle.noise_vectors.specs.declared.vector.FileDatagrams.{FileDatagrams}
use Rattle.noise_vectors.specs.declared.vector.VectorFile.{VectorFile}
use Rattle.noise_run.specs.Ends.{sides_of_file, keys_of_role as file_keys, known_to}
use Rattle.noise_run.specs.Selection.{heading_lines, selects_handshake, selects_transport, if_selected}
use Rattle.noise_run.specs.KeyUseLines.{key_use_lines}
use Rattle.noise_run.specs.PrintedTrace.{datagram_key_lines, start_lines_from}
use Rattle.noise_run.specs.Running.{AreLast, IsRunOf, datagrams_of_version}
use Rattle.noise_run.specs.Running.AreLast.{without, unready, ready}
use Rattle.noise_run.specs.declared.key_use_lines.Selection.{Selection}
use Rattle.noise_run.specs.declared.trace_lines.About.{About}
use Rattle.noise_run.specs.declared.trace_lines.Act.{Act}
use Rattle.noise_run.specs.declared.trace_lines.Act.TheVariants.{Writes as Writing, Accepts as Accepting, Refuses as Refusing}

-- ---- the keys of a write

-- of what isn't sent: the steps up to the token for which there is no DH result
abbrev pub unsent_use : (v : EndState) (payload : List ℕ) (next : EndState) (reported : Result (List ℕ) SendFault)
    → Sends v payload reported next → KeyUseValue
unsent_use v payload next reported (refuses _ _ why refusal) = Nothing
unsent_use v payload next reported (lacks_dh_result _ _ token free lacks) = stopped_use v token lacks.lacks.before
unsent_use v payload next reported (sends_handshake _ _ message xs free w) = Nothing
unsent_use v payload next reported (sends_transport _ _ free opens) = Nothing

abbrev pub written_use : (s : Side) (payload : List ℕ) (next : Side) (note : Note) → SideWrites s payload note next
    → KeyUseValue
written_use s payload next note (writes_nothing _ _ why after sends) = unsent_use s.state payload after _ sends
written_use s payload next note (writes_handshake _ message _ xs free w) = message_use s.state xs payload
written_use s payload next note (writes_transport _ message _ free opens is) = sent_use s.state

-- the message, if there is one
abbrev pub written_message : (s : Side) (payload : List ℕ) (next : Side) (note : Note)
    → SideWrites s payload note next → List ℕ
written_message s payload next note (writes_nothing _ _ why after sends) = []
written_message s payload next note (writes_handshake _ message _ xs free w) = message
written_message s payload next note (writes_transport _ message _ free opens is) = message

-- its frame
abbrev pub written_frame : (s : Side) (payload : List ℕ) (next : Side) (note : Note)
    → SideWrites s payload note next → List ℕ
written_frame s payload next note (writes_nothing _ _ why after sends) = []
written_frame s payload next note (writes_handshake _ message _ xs free w) = frame message
written_frame s payload next note (writes_transport _ message _ free opens is) = frame message

-- ---- the keys of a message that comes

abbrev pub judged_use : (v next : EndState) (message : List ℕ) (step : StepValue) → Judges v message step next
    → KeyUseValue
judged_use v next message step (accepted _ _ payload xs accepts) = message_use v xs payload
judged_use v next message step (refused _ _ token cause r) = stopped_use v token r.stops.carried
judged_use v next message step (opened _ _ payload opens more is) = opened_use v
judged_use v next message step (dropped _ _ opens more none) = tried_use v
judged_use v next message step (exhausted _ _ opens none) = Nothing

abbrev pub read_use : (s next : Side) (message : List ℕ) (step : StepValue) → SideReads s message step next
    → KeyUseValue
read_use s next message step (accepts_handshake _ _ payload xs accepts) = message_use s.state xs payload
read_use s next message step (accepts_transport _ _ payload opens more is) = opened_use s.state
read_use s next message step (refuses_message _ _ _ after gives judges) = judged_use s.state after message step judges

abbrev pub act_of : StepValue → Act
act_of (Payload bytes) = Accepting
act_of _ = Refusing

-- ---- the lines of an event: for each of its notes those that follow it

-- a message of an end: handshake messages are numbered from 1 on
abbrev pub about : Role → EndState → Act → About
about role v act = record { role = role; psks = has_psk v.party.pattern; act = act; number = v.party.passed + 1 }

-- no lines after each of these notes
abbrev pub blanks : List Note → List (List (List ℕ))
blanks notes = map (λ note. []) notes

-- of what is selected
module _ (selection : Selection) where
  abbrev pub written_trace : Role → (s : Side) (payload : List ℕ) (next : Side) (note : Note)
      → SideWrites s payload note next
      → List (List ℕ)
  written_trace role s payload next note w = key_use_lines selection (about role s.state Writing)
      (written_message s payload next note w) (written_use s payload next note w)

  abbrev pub read_trace : Role → (s next : Side) (message : List ℕ) (step : StepValue) → SideReads s message step next
      → List (List ℕ)
  read_trace role s next message step r =
      key_use_lines selection (about role s.state (act_of step)) message (read_use s next message step r)

  abbrev pub received_traces : Role → (s reader : Side) (bytes : List ℕ) (notes : List Note)
      → SideReceives s bytes notes reader → List (List (List ℕ))
  received_traces role s reader bytes notes (is_idle _ _ step idle) = blanks (left_note step (length bytes))
  received_traces role s reader bytes notes (waits _ _ listens part) = []
  received_traces role s reader bytes notes (reads_frame _ next _ _ message rest step more listens cut fits r later) =
      read_trace role s next message step r ∷ received_traces role next reader rest more later

  -- with the note of the bytes that are held then
  abbrev pub came_traces : Role → (s reader : Side) (bytes : List ℕ) (notes : List Note)
      → SideReceives s bytes notes reader → List (List (List ℕ))
  came_traces role s reader bytes notes x =
      received_traces role s reader bytes notes x ++ blanks (held_note (length reader.state.partial))

  abbrev pub happened_traces : (d last : Sides) (event : Event) (notes : List (Role × Note))
      → Happens d event notes last → List (List (List ℕ))
  happened_traces d last event notes (writes _ role payload note next w) = written_trace role _ payload next note w ∷ []
  happened_traces d last event notes (says_nothing _ role payload why next w) =
      written_trace role _ payload next _ w ∷ []
  happened_traces d last event notes (says _ role payload bytes n heard next reader w got x) =
      written_trace role _ payload next _ w ∷ came_traces (other role) _ reader bytes heard x
  happened_traces d last event notes (delivers _ role n bytes heard reader got x) =
      came_traces role _ reader bytes heard x
  happened_traces d last event notes (misses _ role n none) = [] ∷ []
  happened_traces d last event notes (injects _ role bytes heard reader x) = came_traces role _ reader bytes heard x

  abbrev pub run_traces : (d last : Sides) (events : List Event) (notes : List (Role × Note)) → Run d events notes last
      → List (List (List ℕ))
  run_traces d last events notes (ends _) = []
  run_traces d last events notes (begins _ next _ event more here later h rest) =
      happened_traces d next event here h ++ run_traces next last more later rest

  -- ---- before the events, and after them

  -- the start of an end of this role, with these keys, and these of the other party that it knows
  abbrev pub start_lines_of : Role → Plan → List ℕ → FileKeys → Remote → List (List ℕ)
  start_lines_of role plan prologue keys remote = if_selected (selects_handshake selection role)
      (start_lines_from role (has_psk plan) 0 (start_steps plan role prologue (public_keys (public_of keys)) remote))

  abbrev pub start_of_role : VectorFile → Plan → Role → List (List ℕ)
  start_of_role file plan role =
      start_lines_of role plan file.prologue.items (file_keys file role) (known_to file plan role)

  -- of each end, after the heading
  abbrev pub start_traces : VectorFile → Plan → List (List ℕ)
  start_traces file plan =
      heading_lines selection ++ start_of_role file plan Initiator ++ start_of_role file plan Responder

  -- the keys of datagrams of each end
  abbrev pub datagram_keys_of : Role → EndState → List (List ℕ)
  datagram_keys_of role v = if_selected (selects_transport selection role)
      (datagram_key_lines role (initiator_key v.party.state) (responder_key v.party.state))

  -- after the first of the last lines, where both ends have gone over to datagrams
  abbrev pub last_traces : (datagrams : Option FileDatagrams) (d : Sides) (after : List (List ℕ))
      → AreLast datagrams d after → List (List (List ℕ))
  last_traces datagrams d after (without _) = []
  last_traces datagrams d after (unready _ _ not_ready) = []
  last_traces datagrams d after (ready _ _ notes last are run) =
      (datagram_keys_of Initiator d.initiator.state ++ datagram_keys_of Responder d.responder.state) ∷ []

-- ---- the whole

-- These are the lines of the file's run (`IsRunOf`), and those of its key schedules: of the start of each end, and for
-- each line of the run, as far as there are some, those that follow it.
pub record HasTraces (selection : Selection) (file : VectorFile) (lines start : List (List ℕ))
    (traces : List (List (List ℕ))) : Type 0 where
  pub run : IsRunOf file lines
  pub start_is : start ≡ start_traces selection file run.plan
  pub traces_are : traces ≡ run_traces selection (sides_of_file file run.plan) run.last (events_of file.events.items)
      run.notes run.run ++ last_traces selection (datagrams_of_version file.version) run.last run.after run.are_last

-- These are the lines of the file's run, and those that `trace` prints: the start of each end, and then each line of
-- the run with those that follow it.
pub record IsTraceOf (selection : Selection) (file : VectorFile) (lines traced : List (List ℕ)) : Type 0 where
  pub start : List (List ℕ)
  pub traces : List (List (List ℕ))
  pub shown : HasTraces selection file lines start traces
  pub traced_are : traced ≡ start ++ with_traces lines traces

-- These are the lines of the file's run, and the front of what `trace` prints, up to the line of the run of this number
-- and those that follow it.
pub record IsTraceTo (selection : Selection) (file : VectorFile) (lines : List (List ℕ)) (number : ℕ)
    (front : List (List ℕ)) : Type 0 where
  pub start : List (List ℕ)
  pub traces : List (List (List ℕ))
  pub shown : HasTraces selection file lines start traces
  pub front_is : front ≡ start ++ with_traces_to number lines traces
