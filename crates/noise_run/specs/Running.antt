-- The run of a vector file: its lines, and whether they are those that the file expects.
use Rattle.std.specs.Prelude.{◌≡◌, ◌&&◌, ◌==◌, ℕ, List, [], ◌∷◌, ◌++◌, codes, length, map, Bool, true, false, Option, None, Some, Vec}
use Rattle.std.specs.Global.{Global}
use Rattle.noise_names.specs.declared.token.Role.{Role}
use Rattle.noise_names.specs.Plan.{Plan}
use Rattle.noise_events.specs.declared.window.Window.{Window}
use Rattle.noise_session.specs.Datagrams.{datagrams_of}
use Rattle.noise_session.specs.EndDatagrams.{is_untouched}
use Rattle.noise_session.specs.Ends.{EndState, progress_of}
use Rattle.noise_events.specs.Events.{Event, events_of}
use Rattle.noise_duel.specs.DatagramNotes.{DatagramNote}
use Rattle.noise_events.specs.DatagramEvents.{datagram_events_of}
use Rattle.noise_duel.specs.DatagramRuns.{DatagramRun}
use Rattle.noise_duel.specs.DatagramSides.{DatagramSides, datagram_sides}
use Rattle.noise_duel.specs.DuelValue.{DuelValue}
use Rattle.noise_duel.specs.Notes.{Note}
use Rattle.noise_duel.specs.Runs.{Run}
use Rattle.noise_duel.specs.Sides.{Sides}
use Rattle.noise_names.specs.Lists.{bytes_of}
use Rattle.noise_vectors.specs.VectorText.{window_words}
use Rattle.noise_vectors.specs.declared.file_keys.FileKeys.{FileKeys}
use Rattle.noise_vectors.specs.declared.vector.FileDatagrams.{FileDatagrams}
use Rattle.noise_vectors.specs.declared.vector.VectorFile.{VectorFile}
use Rattle.noise_vectors.specs.declared.vector.Version.{Version}
use Rattle.noise_vectors.specs.declared.vector.Version.TheVariants.{One, Two}
use Rattle.noise_run.specs.Ends.{FileDuelMatches, IsPlanOf, sides_of_file}
use Rattle.noise_run.specs.Printed.{Appended, note_line, state_lines}
use Rattle.noise_run.specs.PrintedDatagrams.{datagram_line, datagram_state_lines}

-- the datagrams that both ends go over to, if the file has them
abbrev pub datagrams_of_version : Version → Option FileDatagrams
datagrams_of_version One = None
datagrams_of_version (Two additions) = additions.datagrams

-- the lines that are expected
abbrev pub expected_in : Version → List (List ℕ)
expected_in One = []
expected_in (Two additions) = bytes_of additions.expected.items

-- whether an end may go over: it is open, no transport message was sent or received, and nothing has come of a frame
abbrev pub is_ready : EndState → Bool
is_ready v = is_untouched (progress_of v) && (length v.partial == 0)

abbrev pub are_ready : Sides → Bool
are_ready d = is_ready d.initiator.state && is_ready d.responder.state

-- both parties, gone over with this window
abbrev pub gone_over : Sides → Window → DatagramSides
gone_over d window =
    datagram_sides (datagrams_of d.initiator.state.party window) (datagrams_of d.responder.state.party window)

-- that both have gone over with this window, what came of each event there, and where both stand then
abbrev pub datagram_run_lines : Window → List (Role × DatagramNote) → DatagramSides → List (List ℕ)
datagram_run_lines window notes last = window_words window ∷ (map datagram_line notes ++ datagram_state_lines last)

-- the lines grew by those of these datagrams, from these sides on
abbrev pub AppendsDatagrams : DatagramSides → FileDatagrams → Vec (Vec ℕ Global) Global → Vec (Vec ℕ Global) Global
    → Type 0
AppendsDatagrams start datagrams before after = (notes : List (Role × DatagramNote)) × (last : DatagramSides)
    × DatagramRun start (datagram_events_of datagrams.events.items) notes last
    × Appended before after (datagram_run_lines datagrams.window notes last)

-- The lines after those of the events. Without datagrams: the states of both ends. With them: those of the
-- datagrams; or that they can't go over, and their states.
pub data AreLast : Option FileDatagrams → Sides → List (List ℕ) → Type 0 where
  without : (d : Sides) → AreLast None d (state_lines d)
  unready : (datagrams : FileDatagrams) (d : Sides) → are_ready d ≡ false
      → AreLast (Some datagrams) d (codes "no-datagrams" ∷ state_lines d)
  ready : (datagrams : FileDatagrams) (d : Sides) (notes : List (Role × DatagramNote)) (last : DatagramSides)
      → are_ready d ≡ true
      → DatagramRun (gone_over d datagrams.window) (datagram_events_of datagrams.events.items) notes last
      → AreLast (Some datagrams) d (datagram_run_lines datagrams.window notes last)

-- these events, of which the sides make these lines' notes, leave the duel
pub record LeavesLines (start : Sides) (events : List Event) (duel : DuelValue FileKeys FileKeys)
    (lines : List (List ℕ)) : Type 0 where
  pub notes : List (Role × Note)
  pub last : Sides
  pub run : Run start events notes last
  pub matches : FileDuelMatches duel last
  pub lines_are : lines ≡ map (note_line last) notes

-- These are the lines of the file's run: by its valid pattern two ends start from what the file gives them, nothing is
-- wrong with either setup, and the file's events make of them these notes and last sides. A file has one such list of
-- lines (`file_run_once`).
pub record IsRunOf (file : VectorFile) (lines : List (List ℕ)) : Type 0 where
  pub plan : Plan
  pub of_file : IsPlanOf file plan
  pub notes : List (Role × Note)
  pub last : Sides
  pub run : Run (sides_of_file file plan) (events_of file.events.items) notes last
  pub after : List (List ℕ)
  pub are_last : AreLast (datagrams_of_version file.version) last after
  pub lines_are : lines ≡ map (note_line last) notes ++ after
