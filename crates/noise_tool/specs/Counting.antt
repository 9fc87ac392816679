-- What is counted in the run of a vector file.
use Rattle.std.specs.Prelude.{◌≡◌, ℕ, List, [], ◌++◌, Option, Some, None, false, option_map, true}
use Rattle.std.specs.List.{filter_map}
use Rattle.noise_names.specs.declared.token.Role.{Role}
use Rattle.noise_names.specs.Plan.{Plan}
use Rattle.noise_events.specs.DatagramEvents.{datagram_events_of}
use Rattle.noise_events.specs.Events.{events_of}
use Rattle.noise_session.specs.Steps.StepValue.{Payload, Dropped}
use Rattle.noise_duel.specs.DatagramNotes.{DatagramNote}
use Rattle.noise_duel.specs.DatagramNotes as datagram
use Rattle.noise_duel.specs.DatagramRuns.{DatagramRun}
use Rattle.noise_duel.specs.DatagramSides.{DatagramSides}
use Rattle.noise_duel.specs.Notes.{Note, Wrote, Judged}
use Rattle.noise_duel.specs.Runs.{Run}
use Rattle.noise_duel.specs.Sides.{Sides}
use Rattle.noise_explain.specs.RunCounts.{CountsRun}
use Rattle.noise_explain.specs.declared.run_counts.Act.{Act}
use Rattle.noise_explain.specs.declared.run_counts.Act.TheVariants as act
use Rattle.noise_explain.specs.declared.run_counts.RunCounts.{RunCounts}
use Rattle.noise_vectors.specs.declared.vector.FileDatagrams.{FileDatagrams}
use Rattle.noise_vectors.specs.declared.vector.VectorFile.{VectorFile}
use Rattle.noise_run.specs.Ends.{IsPlanOf, sides_of_file}
use Rattle.noise_run.specs.Running.{are_ready, datagrams_of_version, gone_over}

-- what a party did by its note, if that is counted
abbrev pub counted_act : Note → Option Act
counted_act (Wrote n) = Some act.Wrote
counted_act (Judged (Payload bytes)) = Some act.Accepted
counted_act (Judged (Dropped cause)) = Some act.Dropped
counted_act _ = None

abbrev pub counted_datagram_act : DatagramNote → Option Act
counted_datagram_act (datagram.Sealed number bytes) = Some act.Sealed
counted_datagram_act (datagram.Payload bytes) = Some act.Opened
counted_datagram_act (datagram.Rejected cause) = Some act.Rejected
counted_datagram_act _ = None

-- the acts of these notes, each with the role that it is about
abbrev pub acts_in : List (Role × Note) → List (Role × Act)
acts_in notes = filter_map (λ n. option_map (λ a. (n.0, a)) (counted_act n.1)) notes

abbrev pub datagram_acts_in : List (Role × DatagramNote) → List (Role × Act)
datagram_acts_in notes = filter_map (λ n. option_map (λ a. (n.0, a)) (counted_datagram_act n.1)) notes

-- the notes of the datagrams after the events: none where there are no datagrams, or where the ends can't go over
pub data AreDatagramNotes : Option FileDatagrams → Sides → List (Role × DatagramNote) → Type 0 where
  without : (d : Sides) → AreDatagramNotes None d []
  unready : (datagrams : FileDatagrams) (d : Sides) → are_ready d ≡ false → AreDatagramNotes (Some datagrams) d []
  ready : (datagrams : FileDatagrams) (d : Sides) (notes : List (Role × DatagramNote)) (last : DatagramSides)
      → are_ready d ≡ true
      → DatagramRun (gone_over d datagrams.window) (datagram_events_of datagrams.events.items) notes last
      → AreDatagramNotes (Some datagrams) d notes

-- these are the counts of the file's run, where a handshake has so many messages
pub record IsCountOf (file : VectorFile) (messages : ℕ) (counts : RunCounts) : Type 0 where
  pub plan : Plan
  pub of_file : IsPlanOf file plan
  pub notes : List (Role × Note)
  pub last : Sides
  pub run : Run (sides_of_file file plan) (events_of file.events.items) notes last
  pub datagram_notes : List (Role × DatagramNote)
  pub are_last : AreDatagramNotes (datagrams_of_version file.version) last datagram_notes
  pub counted : CountsRun messages (acts_in notes ++ datagram_acts_in datagram_notes) counts
