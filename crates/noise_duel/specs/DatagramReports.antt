-- What a run of two parties' datagrams reports and leaves.
use Rattle.std.specs.Prelude.{List, map}
use Rattle.noise_names.specs.declared.token.Role.{Role}
use Rattle.noise_events.specs.declared.window.Window.{Window}
use Rattle.noise_session.specs.Datagrams.{DatagramsValue, DatagramsMatch, datagrams_of}
use Rattle.noise_session.specs.Ends.{EndState}
use Rattle.noise_duel.specs.declared.datagram_report.DatagramEntry.{DatagramEntry}
use Rattle.noise_duel.specs.declared.datagram_report.DatagramEntry.TheVariants as entry
use Rattle.noise_duel.specs.declared.datagram_report.DatagramReport.{DatagramReport}
use Rattle.noise_events.specs.DatagramEvents.{DatagramEvent}
use Rattle.noise_duel.specs.DatagramNotes.{DatagramNote, Sealed, SealFault, Payload, Rejected, Missing}
use Rattle.noise_duel.specs.DatagramRuns.{DatagramRun}
use Rattle.noise_duel.specs.DatagramSides.{DatagramSides, datagram_sides}

-- the entries that code has, as notes
abbrev pub datagram_note_of : DatagramEntry → DatagramNote
datagram_note_of (entry.Sealed number datagram) = Sealed number datagram.items
datagram_note_of (entry.SealFault why) = SealFault why
datagram_note_of (entry.Payload bytes) = Payload bytes.items
datagram_note_of (entry.Rejected why) = Rejected why
datagram_note_of (entry.Missing number) = Missing number

abbrev pub datagram_notes_of : List (Role × DatagramEntry) → List (Role × DatagramNote)
datagram_notes_of entries = map (λ e. (e.0, datagram_note_of e.1)) entries

-- the datagrams of two parties as contracts see them
pub record DatagramDuelValue : Type 0 where
  pub initiator : DatagramsValue
  pub responder : DatagramsValue

-- the datagrams of two parties whose ends have these states, before a run
abbrev pub datagram_sides_of : EndState → EndState → Window → DatagramSides
datagram_sides_of v w window = datagram_sides (datagrams_of v.party window) (datagrams_of w.party window)

-- each matches its state
pub record DatagramDuelMatches (duel : DatagramDuelValue) (d : DatagramSides) : Type 0 where
  pub initiator : DatagramsMatch duel.initiator d.initiator.state
  pub responder : DatagramsMatch duel.responder d.responder.state

-- The report is that of a run of the two, and those left match the states after it.
pub record DatagramReports (d : DatagramSides) (events : List DatagramEvent) (duel : DatagramDuelValue)
    (report : DatagramReport) : Type 0 where
  pub last : DatagramSides
  pub run : DatagramRun d events (datagram_notes_of report.entries.items) last
  pub matches : DatagramDuelMatches duel last
