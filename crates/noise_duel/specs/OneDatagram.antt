-- What comes of one event, in code: the datagrams of one party or of both, those that were sealed, and an entry.
use Rattle.std.specs.Prelude.{◌≡◌, ℕ, List, ◌++◌, Option, Some, None, Vec}
use Rattle.std.specs.Global.{Global}
use Rattle.noise_names.specs.declared.token.Role.{Role}
use Rattle.noise_session.specs.Datagrams.{DatagramsValue, DatagramsMatch}
use Rattle.noise_duel.specs.declared.datagram_duel.SealedDatagrams.{SealedDatagrams}
use Rattle.noise_duel.specs.declared.datagram_report.DatagramEntry.{DatagramEntry}
use Rattle.noise_duel.specs.declared.datagram_report.DatagramReport.{DatagramReport}
use Rattle.noise_events.specs.DatagramEvents.{DatagramEvent}
use Rattle.noise_duel.specs.DatagramNotes.{DatagramNote, Missing}
use Rattle.noise_duel.specs.DatagramReports.{DatagramDuelValue, DatagramDuelMatches, datagram_note_of, datagram_notes_of}
use Rattle.noise_duel.specs.DatagramRuns.{PartySeals, PartyOpens, DatagramHappens, DatagramRun}
use Rattle.noise_duel.specs.DatagramSides.{DatagramSide, DatagramSides, sealed_datagrams}
use Rattle.noise_names.specs.Lists.{bytes_of}

-- A payload was sealed, or refused: the party's datagrams and those that it sealed are those after that.
pub record HasSealed (s : DatagramSide) (payload : List ℕ) (entry : DatagramEntry) (datagrams : DatagramsValue)
    (sealed : List (Vec ℕ Global)) : Type 0 where
  pub next : DatagramSide
  pub seals : PartySeals s payload (datagram_note_of entry) next
  pub matches : DatagramsMatch datagrams next.state
  pub sealed_match : bytes_of sealed ≡ sealed_datagrams next

-- Bytes came and were opened, or refused: the party's datagrams are those after that.
pub record HasOpened (s : DatagramSide) (bytes : List ℕ) (entry : DatagramEntry)
    (datagrams : DatagramsValue) : Type 0 where
  pub next : DatagramSide
  pub opens : PartyOpens s bytes (datagram_note_of entry) next
  pub matches : DatagramsMatch datagrams next.state
  pub unchanged : sealed_datagrams next ≡ sealed_datagrams s

-- A datagram comes, or none of that number was sealed.
abbrev pub HasFound : DatagramSide → ℕ → Option (List ℕ) → DatagramEntry → DatagramsValue → Type 0
HasFound s n (Some bytes) entry datagrams = HasOpened s bytes entry datagrams
HasFound s n None entry datagrams = (datagram_note_of entry ≡ Missing n) × DatagramsMatch datagrams s.state

-- the datagrams that were sealed are those of the two sides
pub record SealedMatch (sealed : SealedDatagrams) (d : DatagramSides) : Type 0 where
  pub initiator : bytes_of sealed.initiator.items ≡ sealed_datagrams d.initiator
  pub responder : bytes_of sealed.responder.items ≡ sealed_datagrams d.responder

-- An event happened: both parties' datagrams, those that were sealed, and the entry are those after it.
pub record DatagramHappened (d : DatagramSides) (event : DatagramEvent) (reported : Role × DatagramEntry)
    (duel : DatagramDuelValue) (sealed : SealedDatagrams) : Type 0 where
  pub next : DatagramSides
  pub happens : DatagramHappens d event (reported.0, datagram_note_of reported.1) next
  pub matches : DatagramDuelMatches duel next
  pub sealed_match : SealedMatch sealed next

-- So far: whatever comes of the events that are left comes, after the notes so far, of all events.
pub record DatagramsHaveComeTo (d : DatagramSides) (events rest : List DatagramEvent) (duel : DatagramDuelValue)
    (sealed : SealedDatagrams) (report : DatagramReport) : Type 0 where
  pub now : DatagramSides
  pub goes_on : (notes : List (Role × DatagramNote)) (last : DatagramSides) → DatagramRun now rest notes last
      → DatagramRun d events (datagram_notes_of report.entries.items ++ notes) last
  pub matches : DatagramDuelMatches duel now
  pub sealed_match : SealedMatch sealed now
