use Rattle.std.proofs.Common.{ℕ, List}
use Rattle.noise_theorems.proofs.Common.{Role, Plan, Event, sides_at_start, Start, HaveOneHistory, Note, Sides}
use Rattle.noise_session.specs.Datagrams.{DatagramState, datagrams_of}
use Rattle.noise_events.specs.DatagramEvents.{datagram_events_of}
use Rattle.noise_duel.specs.DatagramReports.{datagram_notes_of}
use Rattle.noise_duel.specs.DuelValue.{DuelMatches}
use Rattle.noise_duel.specs.Runs.{Run}
use Rattle.noise_theorems.specs.Datagrams.{DatagramsOverNetwork}
use Rattle.noise_theorems.proofs.DatagramEntries.{or-clash}
use Rattle.noise_theorems.proofs.datagrams.run_datagrams.Goals as goal

pub returns : goal.returns
returns g c =
    let ended_party : (p : Plan) (a b : Start) (i j : ℕ) (opening : List Event) (notes : List (Role × Note)) (d : Sides)
    → Run (sides_at_start p a b i j) opening notes d
    → DuelMatches g.A.Keys.pairs g.B.Keys.pairs c.args.duel d → HaveOneHistory p a b d
    → DatagramsOverNetwork (datagrams_of d.initiator.state.party c.args.window) (datagrams_of d.responder.state.party c.args.window)
    (datagram_events_of c.args.events.now) c.in_ok-made.made.0 c.in_ok-made.made.1 = λ p a b i j opening notes d run matches one.
    (let v : DatagramState = datagrams_of d.initiator.state.party c.args.window in
    let w : DatagramState = datagrams_of d.responder.state.party c.args.window in
    let events = datagram_events_of c.args.events.now in
    let reported = datagram_notes_of c.in_ok-made.made.1.entries.items in
    let begun = c.datagrams_agree.ensures.start p a b i j opening notes d c.args.window run one in
    let matches = c.go_over-parties.ensures.matches d.initiator.state d.responder.state (record { initiator = matches.initiator; responder = matches.responder }) in
    let left = c.in_ok-made.ensures.reports v w matches in
    let reports = c.datagram_entries_agree.ensures.reported v w events reported left.last begun left.run in
    let agree = c.datagram_entries_agree.ensures.agree v w events reported left.last begun left.run in
    record {
      reports = left;
      initiator = reports.0;
      responder = reports.1;
      there = agree.0;
      back = agree.1;
      keys = c.datagram_entries_agree.ensures.keys v w events reported left.last c.in_ok-made.made.0 begun left.run left.matches;
    }) in
    record {
      reports = λ v w matches. c.in_ok-made.ensures.reports (datagrams_of v.party c.args.window) (datagrams_of w.party c.args.window) (c.go_over-parties.ensures.matches v w matches);
      agrees = ended_party;
      hashes = λ p a b i j opening notes d hash run matches psks e f.
          or-clash c.clash_reported.ensures.matches c.clash_reported.ensures.found p a b d (ended_party p a b i j opening notes d run matches)
          (c.ends_agree.ensures.one p a b i j opening notes d run (c.hash_is_reported.ensures c.args.duel d hash matches e f) psks);
    }
