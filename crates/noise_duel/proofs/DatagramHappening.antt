-- What comes of events on datagrams, in code, from what comes of one party's part of them.
use Rattle.std.proofs.Common.{rules, ◌≡◌, ℕ, List, ◌∷◌, ◌++◌, length, refl, ap, sym, subst, ◌∙◌, append_assoc, append-nil, Option, Some, None, Ok, Err, MatchOption, slice_get, Vec, Global, IsOk, []}
use Rattle.std.specs.Prelude.{Result}
use Rattle.noise_duel.proofs.Common.{map-append, length-map, Role, Initiator, Responder, other, SendFault, DatagramState, DatagramsValue, Opens, DatagramsMatch, accepting, datagram, nonce_named, unsealed, DatagramEvent, Seal, DatagramNote, Rejected, Sealed, DatagramReports, DatagramDuelMatches, DatagramDuelValue, datagram_note_of, datagram_notes_of, DatagramHappens, DatagramRun, PartyOpens, PartySeals, is_sealed, is_delivered, is_missing, is_put_in, opens, rejects, seals, DatagramSide, DatagramSides, party, with_party, sealed_datagrams, opening, sealing, datagram_bytes, bytes_of, DatagramHappened, DatagramsHaveComeTo, HasFound, HasOpened, HasSealed, SealedMatch}
use Rattle.noise_session.specs.declared.datagram_fault.DatagramFault.{DatagramFault}
use Rattle.noise_duel.specs.declared.datagram_duel.SealedDatagrams.{SealedDatagrams}
use Rattle.noise_duel.specs.declared.datagram_report.DatagramEntry.{DatagramEntry}
use Rattle.noise_duel.specs.declared.datagram_report.DatagramReport.{DatagramReport}
use Rattle.noise_events.specs.DatagramEvents.{Open, Raw}
use Rattle.noise_duel.specs.DatagramNotes.{Payload}
use Rattle.noise_duel.specs.DatagramRuns.DatagramRun.{begins, ends}

-- ---- one party seals

abbrev sealed_as : ℕ → Result ℕ SendFault
sealed_as n = Ok n

abbrev refused_as : SendFault → Result ℕ SendFault
refused_as why = Err why

-- where a seal succeeds there is no fault, and where it is refused there is that one
pub no-fault : (o : Option SendFault) (n : ℕ) → MatchOption o (IsOk (sealed_as n)) (λ fault. sealed_as n ≡ Err fault) → o ≡ None
no-fault None n h = refl
no-fault (Some why) n h = cc

pub that-fault : (o : Option SendFault) (why : SendFault) → MatchOption o (IsOk (refused_as why)) (λ fault. refused_as why ≡ Err fault) → o ≡ Some why
that-fault None why h = cc
that-fault (Some fault) why h = cc

pub fault-in-state : (d : DatagramsValue) (v : DatagramState) (n : ℕ) → DatagramsMatch d v
    → unsealed d.role d.one_way d.send_nonce n ≡ unsealed v.role v.one_way v.sent n
fault-in-state d v n p = rw (p.sender.role, p.sender.one_way, p.sender.nonce) refl

pub seals-as : (s : DatagramSide) (payload bytes : List ℕ) (n : ℕ) → unsealed s.state.role s.state.one_way s.state.sent (length payload) ≡ None
    → length s.sealed ≡ n → datagram s.state.state s.state.role s.state.sent payload ≡ bytes → PartySeals s payload (Sealed n bytes) (sealing s payload)
seals-as s payload bytes n none number is =
    subst (λ (k : ℕ). PartySeals s payload (Sealed k bytes) (sealing s payload)) number
    (subst (λ (b : List ℕ). PartySeals s payload (Sealed (length s.sealed) b) (sealing s payload)) is (seals s payload none))

pub one-more-in : (s : DatagramSide) (payload : List ℕ)
    → sealed_datagrams (sealing s payload) ≡ sealed_datagrams s ++ datagram s.state.state s.state.role s.state.sent payload ∷ []
one-more-in s payload = map-append datagram_bytes s.sealed _

pub number-is : (s : DatagramSide) (unchanged : List (Vec ℕ Global)) → bytes_of unchanged ≡ sealed_datagrams s → length s.sealed ≡ length unchanged
number-is s unchanged same = sym (length-map s.sealed datagram_bytes) ∙ ap length (sym same) ∙ length-map unchanged (λ (v : Vec ℕ Global). v.items)

-- ---- one party opens

pub opened-copy : (s : DatagramSide) (bytes came payload reported : List ℕ) (entry : DatagramEntry) (d : DatagramsValue) → came ≡ bytes → reported ≡ payload
    → datagram_note_of entry ≡ Payload reported → Opens s.state came (Ok payload) (accepting s.state (nonce_named came))
    → DatagramsMatch d (accepting s.state (nonce_named came)) → HasOpened s bytes entry d
opened-copy s bytes came payload reported entry d copy same note o p = record {
  next = opening s bytes payload;
  opens = subst (λ (n : DatagramNote). PartyOpens s bytes n (opening s bytes payload)) (ap Payload (sym same) ∙ sym note)
      (opens s bytes payload (subst (λ (b : List ℕ). Opens s.state b (Ok payload) (accepting s.state (nonce_named b))) copy o));
  matches = subst (λ (b : List ℕ). DatagramsMatch d (accepting s.state (nonce_named b))) copy p;
  unchanged = refl;
}

pub rejected-copy : (s : DatagramSide) (bytes came : List ℕ) (why : DatagramFault) (entry : DatagramEntry) (d before : DatagramsValue) → came ≡ bytes
    → datagram_note_of entry ≡ Rejected why → Opens s.state came (Err why) s.state → d ≡ before → DatagramsMatch before s.state → HasOpened s bytes entry d
rejected-copy s bytes came why entry d before copy note o same p = record {
  next = s;
  opens = subst (λ (n : DatagramNote). PartyOpens s bytes n s) (sym note)
      (rejects s bytes why (subst (λ (b : List ℕ). Opens s.state b (Err why) s.state) copy o));
  matches = subst (λ (x : DatagramsValue). DatagramsMatch x s.state) (sym same) p;
  unchanged = refl;
}

-- ---- both parties

abbrev datagrams_at : DatagramDuelValue → Role → DatagramsValue
datagrams_at duel Initiator = duel.initiator
datagrams_at duel Responder = duel.responder

abbrev sealed_at : SealedDatagrams → Role → List (Vec ℕ Global)
sealed_at sealed Initiator = sealed.initiator.items
sealed_at sealed Responder = sealed.responder.items

-- one party's datagrams are those of another side
matches-at : (d : DatagramSides) (role : Role) (s : DatagramSide) (duel next : DatagramDuelValue) → DatagramDuelMatches duel d
    → datagrams_at next (other role) ≡ datagrams_at duel (other role) → DatagramsMatch (datagrams_at next role) s.state
    → DatagramDuelMatches next (with_party d role s)
matches-at d Initiator s duel next p same here = search rules
matches-at d Responder s duel next p same here = search rules

sealed-now : (d : DatagramSides) (role : Role) (sealed : SealedDatagrams) → SealedMatch sealed d → bytes_of (sealed_at sealed role) ≡ sealed_datagrams (party d role)
sealed-now d Initiator sealed k = k.initiator
sealed-now d Responder sealed k = k.responder

sealed-match-at : (d : DatagramSides) (role : Role) (s : DatagramSide) (sealed after : SealedDatagrams) → SealedMatch sealed d
    → sealed_at after (other role) ≡ sealed_at sealed (other role) → bytes_of (sealed_at after role) ≡ sealed_datagrams s
    → SealedMatch after (with_party d role s)
sealed-match-at d Initiator s sealed after k rest here = record { initiator = here; responder = ap bytes_of rest ∙ k.responder }
sealed-match-at d Responder s sealed after k rest here = record { initiator = ap bytes_of rest ∙ k.initiator; responder = here }

pub seals-here : (d : DatagramSides) (role r : Role) (payload : List ℕ) (entry : DatagramEntry) (duel next : DatagramDuelValue)
    (sealed after : SealedDatagrams) → role ≡ r → DatagramDuelMatches duel d → SealedMatch sealed d → datagrams_at next (other r) ≡ datagrams_at duel (other r)
    → sealed_at after (other r) ≡ sealed_at sealed (other r) → HasSealed (party d r) payload entry (datagrams_at next r) (sealed_at after r)
    → DatagramHappened d (Seal role payload) (role, entry) next after
seals-here d role r payload entry duel next sealed after is p k same rest h =
    subst (λ (q : Role). DatagramHappened d (Seal q payload) (q, entry) next after) (sym is) (record {
      next = with_party d r h.next;
      happens = is_sealed d r payload (datagram_note_of entry) h.next h.seals;
      matches = matches-at d r h.next duel next p same h.matches;
      sealed_match = sealed-match-at d r h.next sealed after k rest h.sealed_match;
    })

comes-here : (d : DatagramSides) (r : Role) (event : DatagramEvent) (bytes : List ℕ) (entry : DatagramEntry) (duel next : DatagramDuelValue)
    (sealed : SealedDatagrams) → DatagramDuelMatches duel d → SealedMatch sealed d → datagrams_at next (other r) ≡ datagrams_at duel (other r)
    → (h : HasOpened (party d r) bytes entry (datagrams_at next r)) → DatagramHappens d event (r, datagram_note_of entry) (with_party d r h.next)
    → DatagramHappened d event (r, entry) next sealed
comes-here d r event bytes entry duel next sealed p k same h happens = record {
  next = with_party d r h.next;
  happens = happens;
  matches = matches-at d r h.next duel next p same h.matches;
  sealed_match = sealed-match-at d r h.next sealed sealed k refl (sealed-now d r sealed k ∙ sym h.unchanged);
}

pub put-in-here : (d : DatagramSides) (role r : Role) (bytes : List ℕ) (entry : DatagramEntry) (duel next : DatagramDuelValue) (sealed : SealedDatagrams)
    → role ≡ r → DatagramDuelMatches duel d → SealedMatch sealed d → datagrams_at next (other r) ≡ datagrams_at duel (other r)
    → HasOpened (party d r) bytes entry (datagrams_at next r) → DatagramHappened d (Raw role bytes) (role, entry) next sealed
put-in-here d role r bytes entry duel next sealed is p k same h =
    subst (λ (q : Role). DatagramHappened d (Raw q bytes) (q, entry) next sealed) (sym is)
    (comes-here d r (Raw r bytes) bytes entry duel next sealed p k same h (is_put_in d r bytes (datagram_note_of entry) h.next h.opens))

found-at : (d : DatagramSides) (r : Role) (n : ℕ) (found : Option (List ℕ)) (entry : DatagramEntry) (duel next : DatagramDuelValue) (sealed : SealedDatagrams)
    → slice_get (sealed_datagrams (party d (other r))) n ≡ found → DatagramDuelMatches duel d → SealedMatch sealed d
    → datagrams_at next (other r) ≡ datagrams_at duel (other r) → HasFound (party d r) n found entry (datagrams_at next r)
    → DatagramHappened d (Open r n) (r, entry) next sealed
found-at d r n (Some bytes) entry duel next sealed got p k same h =
    comes-here d r (Open r n) bytes entry duel next sealed p k same h (is_delivered d r n bytes (datagram_note_of entry) h.next got h.opens)
found-at d r n None entry duel next sealed got p k same h = record {
  next = d;
  happens = subst (λ (note : DatagramNote). DatagramHappens d (Open r n) (r, note) d) (sym h.0) (is_missing d r n got);
  matches = missing r same h.1;
  sealed_match = k;
}
  where
    missing : (q : Role) → datagrams_at next (other q) ≡ datagrams_at duel (other q) → DatagramsMatch (datagrams_at next q) (party d q).state
        → DatagramDuelMatches next d
    missing Initiator rest here = matches-at d Initiator d.initiator duel next p rest here
    missing Responder rest here = matches-at d Responder d.responder duel next p rest here

pub found-here : (d : DatagramSides) (role r : Role) (n : ℕ) (found : Option (List ℕ)) (entry : DatagramEntry) (duel next : DatagramDuelValue)
    (sealed : SealedDatagrams) → role ≡ r → slice_get (sealed_datagrams (party d (other r))) n ≡ found → DatagramDuelMatches duel d → SealedMatch sealed d
    → datagrams_at next (other r) ≡ datagrams_at duel (other r) → HasFound (party d r) n found entry (datagrams_at next r)
    → DatagramHappened d (Open role n) (role, entry) next sealed
found-here d role r n found entry duel next sealed is got p k same h = search (rules, found-at)

-- ---- events, one after another

pub nothing-yet : (d : DatagramSides) (events : List DatagramEvent) (duel : DatagramDuelValue) (sealed : SealedDatagrams) (report : DatagramReport)
    → DatagramDuelMatches duel d → SealedMatch sealed d → report.entries.items ≡ [] → DatagramsHaveComeTo d events events duel sealed report
nothing-yet d events duel sealed report p k empty = search rules

pub one-more : (d : DatagramSides) (events rest more : List DatagramEvent) (event : DatagramEvent) (reported : Role × DatagramEntry)
    (duel next : DatagramDuelValue) (sealed after : SealedDatagrams) (report beyond : DatagramReport) → rest ≡ event ∷ more
    → beyond.entries.items ≡ report.entries.items ++ reported ∷ []
    → (h : DatagramsHaveComeTo d events rest duel sealed report) → DatagramHappened h.now event reported next after
    → DatagramsHaveComeTo d events more next after beyond
one-more d events rest more event reported duel next sealed after report beyond is pushed h t =
    let note : Role × DatagramNote = (reported.0, datagram_note_of reported.1) in
    let notes_now = datagram_notes_of report.entries.items in
    let reported_more : datagram_notes_of beyond.entries.items ≡ notes_now ++ note ∷ [] = search (rules, map-append) in
    record {
      now = t.next;
      goes_on = λ notes last run.
          subst (λ (ns : List (Role × DatagramNote)). DatagramRun d events ns last)
          (sym (ap (λ (ns : List (Role × DatagramNote)). ns ++ notes) reported_more ∙ append_assoc notes_now (note ∷ []) notes))
          (h.goes_on (note ∷ notes) last
          (subst (λ (es : List DatagramEvent). DatagramRun h.now es (note ∷ notes) last) (sym is)
          (begins h.now t.next last event more note notes t.happens run)));
      matches = t.matches;
      sealed_match = t.sealed_match;
    }

pub all-come : (d : DatagramSides) (events rest : List DatagramEvent) (duel : DatagramDuelValue) (sealed : SealedDatagrams) (report : DatagramReport)
    → rest ≡ [] → DatagramsHaveComeTo d events rest duel sealed report → DatagramReports d events duel report
all-come d events rest duel sealed report is h = record {
  last = h.now;
  run = subst (λ (ns : List (Role × DatagramNote)). DatagramRun d events ns h.now) (append-nil (datagram_notes_of report.entries.items))
      (h.goes_on [] h.now (subst (λ (es : List DatagramEvent). DatagramRun h.now es [] h.now) (sym is) (ends h.now)));
  matches = h.matches;
}
