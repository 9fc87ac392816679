-- Right files that begin with the lines that are read, and what other right files have after those.
use Rattle.std.proofs.Common.{rules, arith, ◌≡◌, ◌∙◌, ◌<◌, ap, refl, true, false, Bool, ℕ, List, ◌++◌, codes, length, Vec, []}
use Rattle.std.specs.Prelude.{decimal}
use Rattle.std.specs.Global.{Global}
use Rattle.noise_vectors.proofs.Common.{All, Event, TableEntry, Role, Initiator, Responder, hex_of, answer_lines, event_lines, psk_lines, expected_of, AreKeys, IsAllowed, IsAllowedFile, IsEntry, IsEvent, IsVectorFile, IsVersion, AfterEvents, answer_words, event_words, header_words, is_second, line_then, lines_of, party_text, psk_words, file_text, version_text, IsKey, lacks, is_answer_line, is_psk_line, up_to_events, up_to_initiator, up_to_responder, FileKeys, Xor, AllowedEvents, VectorFile, Version}
use Rattle.noise_vectors.specs.declared.file_keys.FileKeys.TheVariants.{Table}
use Rattle.noise_vectors.proofs.AdditionLemmas.{after_events-no_answer, event-stands, version-after}
use Rattle.noise_vectors.proofs.EventLemmas.{IsRight, all-right, right-plain}
use Rattle.noise_vectors.proofs.FrontLemmas.{up_to_version}
use Rattle.noise_vectors.proofs.PartLemmas.{goes-on, lines-over}
use Rattle.noise_vectors.proofs.PartyLemmas.{after_of, answer-stands, begins, lacks-answer_words, no-answer, words_of}
use Rattle.noise_vectors.proofs.ReadingLemmas.{interval-plain, prologue-plain, psk-plain, psk-stands}
use Rattle.noise_vectors.proofs.ReportedFiles.{after-block}
use Rattle.noise_vectors.proofs.UniqueWords.{parted-one}
use Rattle.noise_vectors.proofs.VectorLemmas.{after_initiator, after_interval, after_prologue, after_psks, after_responder, events-no_answer, initiator-no_psk, psks-end, responder-ends, responder-no_answer}
use Rattle.noise_vectors.proofs.UniqueTexts.{first-apart, party-one, party-parts}
use Rattle.noise_keys.specs.Table as Tables

-- ---- what another right file has

-- after the lines up to the psks' last one
after-interval : (file other : VectorFile) (rest : List ℕ) → IsVectorFile file → IsVectorFile other → file_text other ≡ up_to_initiator file rest
    → after_interval other ≡ lines_of psk_words file.psks.items rest
after-interval file other rest h k e =
    let psks = lines_of psk_words file.psks.items rest in
    let here = codes "prologue " ++ hex_of file.prologue.items in
    let there = codes "interval " ++ decimal file.interval in
    let after = after-block (is_second file.version) file.protocol file.block other (line_then here (line_then there psks)) k h.protocol h.own e in
    let parts = parted-one 10 (codes "prologue " ++ hex_of other.prologue.items) here (after_prologue other) (line_then there psks)
    (prologue-plain other.prologue.items k.prologue) (prologue-plain file.prologue.items h.prologue) after in
    (parted-one 10 (codes "interval " ++ decimal other.interval) there (after_interval other) psks
    (interval-plain other.interval k.interval) (interval-plain file.interval h.interval) parts.1).1

pub at-initiator : (file other : VectorFile) (rest : List ℕ) → IsVectorFile file → IsVectorFile other → is_psk_line rest ≡ false
    → file_text other ≡ up_to_initiator file rest → after_psks other ≡ rest
at-initiator file other rest h k over e =
    lines-over psk_lines psk-plain psk-stands other.psks.items file.psks.items (after_psks other) rest k.psks.1 h.psks.1 (psks-end other) over
    (after-interval file other rest h k e)

-- a psk more is among the other file's
pub psk-more : (file other : VectorFile) (reported rest : List ℕ) → IsVectorFile file → IsVectorFile other → lacks 10 reported ≡ true
    → ¬ (is_psk_line (line_then reported rest) ≡ false) → file_text other ≡ up_to_initiator file (line_then reported rest)
    → (psk : List ℕ) × IsKey psk × (reported ≡ psk_words psk) × (length file.psks.items < length other.psks.items)
psk-more file other reported rest h k plain bad e =
    goes-on psk_lines psk-plain psk-stands file.psks.items other.psks.items reported rest (after_psks other) h.psks.1 k.psks.1 plain (psks-end other) bad
    (after-interval file other (line_then reported rest) h k e)

-- after a party's lines
pub party-goes : (role : Role) (a b : FileKeys) (u v : List ℕ) → AreKeys a → AreKeys b → begins u ≡ false → is_answer_line b v ≡ false
    → party_text role a u ≡ party_text role b v → u ≡ v
party-goes role a b u v h k hu hv e =
    (party-one role a b u v h k (no-answer a u hu) hv e).1

keys-more : (a : FileKeys) (table : Tables.Table) (u reported rest : List ℕ) → AreKeys a → AreKeys (Table table) → begins u ≡ false → lacks 10 reported ≡ true
    → ¬ (begins (line_then reported rest) ≡ false) → words_of a ≡ words_of (Table table) → after_of a u ≡ after_of (Table table) (line_then reported rest)
    → (entry : TableEntry) × IsEntry entry × (reported ≡ answer_words entry) × (length table.entries < 8)
keys-more (Xor a) table u reported rest h k hu plain bad e after = absurd (first-apart (words_of (Xor a)) (words_of (Table table)) e refl)
keys-more (Table a) table u reported rest h k hu plain bad e after =
    let found = goes-on answer_lines lacks-answer_words answer-stands table.entries a.entries reported rest u k.3 h.3 plain hu bad after in
    let few = h.2 in
    (found.0, found.1, found.2, omega (arith, found.3, few))

-- an answer more is among the other party's
pub party-more : (role : Role) (a : FileKeys) (table : Tables.Table) (u reported rest : List ℕ) → AreKeys a → AreKeys (Table table) → begins u ≡ false
    → lacks 10 reported ≡ true → ¬ (begins (line_then reported rest) ≡ false) → party_text role a u ≡ party_text role (Table table) (line_then reported rest)
    → (entry : TableEntry) × IsEntry entry × (reported ≡ answer_words entry) × (length table.entries < 8)
party-more role a table u reported rest h k hu plain bad e =
    let parts = party-parts role a (Table table) u (line_then reported rest) h k e in
    keys-more a table u reported rest h k hu plain bad parts.0 parts.1

-- the initiator's lines, with whatever follows them
pub after-psks : (file other : VectorFile) (rest : List ℕ) → IsVectorFile file → IsVectorFile other → file_text other ≡ up_to_responder file rest
    → after_psks other ≡ party_text Initiator file.initiator rest
after-psks file other rest h k e = search (at-initiator, initiator-no_psk)

pub at-responder : (file other : VectorFile) (rest : List ℕ) → IsVectorFile file → IsVectorFile other → is_answer_line file.initiator rest ≡ false
    → file_text other ≡ up_to_responder file rest → after_initiator other ≡ rest
at-responder file other rest h k over e = search (rules, party-goes, after-psks)

pub after-initiator : (file other : VectorFile) (rest : List ℕ) → IsVectorFile file → IsVectorFile other → file_text other ≡ up_to_events file rest
    → after_initiator other ≡ party_text Responder file.responder rest
after-initiator file other rest h k e = search (at-responder, no-answer, responder-no_answer)

pub at-events : (file other : VectorFile) (rest : List ℕ) → IsVectorFile file → IsVectorFile other → is_answer_line file.responder rest ≡ false
    → file_text other ≡ up_to_events file rest → after_responder other ≡ rest
at-events file other rest h k over e = search (rules, party-goes, responder-ends, after-initiator)

-- the events' lines begin otherwise than an answer
events-other : (keys : FileKeys) (events : List Event) (rest : List ℕ) → is_answer_line keys rest ≡ false
    → is_answer_line keys (lines_of event_words events rest) ≡ false
events-other (Xor keys) events rest h = refl
events-other (Table keys) events rest h = events-no_answer events rest h

-- nor does what follows them
pub after-no_answer : (keys : FileKeys) (rest : List ℕ) → AfterEvents rest → is_answer_line keys rest ≡ false
after-no_answer keys rest h = no-answer keys rest (after_events-no_answer rest h)

-- after the events
pub at-version : (allowed : AllowedEvents) (file other : VectorFile) (rest : List ℕ) → IsVectorFile file → IsVectorFile other
    → IsAllowedFile allowed file → IsAllowedFile allowed other → AfterEvents rest → file_text other ≡ up_to_version file rest → version_text other.version ≡ rest
at-version allowed file other rest h k allow also over e =
    let events = at-events file other (lines_of event_words file.events.items rest) h k
    (events-other file.responder file.events.items rest (after-no_answer file.responder rest over)) e in
    lines-over (event_lines allowed) (right-plain allowed) event-stands other.events.items file.events.items (version_text other.version) rest
    (all-right allowed other.events.items k.events also.0) (all-right allowed file.events.items h.events allow.0) (version-after other.version) over events

-- an event more is among the other file's
pub event-more : (allowed : AllowedEvents) (file other : VectorFile) (reported rest : List ℕ) → IsVectorFile file → IsVectorFile other
    → IsAllowedFile allowed file → IsAllowedFile allowed other → is_answer_line file.responder (lines_of event_words file.events.items (line_then reported rest)) ≡ false
    → lacks 10 reported ≡ true → ¬ AfterEvents (line_then reported rest) → file_text other ≡ up_to_version file (line_then reported rest)
    → (event : Event) × IsRight allowed event × (reported ≡ event_words event)
event-more allowed file other reported rest h k allow also none plain bad e =
    let found = goes-on (event_lines allowed) (right-plain allowed) event-stands file.events.items other.events.items reported rest (version_text other.version)
    (all-right allowed file.events.items h.events allow.0) (all-right allowed other.events.items k.events also.0) plain (version-after other.version) bad
    (at-events file other (lines_of event_words file.events.items (line_then reported rest)) h k none e) in
    (found.0, found.1, found.2)

-- the header of both is one
pub same-header : (file other : VectorFile) (rest : List ℕ) → file_text other ≡ line_then (header_words (is_second file.version)) rest
    → is_second other.version ≡ is_second file.version
same-header file other rest e = search rules

-- ---- right files that begin with the lines that are read

-- one with nothing after those, of the header's version
pub record BegunAt (allowed : AllowedEvents) (second : Bool) (text left : List ℕ) (up_to : VectorFile → List ℕ → List ℕ) : Type 0 where
  pub file : VectorFile
  pub is_file : IsVectorFile file
  pub is_allowed : IsAllowedFile allowed file
  pub which : is_second file.version ≡ second
  pub bare : version_text file.version ≡ []
  pub quiet : expected_of file.version ≡ []
  pub text_is : text ≡ up_to file left

abbrev pub with_initiator : VectorFile → FileKeys → VectorFile
with_initiator file keys = record file { initiator = keys }

abbrev pub with_responder : VectorFile → FileKeys → VectorFile
with_responder file keys = record file { responder = keys }

abbrev pub with_events : VectorFile → Vec Event Global → VectorFile
with_events file events = record file { events = events }

-- a right file with other keys, events and additions
pub changed-right : (file : VectorFile) (initiator responder : FileKeys) (events : Vec Event Global) (version : Version) → IsVectorFile file
    → AreKeys initiator → AreKeys responder → All IsEvent events.items → IsVersion version
    → IsVectorFile (record file { initiator = initiator; responder = responder; events = events; version = version })
changed-right file initiator responder events version h i r e v = search

pub initiator-right : (file : VectorFile) (keys : FileKeys) → IsVectorFile file → AreKeys keys → IsVectorFile (with_initiator file keys)
initiator-right file keys h k = changed-right file keys file.responder file.events file.version h k h.responder h.events h.version

pub responder-right : (file : VectorFile) (keys : FileKeys) → IsVectorFile file → AreKeys keys → IsVectorFile (with_responder file keys)
responder-right file keys h k = changed-right file file.initiator keys file.events file.version h h.initiator k h.events h.version

pub events-right : (file : VectorFile) (events : Vec Event Global) → IsVectorFile file → All IsEvent events.items → IsVectorFile (with_events file events)
events-right file events h k = changed-right file file.initiator file.responder events file.version h h.initiator h.responder k h.version

-- the initiator's lines are read
abbrev pub past-initiator : {allowed : AllowedEvents} {second : Bool} {text from : List ℕ} (left : List ℕ) (keys : FileKeys)
    → BegunAt allowed second text from up_to_initiator → AreKeys keys → from ≡ party_text Initiator keys left → BegunAt allowed second text left up_to_responder
past-initiator left keys b h e = record {
  file = with_initiator b.file keys;
  is_file = initiator-right b.file keys b.is_file h;
  is_allowed = b.is_allowed;
  which = b.which;
  bare = b.bare;
  quiet = b.quiet;
  text_is = b.text_is ∙ ap (λ (t : List ℕ). up_to_initiator b.file t) e;
}

-- the responder's
abbrev pub past-responder : {allowed : AllowedEvents} {second : Bool} {text from : List ℕ} (left : List ℕ) (keys : FileKeys)
    → BegunAt allowed second text from up_to_responder → AreKeys keys → from ≡ party_text Responder keys left → BegunAt allowed second text left up_to_events
past-responder left keys b h e = record {
  file = with_responder b.file keys;
  is_file = responder-right b.file keys b.is_file h;
  is_allowed = b.is_allowed;
  which = b.which;
  bare = b.bare;
  quiet = b.quiet;
  text_is = b.text_is ∙ ap (λ (t : List ℕ). up_to_responder b.file t) e;
}

-- the events'
pub past-events : {allowed : AllowedEvents} {second : Bool} {text from : List ℕ} (left : List ℕ) (events : Vec Event Global)
    → BegunAt allowed second text from up_to_events → All IsEvent events.items → All (IsAllowed allowed) events.items
    → from ≡ lines_of event_words events.items left → BegunAt allowed second text left up_to_version
past-events left events b h k e = record {
  file = with_events b.file events;
  is_file = events-right b.file events b.is_file h;
  is_allowed = (k, b.is_allowed.1);
  which = b.which;
  bare = b.bare;
  quiet = b.quiet;
  text_is = b.text_is ∙ ap (λ (t : List ℕ). up_to_events b.file t) e;
}
