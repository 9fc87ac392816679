-- The lines of the psks, the parties and the events: right files that begin with those before the one that is reported, and that none goes on with it.
use Rattle.std.proofs.Common.{rules, arith, ◌≡◌, ◌∙◌, ◌+◌, ◌<◌, ◌≤◌, ◌^◌, inl, inr, ap, sym, refl, false, true≢false, Bool, ℕ, List, ◌∷◌, ◌++◌, codes, Option, Vec, vec_len, []}
use Rattle.std.specs.Prelude.{decimal}
use Rattle.std.specs.Global.{Global}
use Rattle.noise_vectors.proofs.Common.{All, append_cancel_left, append-nil, All-nil, Event, Say, Role, Initiator, Responder, IsSection, Section, name_bytes, Plan, hex_of, ReportsAfter, ReportsParty, event_lines, psk_lines, line_feeds, IsFirstLine, IsReported, is_answer_line, is_psk_line, up_to_end, up_to_events, up_to_initiator, up_to_interval, up_to_responder, ArePsks, IsAllowed, IsEvent, IsOwn, IsShort, AfterEvents, block_text, event_words, header_words, is_second, line_then, lines_of, party_text, psk_words, file_text, version_text, VectorFault, Line, Memory, FileKeys, Xor, AllowedEvents, VersionOne, VectorFile, true_from_ne_false}
use Rattle.noise_vectors.specs.declared.file_keys.FileKeys.TheVariants.{Table}
use Rattle.noise_vectors.proofs.BegunFiles.{BegunAt, after-initiator, after-psks, at-initiator, at-responder, event-more, events-right, initiator-right, party-more, psk-more, responder-right, with_events, with_initiator, with_responder}
use Rattle.noise_vectors.proofs.EventLemmas.{IsRight}
use Rattle.noise_vectors.proofs.FrontLemmas.{IsFront, cut-before, cut-within, ended-initiator, ended-responder, front-both, front-end, front-events, front-initiator, front-interval, front-line, front-lines, front-party, front-responder, front-version, reported-line, up_to_version}
use Rattle.noise_vectors.proofs.BlockLemmas.{no-line}
use Rattle.noise_vectors.proofs.ReportedFiles.{sample, sample-allowed, sample-right, reported-of, vec_of, version_of-bare, version_of-quiet, version_of-second, next-number}
use Rattle.noise_vectors.proofs.ReportedLemmas.{other-begun, same-begun}
use Rattle.noise_vectors.proofs.VectorLemmas.{after_initiator, after_psks, after_responder, initiator-ends, responder-ends}
use Rattle.noise_vectors.specs.declared.faults.LineKind.TheVariants as kinds

-- ---- the psks

-- the lines of a sample as far as its interval
sample-text : (second : Bool) (file : VectorFile) (text from : List ℕ) → is_second file.version ≡ second
    → text ≡ line_then (header_words second) (line_then (codes "protocol " ++ name_bytes file.protocol)
    (block_text file.block (line_then (codes "prologue " ++ hex_of file.prologue.items) (line_then (codes "interval " ++ decimal file.interval) from))))
    → text ≡ up_to_interval file (line_then (codes "interval " ++ decimal file.interval) from)
sample-text second file text from same e = search

pub psk-reported : (alloc : Global) (allowed : AllowedEvents) (text from : List ℕ) (second : Bool) (name : Section) (block : Option Plan)
    (prologue : Vec ℕ Global) (short : vec_len prologue ≤ 65535) (interval total : ℕ) (fault : VectorFault)
    → text ≡ line_then (header_words second) (line_then (codes "protocol " ++ name_bytes name)
    (block_text block (line_then (codes "prologue " ++ hex_of prologue.items) (line_then (codes "interval " ++ decimal interval) from))))
    → (allowed ≡ VersionOne → second ≡ false) → IsSection name → IsOwn name block → IsShort prologue.items → interval < 2 ^ 64
    → total ≡ line_feeds text → ReportsAfter psk_lines from total fault → IsReported allowed text fault
psk-reported alloc allowed text from second name block prologue short interval total fault e one h own few small all (inl is) = search reported-of
psk-reported alloc allowed text from second name block prologue short interval total fault e one h own few small all (inr (inl (is, cut))) =
    let file = sample alloc second name block prologue short interval cut.done in
    let there = codes "interval " ++ decimal interval in
    reported-of allowed text fault (Line (total + 1) kinds.Ending) is (inl (cut-within allowed text from (total + 1) file
    (λ rest. up_to_interval file (line_then there rest)) (lines_of psk_words cut.done) (after_psks file)
    (sample-right alloc second name block prologue short interval cut.done h own few small (cut.few, cut.are))
    (sample-allowed alloc allowed second name block prologue short interval cut.done one)
    (front-both (up_to_interval file) (line_then there) (front-interval file) (front-line there)) (front-lines psk_words cut.done)
    (sample-text second file text from (version_of-second alloc second) e) cut.text_is refl (next-number text total all)))
psk-reported alloc allowed text from second name block prologue short interval total fault e one h own few small all (inr (inr w)) =
    let file = sample alloc second name block prologue short interval w.done in
    let there = codes "interval " ++ decimal interval in
    let right = sample-right alloc second name block prologue short interval w.done h own few small (w.few, w.are) in
    reported-of allowed text fault (Line w.it.number kinds.Psk) w.it.fault_is (
      reported-line allowed text w.left total kinds.Psk fault up_to_initiator file (after_psks file) right
          (sample-allowed alloc allowed second name block prologue short interval w.done one) (front-initiator file) refl
          (sample-text second file text from (version_of-second alloc second) e ∙ ap (λ (t : List ℕ). up_to_interval file (line_then there t)) w.text_is) all w.it
          (λ other rest k allow same.
          let found = psk-more file other w.it.reported rest right k w.it.is_first.0
          (λ bad. w.stands (sym (other-begun w.it.reported w.left rest (codes "psk ") w.it.is_first refl) ∙ bad)) same in
          let full = w.full found.0 found.1 found.2 in
          let most = k.psks.0 in
          let less = found.3 in
          absurd (omega (arith, full, most, less))),
      true_from_ne_false (is_psk_line w.it.reported) (λ bad. w.stands (same-begun w.it.reported w.left (codes "psk ") w.it.is_first refl ∙ bad)),
    )

-- the lines up to the psks' last one are right
pub past-psks : (alloc : Global) (allowed : AllowedEvents) (text left : List ℕ) (second : Bool) (name : Section) (block : Option Plan)
    (prologue : Vec ℕ Global) (short : vec_len prologue ≤ 65535) (interval : ℕ) (psks : List (List ℕ))
    → text ≡ line_then (header_words second) (line_then (codes "protocol " ++ name_bytes name)
    (block_text block (line_then (codes "prologue " ++ hex_of prologue.items) (line_then (codes "interval " ++ decimal interval) (lines_of psk_words psks left)))))
    → (allowed ≡ VersionOne → second ≡ false) → IsSection name → IsOwn name block → IsShort prologue.items → interval < 2 ^ 64 → ArePsks psks
    → BegunAt allowed second text left up_to_initiator
past-psks alloc allowed text left second name block prologue short interval psks e one h own few small are =
    let file = sample alloc second name block prologue short interval psks in
    record {
      file = file;
      is_file = sample-right alloc second name block prologue short interval psks h own few small are;
      is_allowed = sample-allowed alloc allowed second name block prologue short interval psks one;
      which = version_of-second alloc second;
      bare = version_of-bare alloc second;
      quiet = version_of-quiet alloc second;
      text_is = sample-text second file text (lines_of psk_words psks left) (version_of-second alloc second) e;
    }

-- ---- the parties

party-some : (role : Role) (keys : FileKeys) (rest : List ℕ) → (next : ℕ) × (more : List ℕ) × (party_text role keys rest ≡ next ∷ more)
party-some Initiator (Xor keys) rest = (105, _, refl)
party-some Initiator (Table keys) rest = (105, _, refl)
party-some Responder (Xor keys) rest = (114, _, refl)
party-some Responder (Table keys) rest = (114, _, refl)

pub initiator-reported : (allowed : AllowedEvents) (second : Bool) (text from : List ℕ) (total : ℕ) (fault : VectorFault)
    → BegunAt allowed second text from up_to_initiator → is_psk_line from ≡ false → total ≡ line_feeds text
    → ReportsParty Initiator from total fault → IsReported allowed text fault
initiator-reported allowed second text from total fault b over all (inl is) = reported-of allowed text fault Memory is tt
initiator-reported allowed second text from total fault b over all (inr (inl (is, inl none))) =
    let next = party-some Initiator b.file.initiator (after_initiator b.file) in
    reported-of allowed text fault (Line (total + 1) kinds.Ending) is (inl (cut-before allowed text from (total + 1) b.file (up_to_initiator b.file)
    next.0 next.1 b.is_file b.is_allowed (front-initiator b.file) b.text_is none (ap (λ (t : List ℕ). up_to_initiator b.file t) next.2)
    (ended-initiator b.file [] (inl refl)) (next-number text total all)))
initiator-reported allowed second text from total fault b over all (inr (inl (is, inr (keys, h, last)))) =
    let file = with_initiator b.file keys in
    reported-of allowed text fault (Line (total + 1) kinds.Ending) is (inl (cut-within allowed text from (total + 1) file (up_to_initiator file)
    (party_text Initiator keys) (after_initiator file) (initiator-right b.file keys b.is_file h) b.is_allowed (front-initiator file)
    (front-party Initiator keys) b.text_is last refl (next-number text total all)))
initiator-reported allowed second text from total fault b over all (inr (inr (inl (it, bad)))) =
    reported-of allowed text fault (Line it.number kinds.Keys) it.fault_is (inl (
      reported-line allowed text from total kinds.Keys fault up_to_initiator b.file (after_psks b.file) b.is_file b.is_allowed (front-initiator b.file) refl
          b.text_is all it
          (λ other rest k allow same.
          let after = at-initiator b.file other (line_then it.reported rest) b.is_file k
          (other-begun it.reported from rest (codes "psk ") it.is_first refl ∙ over) same in
          bad other.initiator (after_initiator other) rest k.initiator (sym after)),
      sym (same-begun it.reported from (codes "psk ") it.is_first refl) ∙ over,
    ))
initiator-reported allowed second text from total fault b over all (inr (inr (inr w))) =
    let file = with_initiator b.file (Table w.table) in
    let right = initiator-right b.file (Table w.table) b.is_file w.are in
    reported-of allowed text fault (Line w.it.number kinds.Answer) w.it.fault_is (inl (
      reported-line allowed text w.left total kinds.Answer fault up_to_responder file (after_initiator file) right b.is_allowed (front-responder file) refl
          (b.text_is ∙ ap (λ (t : List ℕ). up_to_initiator b.file t) w.text_is) all w.it
          (λ other rest k allow same.
          let found = party-more Initiator other.initiator w.table (after_initiator other) w.it.reported rest k.initiator w.are (initiator-ends other) w.it.is_first.0
          (λ no. true≢false (sym w.begun ∙ sym (other-begun w.it.reported w.left rest (codes "answer ") w.it.is_first refl) ∙ no))
          (after-psks file other (line_then w.it.reported rest) right k same) in
          let full = w.full found.0 found.1 found.2 in
          let less = found.3 in
          absurd (omega (arith, full, less))),
      sym (same-begun w.it.reported w.left (codes "answer ") w.it.is_first refl) ∙ w.begun,
    ))

-- a line begins as an answer where the text does
pub answer-begun : (keys : FileKeys) (words text : List ℕ) → IsFirstLine words text → is_answer_line keys text ≡ false → is_answer_line keys words ≡ false
answer-begun (Xor keys) words text first h = refl
answer-begun (Table keys) words text first h = sym (same-begun words text (codes "answer ") first refl) ∙ h

answer-other : (keys : FileKeys) (words text rest : List ℕ) → IsFirstLine words text → is_answer_line keys text ≡ false
    → is_answer_line keys (line_then words rest) ≡ false
answer-other (Xor keys) words text rest first h = refl
answer-other (Table keys) words text rest first h = other-begun words text rest (codes "answer ") first refl ∙ h

pub responder-reported : (allowed : AllowedEvents) (second : Bool) (text from : List ℕ) (total : ℕ) (fault : VectorFault)
    → (b : BegunAt allowed second text from up_to_responder) → is_answer_line b.file.initiator from ≡ false
    → total ≡ line_feeds text → ReportsParty Responder from total fault → IsReported allowed text fault
responder-reported allowed second text from total fault b over all (inl is) = reported-of allowed text fault Memory is tt
responder-reported allowed second text from total fault b over all (inr (inl (is, inl none))) =
    let next = party-some Responder b.file.responder (after_responder b.file) in
    reported-of allowed text fault (Line (total + 1) kinds.Ending) is (inl (cut-before allowed text from (total + 1) b.file (up_to_responder b.file)
    next.0 next.1 b.is_file b.is_allowed (front-responder b.file) b.text_is none (ap (λ (t : List ℕ). up_to_responder b.file t) next.2)
    (ended-responder b.file [] (inl refl)) (next-number text total all)))
responder-reported allowed second text from total fault b over all (inr (inl (is, inr (keys, h, last)))) =
    let file = with_responder b.file keys in
    reported-of allowed text fault (Line (total + 1) kinds.Ending) is (inl (cut-within allowed text from (total + 1) file (up_to_responder file)
    (party_text Responder keys) (after_responder file) (responder-right b.file keys b.is_file h) b.is_allowed (front-responder file)
    (front-party Responder keys) b.text_is last refl (next-number text total all)))
responder-reported allowed second text from total fault b over all (inr (inr (inl (it, bad)))) =
    reported-of allowed text fault (Line it.number kinds.Keys) it.fault_is (inr (
      reported-line allowed text from total kinds.Keys fault up_to_responder b.file (after_initiator b.file) b.is_file b.is_allowed (front-responder b.file) refl
          b.text_is all it
          (λ other rest k allow same.
          let after = at-responder b.file other (line_then it.reported rest) b.is_file k
          (answer-other b.file.initiator it.reported from rest it.is_first over) same in
          bad other.responder (after_responder other) rest k.responder (sym after)),
      answer-begun b.file.initiator it.reported from it.is_first over,
    ))
responder-reported allowed second text from total fault b over all (inr (inr (inr w))) =
    let file = with_responder b.file (Table w.table) in
    let right = responder-right b.file (Table w.table) b.is_file w.are in
    reported-of allowed text fault (Line w.it.number kinds.Answer) w.it.fault_is (inr (
      reported-line allowed text w.left total kinds.Answer fault up_to_events file (after_responder file) right b.is_allowed (front-events file) refl
          (b.text_is ∙ ap (λ (t : List ℕ). up_to_responder b.file t) w.text_is) all w.it
          (λ other rest k allow same.
          let found = party-more Responder other.responder w.table (after_responder other) w.it.reported rest k.responder w.are (responder-ends other) w.it.is_first.0
          (λ no. true≢false (sym w.begun ∙ sym (other-begun w.it.reported w.left rest (codes "answer ") w.it.is_first refl) ∙ no))
          (after-initiator file other (line_then w.it.reported rest) right k same) in
          let full = w.full found.0 found.1 found.2 in
          let less = found.3 in
          absurd (omega (arith, full, less))),
      sym (same-begun w.it.reported w.left (codes "answer ") w.it.is_first refl) ∙ w.begun,
    ))

-- ---- the events

-- what is read stands where the file goes on
pub end-text : (file : VectorFile) (rest : List ℕ) → version_text file.version ≡ [] → up_to_version file rest ≡ up_to_end file rest
end-text file rest bare =
    front-version file rest ∙ ap (λ (t : List ℕ). up_to_version file t ++ rest) (sym bare)

-- nothing but itself begins as a text and ends there
pub front-alone : (front : List ℕ → List ℕ) (rest : List ℕ) → IsFront front → front rest ≡ front [] → rest ≡ []
front-alone front rest h e = append_cancel_left (front []) rest [] (sym (h rest) ∙ e ∙ sym (append-nil (front [])))

-- after the events no answer is reported
events-no_answer : (keys : FileKeys) (events : List Event) (reported left rest : List ℕ) → is_answer_line keys (lines_of event_words events left) ≡ false
    → IsFirstLine reported left → lines_of event_words events rest ≡ [] → is_answer_line keys reported ≡ false
events-no_answer keys [] reported left rest h first e = answer-begun keys reported left first h
events-no_answer keys (x ∷ xs) reported left rest h first e = absurd (no-line (event_words x) (lines_of event_words xs rest) (sym e))

lines-no_answer : (keys : FileKeys) (events : List Event) (reported left rest : List ℕ) → is_answer_line keys (lines_of event_words events left) ≡ false
    → IsFirstLine reported left → is_answer_line keys (lines_of event_words events (line_then reported rest)) ≡ false
lines-no_answer (Xor keys) events reported left rest h first = refl
lines-no_answer (Table keys) [] reported left rest h first = answer-other (Table keys) reported left rest first h
lines-no_answer (Table keys) (Say role payload cuts ∷ xs) reported left rest h first = refl
lines-no_answer (Table keys) (_ ∷ xs) reported left rest h first = refl

pub not-after : (reported left rest : List ℕ) → IsFirstLine reported left → ¬ AfterEvents left → ¬ AfterEvents (line_then reported rest)
not-after reported left rest first bad (inl none) = no-line reported rest (sym none)
not-after reported left rest first bad (inr (inl begun)) = bad (inr (inl (sym (other-begun reported left rest (codes "datagrams ") first refl) ∙ begun)))
not-after reported left rest first bad (inr (inr begun)) = bad (inr (inr (sym (other-begun reported left rest (codes "expect ") first refl) ∙ begun)))

rights : (allowed : AllowedEvents) (events : List Event) → All (IsRight allowed) events → All IsEvent events × All (IsAllowed allowed) events
rights allowed [] h = (All-nil IsEvent, All-nil (IsAllowed allowed))
rights allowed (x ∷ xs) h = search rules

pub events-reported : (alloc : Global) (allowed : AllowedEvents) (second : Bool) (text from : List ℕ) (total : ℕ) (fault : VectorFault)
    → (b : BegunAt allowed second text from up_to_events) → is_answer_line b.file.responder from ≡ false → total ≡ line_feeds text
    → ReportsAfter (event_lines allowed) from total fault → IsReported allowed text fault
events-reported alloc allowed second text from total fault b over all (inl is) = reported-of allowed text fault Memory is tt
events-reported alloc allowed second text from total fault b over all (inr (inl (is, cut))) =
    let file = with_events b.file (vec_of alloc cut.done cut.few) in
    let are = rights allowed cut.done cut.are in
    reported-of allowed text fault (Line (total + 1) kinds.Ending) is (inl (cut-within allowed text from (total + 1) file (up_to_events file)
    (lines_of event_words cut.done) (version_text file.version) (events-right b.file (vec_of alloc cut.done cut.few) b.is_file are.0)
    (are.1, b.is_allowed.1) (front-events file) (front-lines event_words cut.done) b.text_is cut.text_is refl (next-number text total all)))
events-reported alloc allowed second text from total fault b over all (inr (inr w)) =
    let file = with_events b.file (vec_of alloc w.done w.few) in
    let are = rights allowed w.done w.are in
    let right = events-right b.file (vec_of alloc w.done w.few) b.is_file are.0 in
    let none : is_answer_line file.responder (lines_of event_words w.done w.left) ≡ false =
    ap (is_answer_line file.responder) (sym w.text_is) ∙ over in
    reported-of allowed text fault (Line w.it.number kinds.Event) w.it.fault_is (record {
      it = reported-line allowed text w.left total kinds.Event fault up_to_end file [] right (are.1, b.is_allowed.1) (front-end file) (sym (append-nil (file_text file)))
          (b.text_is ∙ ap (λ (t : List ℕ). up_to_events b.file t) w.text_is ∙ end-text file w.left b.bare) all w.it
          (λ other rest k allow same.
          let found = event-more allowed file other w.it.reported rest right k (are.1, b.is_allowed.1) allow
          (lines-no_answer file.responder w.done w.it.reported w.left rest none w.it.is_first) w.it.is_first.0
          (not-after w.it.reported w.left rest w.it.is_first w.stands) (same ∙ sym (end-text file (line_then w.it.reported rest) b.bare)) in
          w.full found.0 found.1 found.2);
      none_expected = b.quiet;
      no_answer = λ e. events-no_answer file.responder w.done w.it.reported w.left (version_text file.version) none w.it.is_first
          (front-alone (up_to_events file) (lines_of event_words w.done (version_text file.version)) (front-events file) e);
    })
