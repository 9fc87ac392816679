-- The lines after the events: right files that begin with those before the one that is reported, and that none goes on with it.
use Rattle.std.proofs.Common.{rules, arith, ◌≡◌, ◌⊎◌, ◌∙◌, ◌+◌, ◌<◌, ◌^◌, inl, inr, ap, sym, refl, subst, lit<, false, true, true≢false, Bool, ℕ, List, ◌∷◌, ◌++◌, codes, length, Option, Some, None, Vec, []}
use Rattle.std.specs.Bool.{nat_eq}
use Rattle.std.specs.Global.{Global}
use Rattle.noise_vectors.proofs.Common.{IfSome, All, starts_with, append_assoc, append-nil, All-cons, All-head, All-nil, All-tail, DatagramEvent, Event, Window, bytes_of, IsCutDatagrams, IsWrongDatagram, IsWrongFirst, IsWrongWindow, ReportsAfter, ReportsDatagrams, ReportsExpected, ReportsVersion, datagram_lines, expect_kind, expect_lines, line_feeds, IsFirstLine, IsReported, IsReportedLine, up_to_end, up_to_events, IsAllowedFile, IsAllowedVersion, IsDatagramEvent, IsExpected, IsVectorFile, IsVersion, AfterDatagrams, AfterEvents, datagram_event_words, datagrams_text, event_words, expect_line, expect_words, header_words, is_second, line_then, lines_of, text_body, file_text, version_text, window_words, lacks, LineKind, VectorFault, Line, Memory, AllowedEvents, SayOnly, Any, VersionOne, FileDatagrams, VectorFile, Version, One, Two}
use Rattle.noise_vectors.specs.declared.vector.Additions.{Additions}
use Rattle.noise_vectors.proofs.AdditionLemmas.{datagram_event-stands, datagram_event_words-line, expected-after, no-datagrams, second-has, window_words-line}
use Rattle.noise_vectors.proofs.BegunFiles.{BegunAt, after-no_answer, at-version, same-header}
use Rattle.noise_vectors.proofs.FrontLemmas.{IsFront, cut-within, front-both, front-datagrams, front-end, front-events, front-line, front-lines, front-version, reported-line, up_to_version}
use Rattle.noise_vectors.proofs.HeldLemmas.{Good, good-plain, good-stands, partial-good, partial-lines}
use Rattle.noise_vectors.proofs.PartLemmas.{goes-on, lines-over}
use Rattle.noise_vectors.proofs.BlockLemmas.{no-line}
use Rattle.noise_vectors.proofs.ReportedFiles.{reported-of, vec_of, next-number}
use Rattle.noise_vectors.proofs.ReportedLater.{answer-begun, end-text, front-alone}
use Rattle.noise_vectors.proofs.ReportedLemmas.{other-begun}
use Rattle.noise_vectors.proofs.UniqueWords.{parted-one}
use Rattle.noise_vectors.specs.declared.faults.LineKind.TheVariants as kinds

-- ---- lines that are expected, as a file holds them

abbrev vecs_of : Global → (xs : List (List ℕ)) → All Good xs → List (Vec ℕ Global)
vecs_of alloc [] h = []
vecs_of alloc (x ∷ xs) h =
    vec_of alloc x ((All-head Good x xs h).1) ∷ vecs_of alloc xs (All-tail Good x xs h)

vecs_of-length : (alloc : Global) (xs : List (List ℕ)) (h : All Good xs) → length (vecs_of alloc xs h) ≡ length xs
vecs_of-length alloc [] h = refl
vecs_of-length alloc (x ∷ xs) h = search ((vecs_of-length alloc xs (All-tail Good x xs h)))

vecs_of-lines : (alloc : Global) (xs : List (List ℕ)) (h : All Good xs) (rest : List ℕ)
    → lines_of expect_words (vecs_of alloc xs h) rest ≡ lines_of expect_line xs rest
vecs_of-lines alloc [] h rest = refl
vecs_of-lines alloc (x ∷ xs) h rest = ap (line_then (expect_line x)) (vecs_of-lines alloc xs (All-tail Good x xs h) rest)

vecs_of-right : (alloc : Global) (xs : List (List ℕ)) (h : All Good xs) → All (λ (words : Vec ℕ Global). IsExpected words.items) (vecs_of alloc xs h)
vecs_of-right alloc [] h = All-nil (λ (words : Vec ℕ Global). IsExpected words.items)
vecs_of-right alloc (x ∷ xs) h =
    let good = All-head Good x xs h in
    All-cons (λ (words : Vec ℕ Global). IsExpected words.items) (vec_of alloc x good.1) (vecs_of alloc xs (All-tail Good x xs h)) good.0
    (vecs_of-right alloc xs (All-tail Good x xs h))

-- ---- files with these additions

abbrev with_version : VectorFile → Version → VectorFile
with_version file version = record file { version = version }

version-right : (file : VectorFile) (version : Version) → IsVectorFile file → IsVersion version → IsVectorFile (with_version file version)
version-right file version h k = search

two-allowed : (allowed : AllowedEvents) (a : Additions) → (allowed ≡ SayOnly → a.datagrams ≡ None) → ¬ (allowed ≡ VersionOne) → IsAllowedVersion allowed (Two a)
two-allowed SayOnly a h g = h refl
two-allowed Any a h g = tt
two-allowed VersionOne a h g = absurd (g refl)

-- the lines up to the events' last one are the same
version-text : (file : VectorFile) (a : Additions) (text left : List ℕ) → is_second file.version ≡ true → text ≡ up_to_version file left
    → text ≡ up_to_version (with_version file (Two a)) left
version-text file a text left second e = e ∙ ap (λ (s : Bool). line_then (header_words s) (text_body file left)) second

version-back : (file : VectorFile) (a : Additions) (text left : List ℕ) → is_second file.version ≡ true
    → text ≡ up_to_version (with_version file (Two a)) left → text ≡ up_to_version file left
version-back file a text left second e = e ∙ ap (λ (s : Bool). line_then (header_words s) (text_body file left)) (sym second)

-- of another right file that goes on there, what it has after the events
version-other : (allowed : AllowedEvents) (second : Bool) (text from : List ℕ) (b : BegunAt allowed second text from up_to_version) (other : VectorFile)
    (rest : List ℕ) → IsVectorFile other → IsAllowedFile allowed other → AfterEvents rest → file_text other ≡ up_to_version b.file rest
    → (version_text other.version ≡ rest) × (is_second other.version ≡ second)
version-other allowed second text from b other rest k allow over e = (
  at-version allowed b.file other rest b.is_file k b.is_allowed allow over e,
  same-header b.file other (text_body b.file rest) e ∙ b.which,
)

-- it is of version 2
second-other : (allowed : AllowedEvents) (text from : List ℕ) (b : BegunAt allowed true text from up_to_version) (other : VectorFile)
    (rest : List ℕ) → IsVectorFile other → IsAllowedFile allowed other → AfterEvents rest → file_text other ≡ up_to_version b.file rest
    → (a : Additions) × (other.version ≡ Two a) × (datagrams_text a.datagrams (lines_of expect_words a.expected.items []) ≡ rest)
second-other allowed text from b other rest k allow over e =
    let parts = version-other allowed true text from b other rest k allow over e in
    let (a, is) = second-has other.version parts.1 in
    (a, is, sym (ap version_text is) ∙ parts.0)

after-other : (reported left rest : List ℕ) → IsFirstLine reported left → ¬ (left ≡ []) → AfterEvents left → AfterEvents (line_then reported rest)
after-other reported left rest first some (inl none) = absurd (some none)
after-other reported left rest first some (inr (inl begun)) = inr (inl (other-begun reported left rest (codes "datagrams ") first refl ∙ begun))
after-other reported left rest first some (inr (inr begun)) = inr (inr (other-begun reported left rest (codes "expect ") first refl ∙ begun))

-- ---- a line that no additions begin with

-- reported after the events alone
event-at : (allowed : AllowedEvents) (second : Bool) (text from : List ℕ) (total : ℕ) (fault : VectorFault) (b : BegunAt allowed second text from up_to_version)
    → AfterEvents from → ¬ (from ≡ []) → total ≡ line_feeds text → (it : IsWrongFirst from total kinds.Event fault)
    → ((other : VectorFile) (rest : List ℕ) → IsVectorFile other → IsAllowedFile allowed other → ¬ (file_text other ≡ up_to_version b.file (line_then it.reported rest)))
    → IsReported allowed text fault
event-at allowed second text from total fault b over some all it wrong =
    reported-of allowed text fault (Line it.number kinds.Event) it.fault_is (record {
      it = reported-line allowed text from total kinds.Event fault up_to_end b.file [] b.is_file b.is_allowed (front-end b.file) (sym (append-nil (file_text b.file)))
          (b.text_is ∙ end-text b.file from b.bare) all it
          (λ other rest k allow same. wrong other rest k allow (same ∙ sym (end-text b.file (line_then it.reported rest) b.bare)));
      none_expected = b.quiet;
      no_answer = λ e. answer-begun b.file.responder it.reported from it.is_first (after-no_answer b.file.responder from over);
    })

-- no version 1 goes on
one-reported : (allowed : AllowedEvents) (text from : List ℕ) (total : ℕ) (fault : VectorFault) (b : BegunAt allowed false text from up_to_version)
    → AfterEvents from → ¬ (from ≡ []) → total ≡ line_feeds text → IsWrongFirst from total kinds.Event fault → IsReported allowed text fault
one-reported allowed text from total fault b over some all it =
    event-at allowed false text from total fault b over some all it
    (λ other rest k allow same.
    let parts = version-other allowed false text from b other (line_then it.reported rest) k allow (after-other it.reported from rest it.is_first some over) same in
    one-ends other.version it.reported rest parts.1 parts.0) where
      one-ends : (version : Version) (reported rest : List ℕ) → is_second version ≡ false → ¬ (version_text version ≡ line_then reported rest)
      one-ends One reported rest e same = no-line reported rest same
      one-ends (Two a) reported rest e same = true≢false e

some-begun : (front text : List ℕ) (b : ℕ) → starts_with nat_eq text (b ∷ front) ≡ true → ¬ (text ≡ [])
some-begun front text b h e = true≢false (sym h ∙ ap (λ (t : List ℕ). starts_with nat_eq t (b ∷ front)) e)

-- what is expected doesn't begin as the datagrams do
expected-begun : (vs : List (Vec ℕ Global)) → starts_with nat_eq (lines_of expect_words vs []) (codes "datagrams ") ≡ false
expected-begun [] = refl
expected-begun (v ∷ vs) = refl

window-wrong : (allowed : AllowedEvents) (over : Option FileDatagrams) (vs : List (Vec ℕ Global)) (reported rest : List ℕ) → lacks 10 reported ≡ true
    → starts_with nat_eq (line_then reported rest) (codes "datagrams ") ≡ true → (allowed ≡ SayOnly → over ≡ None)
    → ((window : Window) → reported ≡ window_words window → allowed ≡ SayOnly) → ¬ (datagrams_text over (lines_of expect_words vs []) ≡ line_then reported rest)
window-wrong allowed None vs reported rest plain begun without none e = search (rules, expected-begun)
window-wrong allowed (Some d) vs reported rest plain begun without none e =
    let parts = parted-one 10 (window_words d.window) reported (lines_of datagram_event_words d.events.items (lines_of expect_words vs [])) rest
    (window_words-line d.window) plain e in
    let bad = without (none d.window (sym parts.0)) in
    absurd (cc bad)

window-reported : (allowed : AllowedEvents) (text from : List ℕ) (total : ℕ) (fault : VectorFault) (b : BegunAt allowed true text from up_to_version)
    → AfterEvents from → total ≡ line_feeds text → IsWrongWindow allowed from total fault → IsReported allowed text fault
window-reported allowed text from total fault b over all w =
    let some = some-begun (codes "atagrams ") from 100 w.begun in
    event-at allowed true text from total fault b over some all w.it
    (λ other rest k allow same.
    let found = second-other allowed text from b other (line_then w.it.reported rest) k allow (after-other w.it.reported from rest w.it.is_first some over) same in
    window-wrong allowed found.0.datagrams found.0.expected.items w.it.reported rest w.it.is_first.0
    (other-begun w.it.reported from rest (codes "datagrams ") w.it.is_first refl ∙ w.begun)
    (no-datagrams allowed found.0 (subst (IsAllowedVersion allowed) found.1 allow.1)) w.none found.2)

-- ---- the datagrams

-- the file with these datagrams
abbrev over_of : (alloc : Global) → Window → (events : List DatagramEvent) → length events < 2 ^ 63 → FileDatagrams
over_of alloc window events small = record { window = window; events = vec_of alloc events small }

abbrev two_of : (alloc : Global) → Option FileDatagrams → (expected : List (List ℕ)) → All Good expected → length expected < 2 ^ 63 → Additions
two_of alloc over expected h small = record {
  datagrams = over;
  expected = vec_of alloc (vecs_of alloc expected h) (omega (arith, vecs_of-length alloc expected h, small));
}

-- lines of datagrams that go on otherwise than those of a file
datagram-wrong : (over : Option FileDatagrams) (vs : List (Vec ℕ Global)) (window : Window) (done : List DatagramEvent) (reported rest : List ℕ)
    → IfSome over (λ over. All IsDatagramEvent over.events.items) → All IsDatagramEvent done → lacks 10 reported ≡ true → ¬ AfterDatagrams (line_then reported rest)
    → ((x : DatagramEvent) → IsDatagramEvent x → ¬ (reported ≡ datagram_event_words x))
    → ¬ (datagrams_text over (lines_of expect_words vs []) ≡ line_then (window_words window) (lines_of datagram_event_words done (line_then reported rest)))
datagram-wrong None vs window done reported rest h k plain bad full e = search (rules, expected-begun)
datagram-wrong (Some d) vs window done reported rest h k plain bad full e =
    let parts = parted-one 10 (window_words d.window) (window_words window) (lines_of datagram_event_words d.events.items (lines_of expect_words vs []))
    (lines_of datagram_event_words done (line_then reported rest)) (window_words-line d.window) (window_words-line window) e in
    let found = goes-on datagram_lines datagram_event_words-line datagram_event-stands done d.events.items reported rest (lines_of expect_words vs []) k h plain
    (expected-after vs) bad parts.1 in
    full found.0 found.1 found.2

not-after : (reported left rest : List ℕ) → IsFirstLine reported left → ¬ AfterDatagrams left → ¬ AfterDatagrams (line_then reported rest)
not-after reported left rest first bad (inl none) = no-line reported rest (sym none)
not-after reported left rest first bad (inr begun) = bad (inr (sym (other-begun reported left rest (codes "expect ") first refl) ∙ begun))

nil-good : All Good []
nil-good = All-nil Good

-- what a file with additions has after the events
two-text : (file : VectorFile) (a : Additions) (rest : List ℕ) → up_to_version (with_version file (Two a)) (version_text (Two a) ++ rest)
    ≡ up_to_end (with_version file (Two a)) rest
two-text file a rest =
    let whole = with_version file (Two a) in
    front-version whole (version_text (Two a) ++ rest) ∙ sym (append_assoc (up_to_version whole []) (version_text (Two a)) rest)
    ∙ ap (λ (t : List ℕ). t ++ rest) (sym (front-version whole (version_text (Two a))))

-- a text of no lines is what follows them
lines-none : (events : List Event) (rest : List ℕ) → lines_of event_words events rest ≡ [] → rest ≡ []
lines-none [] rest e = e
lines-none (x ∷ xs) rest e = absurd (no-line (event_words x) (lines_of event_words xs rest) (sym e))

datagram-reported : (alloc : Global) (allowed : AllowedEvents) (text from : List ℕ) (total : ℕ) (fault : VectorFault)
    (b : BegunAt allowed true text from up_to_version) → (allowed ≡ VersionOne → true ≡ false) → total ≡ line_feeds text
    → IsWrongDatagram allowed from total fault → IsReported allowed text fault
datagram-reported alloc allowed text from total fault b one all w =
    let a = two_of alloc (Some (over_of alloc w.window w.it.done w.it.few)) [] nil-good (lit< tt) in
    let file = with_version b.file (Two a) in
    let right = version-right b.file (Two a) b.is_file (w.it.are, All-nil (λ (words : Vec ℕ Global). IsExpected words.items)) in
    let allow_it : IsAllowedFile allowed file = (b.is_allowed.0, two-allowed allowed a (λ e. absurd (w.is_allowed e)) (λ e. true≢false (one e))) in
    let lines = λ (rest : List ℕ). line_then (window_words w.window) (lines_of datagram_event_words w.it.done rest) in
    let front : IsFront lines = front-both (line_then (window_words w.window)) (lines_of datagram_event_words w.it.done) (front-line (window_words w.window))
    (front-lines datagram_event_words w.it.done) in
    reported-of allowed text fault (Line w.it.it.number kinds.Event) w.it.it.fault_is (record {
      it = reported-line allowed text w.it.left total kinds.Event fault up_to_end file [] right allow_it (front-end file) (sym (append-nil (file_text file)))
          (version-text b.file a text from b.which b.text_is ∙ ap (up_to_version file) (w.text_is ∙ ap (line_then (window_words w.window)) w.it.text_is ∙ front w.it.left)
          ∙ two-text b.file a w.it.left) all w.it.it
          (λ other rest k allow same.
          let here = version-back b.file a (file_text other) (lines (line_then w.it.it.reported rest)) b.which
          (same ∙ sym (two-text b.file a (line_then w.it.it.reported rest)) ∙ ap (up_to_version file) (sym (front (line_then w.it.it.reported rest)))) in
          let found = second-other allowed text from b other (lines (line_then w.it.it.reported rest)) k allow (inr (inl refl)) here in
          let version : IsVersion (Two found.0) = subst IsVersion found.1 k.version in
          datagram-wrong found.0.datagrams found.0.expected.items w.window w.it.done w.it.it.reported rest version.0 w.it.are w.it.it.is_first.0
          (not-after w.it.it.reported w.it.left rest w.it.it.is_first w.it.stands) (λ x h e. w.it.full x h e) found.2);
      none_expected = refl;
      no_answer = λ e.
          let none = front-alone (up_to_events file) (lines_of event_words file.events.items (version_text (Two a))) (front-events file) e in
          absurd (no-line (window_words w.window) (lines_of datagram_event_words w.it.done [])
          (sym (lines-none file.events.items (version_text (Two a)) none)));
    })

datagram-cut : (alloc : Global) (allowed : AllowedEvents) (text from : List ℕ) (total : ℕ) (b : BegunAt allowed true text from up_to_version)
    → (allowed ≡ VersionOne → true ≡ false) → total ≡ line_feeds text → IsCutDatagrams allowed from → IsReported allowed text (Line (total + 1) kinds.Ending)
datagram-cut alloc allowed text from total b one all cut =
    let a = two_of alloc (Some (over_of alloc cut.window cut.events cut.few)) [] nil-good (lit< tt) in
    let file = with_version b.file (Two a) in
    inl (cut-within allowed text from (total + 1) file (up_to_version file) (λ rest. line_then (window_words cut.window) (lines_of datagram_event_words cut.events rest))
    [] (version-right b.file (Two a) b.is_file (cut.are, All-nil (λ (words : Vec ℕ Global). IsExpected words.items)))
    (b.is_allowed.0, two-allowed allowed a (λ e. absurd (cut.is_allowed e)) (λ e. true≢false (one e))) (front-version file)
    (front-both (line_then (window_words cut.window)) (lines_of datagram_event_words cut.events) (front-line (window_words cut.window))
    (front-lines datagram_event_words cut.events)) (version-text b.file a text from b.which b.text_is) cut.text_is refl (next-number text total all))

-- ---- what is expected

over-after : (over : Option FileDatagrams) (rest : List ℕ) → AfterDatagrams rest → AfterEvents (datagrams_text over rest)
over-after None rest (inl none) = inl none
over-after None rest (inr begun) = inr (inr begun)
over-after (Some d) rest h = inr (inl refl)

expected-over : (done : List (List ℕ)) (reported left after rest : List ℕ) → after ≡ lines_of expect_line done left → AfterDatagrams after → ¬ (left ≡ [])
    → IsFirstLine reported left → AfterDatagrams (lines_of expect_line done (line_then reported rest))
expected-over [] reported left after rest e (inl none) some first = absurd (some (sym e ∙ none))
expected-over [] reported left after rest e (inr begun) some first =
    inr (other-begun reported left rest (codes "expect ") first refl ∙ subst (λ (t : List ℕ). starts_with nat_eq t (codes "expect ") ≡ true) e begun)
expected-over (x ∷ xs) reported left after rest e h some first = inr refl

-- what follows the datagrams of both is one
past-datagrams : (over other : Option FileDatagrams) (vs : List (Vec ℕ Global)) (text : List ℕ) → IfSome over (λ over. All IsDatagramEvent over.events.items)
    → IfSome other (λ over. All IsDatagramEvent over.events.items) → AfterDatagrams text
    → datagrams_text other (lines_of expect_words vs []) ≡ datagrams_text over text → lines_of expect_words vs [] ≡ text
past-datagrams None None vs text h k over e = e
past-datagrams None (Some d) vs text h k over e = search rules
past-datagrams (Some d) None vs text h k over e = search (rules, expected-begun)
past-datagrams (Some d) (Some o) vs text h k over e =
    let parts = parted-one 10 (window_words o.window) (window_words d.window) (lines_of datagram_event_words o.events.items (lines_of expect_words vs []))
    (lines_of datagram_event_words d.events.items text) (window_words-line o.window) (window_words-line d.window) e in
    lines-over datagram_lines datagram_event_words-line datagram_event-stands o.events.items d.events.items (lines_of expect_words vs []) text k h
    (expected-after vs) over parts.1

-- no line after these goes on
expected-wrong : (over other : Option FileDatagrams) (vs : List (Vec ℕ Global)) (done : List (List ℕ)) (reported rest : List ℕ)
    → IfSome over (λ over. All IsDatagramEvent over.events.items) → IfSome other (λ over. All IsDatagramEvent over.events.items)
    → All (λ (words : Vec ℕ Global). IsExpected words.items) vs → All Good done → lacks 10 reported ≡ true
    → AfterDatagrams (lines_of expect_line done (line_then reported rest)) → ((words : List ℕ) → Good words → ¬ (reported ≡ expect_line words))
    → ¬ (datagrams_text other (lines_of expect_words vs []) ≡ datagrams_text over (lines_of expect_line done (line_then reported rest)))
expected-wrong over other vs done reported rest h k right are plain after full e =
    let same = sym (partial-lines vs []) ∙ past-datagrams over other vs (lines_of expect_line done (line_then reported rest)) h k after e in
    let found = goes-on expect_lines good-plain good-stands done (bytes_of vs) reported rest [] are (partial-good vs right) plain refl
    (λ none. no-line reported rest (sym none)) same in
    full found.0 found.1 found.2

-- the lines of what is expected, and a text after them
expected-text : (alloc : Global) (over : Option FileDatagrams) (done : List (List ℕ)) (are : All Good done) (few : length done < 2 ^ 63) (rest : List ℕ)
    → datagrams_text over (lines_of expect_line done rest) ≡ version_text (Two (two_of alloc over done are few)) ++ rest
expected-text alloc over done are few rest = search (rules, front-both, front-datagrams, front-lines, vecs_of-lines)

-- the line that is reported, in a file with these additions
abbrev expected-line-reported : (alloc : Global) (allowed : AllowedEvents) (text from after left : List ℕ) (total : ℕ) (kind : LineKind) (fault : VectorFault)
    (b : BegunAt allowed true text from up_to_version) (over : Option FileDatagrams) (done : List (List ℕ)) (are : All Good done) (few : length done < 2 ^ 63)
    → (allowed ≡ VersionOne → true ≡ false) → total ≡ line_feeds text → IfSome over (λ over. All IsDatagramEvent over.events.items)
    → (allowed ≡ SayOnly → over ≡ None) → from ≡ datagrams_text over after → AfterDatagrams after → after ≡ lines_of expect_line done left
    → ¬ (left ≡ []) → (it : IsWrongFirst left total kind fault) → ((words : List ℕ) → Good words → ¬ (it.reported ≡ expect_line words))
    → IsReportedLine allowed text it.number up_to_end
expected-line-reported alloc allowed text from after left total kind fault b over done are few one all right is_allowed text_is stands lines some it full =
    let a = two_of alloc over done are few in
    let file = with_version b.file (Two a) in
    reported-line allowed text left total kind fault up_to_end file []
    (version-right b.file (Two a) b.is_file (right, vecs_of-right alloc done are))
    (b.is_allowed.0, two-allowed allowed a is_allowed (λ e. true≢false (one e))) (front-end file) (sym (append-nil (file_text file)))
    (version-text b.file a text from b.which b.text_is ∙ ap (up_to_version file) (text_is ∙ ap (datagrams_text over) lines ∙ expected-text alloc over done are few left)
    ∙ two-text b.file a left) all it
    (λ other rest k allow same.
    let whole = datagrams_text over (lines_of expect_line done (line_then it.reported rest)) in
    let after_it = expected-over done it.reported left after rest lines stands some it.is_first in
    let here = version-back b.file a (file_text other) whole b.which
    (same ∙ sym (two-text b.file a (line_then it.reported rest)) ∙ ap (up_to_version file) (sym (expected-text alloc over done are few (line_then it.reported rest)))) in
    let found = second-other allowed text from b other whole k allow (over-after over (lines_of expect_line done (line_then it.reported rest)) after_it) here in
    let version : IsVersion (Two found.0) = subst IsVersion found.1 k.version in
    expected-wrong over found.0.datagrams found.0.expected.items done it.reported rest right version.0 version.1 are it.is_first.0 after_it full found.2)

expected-reported : (alloc : Global) (allowed : AllowedEvents) (text from after left : List ℕ) (total : ℕ) (fault : VectorFault)
    (b : BegunAt allowed true text from up_to_version) (over : Option FileDatagrams) (done : List (List ℕ)) (are : All Good done) (few : length done < 2 ^ 63)
    → (allowed ≡ VersionOne → true ≡ false) → total ≡ line_feeds text → IfSome over (λ over. All IsDatagramEvent over.events.items)
    → (allowed ≡ SayOnly → over ≡ None) → from ≡ datagrams_text over after → AfterDatagrams after → after ≡ lines_of expect_line done left
    → ¬ (left ≡ []) → (it : IsWrongFirst left total (expect_kind done) fault) → ((words : List ℕ) → Good words → ¬ (it.reported ≡ expect_line words))
    → IsReported allowed text fault
expected-reported alloc allowed text from after left total fault b over [] are few one all right is_allowed text_is stands lines some it full =
    reported-of allowed text fault (Line it.number kinds.Event) it.fault_is (record {
      it = expected-line-reported alloc allowed text from after left total kinds.Event fault b over [] are few one all right is_allowed text_is stands lines some it full;
      none_expected = refl;
      no_answer = λ e. answer-begun b.file.responder it.reported left it.is_first (after-no_answer b.file.responder left (left-after lines stands some));
    }) where
      left-after : (after ≡ left) → AfterDatagrams after → ¬ (left ≡ []) → AfterEvents left
      left-after e (inl none) some = absurd (some (sym e ∙ none))
      left-after e (inr begun) some = inr (inr (subst (λ (t : List ℕ). starts_with nat_eq t (codes "expect ") ≡ true) e begun))
expected-reported alloc allowed text from after left total fault b over (x ∷ xs) are few one all right is_allowed text_is stands lines some it full =
    reported-of allowed text fault (Line it.number kinds.Expect) it.fault_is (
      expected-line-reported alloc allowed text from after left total kinds.Expect fault b over (x ∷ xs) are few one all right is_allowed text_is stands lines some
          it full,
      λ none. absurd (cc (none)),
    )

expected-cut : (alloc : Global) (allowed : AllowedEvents) (text from after : List ℕ) (total : ℕ) (b : BegunAt allowed true text from up_to_version)
    (over : Option FileDatagrams) (done : List (List ℕ)) (are : All Good done) (few : length done < 2 ^ 63) → (allowed ≡ VersionOne → true ≡ false)
    → total ≡ line_feeds text → IfSome over (λ over. All IsDatagramEvent over.events.items) → (allowed ≡ SayOnly → over ≡ None)
    → from ≡ datagrams_text over after → after ++ codes "\n" ≡ lines_of expect_line done [] → IsReported allowed text (Line (total + 1) kinds.Ending)
expected-cut alloc allowed text from after total b over done are few one all right is_allowed text_is last =
    let a = two_of alloc over done are few in
    let file = with_version b.file (Two a) in
    inl (cut-within allowed text after (total + 1) file (λ rest. up_to_version file (datagrams_text over rest)) (lines_of expect_line done) []
    (version-right b.file (Two a) b.is_file (right, vecs_of-right alloc done are))
    (b.is_allowed.0, two-allowed allowed a is_allowed (λ e. true≢false (one e)))
    (front-both (up_to_version file) (datagrams_text over) (front-version file) (front-datagrams over)) (front-lines expect_line done)
    (version-text b.file a text from b.which b.text_is ∙ ap (up_to_version file) text_is) last
    (ap (λ (t : List ℕ). up_to_version file (datagrams_text over t)) (vecs_of-lines alloc done are [])) (next-number text total all))

reports-expected : (alloc : Global) (allowed : AllowedEvents) (text from : List ℕ) (total : ℕ) (fault : VectorFault)
    (b : BegunAt allowed true text from up_to_version) → (allowed ≡ VersionOne → true ≡ false) → total ≡ line_feeds text
    → (t : ReportsExpected allowed from total fault) → ReportsAfter expect_lines t.after total fault → IsReported allowed text fault
reports-expected alloc allowed text from total fault b one all t (inl is) = reported-of allowed text fault Memory is tt
reports-expected alloc allowed text from total fault b one all t (inr (inl (is, cut))) = search (reported-of, expected-cut)
reports-expected alloc allowed text from total fault b one all t (inr (inr w)) =
    expected-reported alloc allowed text from t.after w.left total fault b t.datagrams w.done w.are w.few one all t.are t.is_allowed t.text_is t.stands w.text_is
    w.stands w.it w.full

two-reported : (alloc : Global) (allowed : AllowedEvents) (text from : List ℕ) (total : ℕ) (fault : VectorFault)
    (b : BegunAt allowed true text from up_to_version) → AfterEvents from → (allowed ≡ VersionOne → true ≡ false) → total ≡ line_feeds text
    → ReportsDatagrams allowed from total fault ⊎ ReportsExpected allowed from total fault → IsReported allowed text fault
two-reported alloc allowed text from total fault b over one all (inl (inl is)) = reported-of allowed text fault Memory is tt
two-reported alloc allowed text from total fault b over one all (inl (inr (inl (is, cut)))) = search (reported-of, datagram-cut)
two-reported alloc allowed text from total fault b over one all (inl (inr (inr (inl w)))) = window-reported allowed text from total fault b over all w
two-reported alloc allowed text from total fault b over one all (inl (inr (inr (inr w)))) = datagram-reported alloc allowed text from total fault b one all w
two-reported alloc allowed text from total fault b over one all (inr t) = reports-expected alloc allowed text from total fault b one all t t.it

pub version-reported : (alloc : Global) (allowed : AllowedEvents) (second : Bool) (text from : List ℕ) (total : ℕ) (fault : VectorFault)
    → BegunAt allowed second text from up_to_version → AfterEvents from → (allowed ≡ VersionOne → second ≡ false) → total ≡ line_feeds text
    → ReportsVersion allowed second from total fault → IsReported allowed text fault
version-reported alloc allowed false text from total fault b over one all (inl (e, some, it)) = one-reported allowed text from total fault b over some all it
version-reported alloc allowed true text from total fault b over one all (inl (e, some, it)) = absurd (true≢false e)
version-reported alloc allowed false text from total fault b over one all (inr (e, reports)) = absurd (true≢false (sym e))
version-reported alloc allowed true text from total fault b over one all (inr (e, reports)) = two-reported alloc allowed text from total fault b over one all reports
