use Rattle.std.proofs.Common.{rules, ◌≡◌, ◌∙◌, ap, inl, inr, lit<, refl, subst, true, ℕ, List, ◌++◌, Option, Some, codes, []}
use Rattle.std.specs.Bool.{nat_eq}
use Rattle.noise_vectors.proofs.Common.{All-nil, IfSome, All, starts_with, IsDatagramEvent, AfterDatagrams, datagram_event_words, datagrams_text, lines_of, window_words, FileDatagrams, last_number, ReportsAfter, datagram_lines, SayOnly, false≢true}
use Rattle.noise_vectors.proofs.AdditionLemmas.{over-stands, window_words-line}
use Rattle.noise_vectors.proofs.LineLemmas.{begun-by}
use Rattle.noise_vectors.proofs.PartyReported.{window-reported}
use Rattle.noise_vectors.proofs.ReportedLemmas.{counted-ended, ending-reported, wrong-line}
use Rattle.noise_vectors.proofs.additions.read_datagrams.Goals.{After-read_window}
use Rattle.noise_vectors.proofs.Results.{err-is}
use Rattle.noise_vectors.proofs.additions.read_datagrams.Goals as goal

abbrev AreRight : Option FileDatagrams → Type 0
AreRight found = IfSome found (λ over. All IsDatagramEvent over.events.items)

-- the text goes on with datagrams
begun : (c : After-read_window) → starts_with nat_eq c.args.lines.now.rest.now (codes "datagrams ") ≡ true
begun c = begun-by c.args.lines.now.rest.now c.as_slice.ensures c.if-not-starts_with.ensures.value

-- the line of their window is read
line-read : (c : After-read_window) (over : Option FileDatagrams) (rest : List ℕ) → AfterDatagrams rest
    → c.args.lines.now.rest.now ≡ datagrams_text over rest
    → (d : FileDatagrams) × (over ≡ Some d) × (c.in_ok-line.line.now ≡ window_words d.window)
    × (c.next.new.self.rest.now ≡ lines_of datagram_event_words d.events.items rest) × (c.next.new.self.is_ended ≡ true)
line-read c over rest after e =
    let (d, is) = over-stands over c.args.lines.now.rest.now rest (begun c) after e in
    let read = c.in_ok-line.ensures.every (window_words d.window) (lines_of datagram_event_words d.events.items rest) (window_words-line d.window)
    (e ∙ ap (λ (o : Option FileDatagrams). datagrams_text o rest) is) in
    (d, is, read.0, read.1, read.2)

pub returns-in_default-clause-every : goal.returns-in_default-clause-every
returns-in_default-clause-every c =
    λ over rest right allowed after e.
    let r = line-read (goal.at.returns-in_default-clause-every c).After-read_window over rest after e in
    let found = c.in_default.ensures.every r.0.window r.2 in
    absurd (cc found)

pub returns-in_err-end-clause-every : goal.returns-in_err-end-clause-every
returns-in_err-end-clause-every c =
    λ over rest right allowed after e.
    absurd (false≢true (c.in_err-end.ensures.ended.1 (line-read (goal.at.returns-in_err-end-clause-every c).After-read_window over rest after e).4))

pub returns-in_err-events-clause-every : goal.returns-in_err-events-clause-every
returns-in_err-events-clause-every c =
    λ over rest right allowed after e.
    let r = line-read (goal.at.returns-in_err-events-clause-every c).After-read_window over rest after e in
    rw (err-is c.from_residual-in_err-events.result c.from_residual-in_err-events.ensures.1) (c.in_err-events.ensures.every r.0.events.items rest (subst AreRight r.1 right) after r.3)

pub returns-clause-every : goal.returns-clause-every
returns-clause-every c =
    λ over rest right allowed after e.
    let r = line-read (goal.at.returns-clause-every c).After-read_window over rest after e in
    c.in_ok-events.ensures.every r.0.events.items rest (subst AreRight r.1 right) after r.3

pub returns-in_default-clause-reported : goal.returns-in_default-clause-reported
returns-in_default-clause-reported c =
    inr (inr (inl (record {
      begun = begun (goal.at.returns-in_default-clause-reported c).After-read_window;
      it = wrong-line c.in_ok-line.ensures.read refl c.fault.ensures;
      none = λ window e. let some = c.in_default.ensures.every window e in absurd (cc (some));
    })))

pub returns-in_err-end-clause-reported : goal.returns-in_err-end-clause-reported
returns-in_err-end-clause-reported c =
    let other : ¬ (c.args.allowed ≡ SayOnly) = search rules in
    rw (err-is c.from_residual-in_err-end.result c.from_residual-in_err-end.ensures.1) (inr (inl (
      ending-reported c.in_ok-line.ensures.read c.in_err-end.ensures.fault,
      record {
        window = c.in-Some.window;
        is_allowed = other;
        events = [];
        are = All-nil IsDatagramEvent;
        few = lit< tt;
        text_is = ap (λ (t : List ℕ). t ++ codes "\n") (((c.in_ok-line.ensures.read.last c.in_err-end.ensures.fault.0).0) ∙ c.in-Some.ensures.text);
      },
    )))

pub returns-clause-counted : goal.returns-clause-counted
returns-clause-counted c =
    c.in_ok-events.ensures.counted ∙ (counted-ended c.in_ok-line.ensures.read (c.in_ok-end.ensures.ended.0 refl))

pub returns-in_err-events-clause-reported : goal.returns-in_err-events-clause-reported
returns-in_err-events-clause-reported c =
    let other : ¬ (c.args.allowed ≡ SayOnly) = search rules in
    let n = counted-ended c.in_ok-line.ensures.read (c.in_ok-end.ensures.ended.0 refl) in
    rw (err-is c.from_residual-in_err-events.result c.from_residual-in_err-events.ensures.1) (window-reported c.args.allowed c.in-Some.window c.args.lines.now.rest.now c.in_ok-line.line.now c.next.new.self.rest.now (last_number c.args.lines.now) _ (c.in_ok-line.ensures.read.ended (c.in_ok-end.ensures.ended.0 refl)) c.in-Some.ensures.text other
    (subst (λ (n : ℕ). ReportsAfter datagram_lines c.next.new.self.rest.now n c.in_err-events.field-0.0) n c.in_err-events.ensures.reported))
