-- A vector file has one run.
use Rattle.std.proofs.Common.{rules, ◌≡◌, ◌∙◌, ap, ap₂, sym, refl, subst, ℕ, List, ◌++◌, map, Option, Some, None}
use Rattle.std.proofs.lemmas.Bool.{false≢true}
use Rattle.noise_run.proofs.Common.{Role, Plan, events_of, Note, Run, RunOnce, Sides, FileDatagrams, VectorFile, IsFilePattern, sides_of_file, held_datagrams, note_line, AreLast, IsRunOf, datagram_run_lines, gone_over}
use Rattle.noise_events.specs.declared.window.Window.{Window}
use Rattle.noise_events.specs.DatagramEvents.{DatagramEvent, datagram_events_of}
use Rattle.noise_duel.specs.DatagramRuns.{DatagramRun, DatagramRunOnce}
use Rattle.noise_run.specs.OneRun.{OneRun, RunAlike}
use Rattle.noise_run.specs.Running.AreLast.{without, unready, ready}
use Rattle.noise_run.specs.OnePattern.{pattern-once}

-- ---- what both ends start from

sides-of-file-same : (f g : VectorFile) (plan : Plan) → RunAlike f g → sides_of_file f plan ≡ sides_of_file g plan
sides-of-file-same f g plan same = search rules

-- ---- the last lines

last-once : DatagramRunOnce → (o u : Option FileDatagrams) (d : Sides) (xs ys : List (List ℕ)) → held_datagrams o ≡ held_datagrams u → AreLast o d xs → AreLast u d ys
    → xs ≡ ys
last-once once _ _ d xs ys e (without _) (without _) = refl
last-once once _ _ d xs ys e (without _) (unready datagrams _ partial) = absurd (cc)
last-once once _ _ d xs ys e (without _) (ready datagrams _ notes last may run) = absurd (cc)
last-once once _ _ d xs ys e (unready datagrams _ partial) (without _) = absurd (cc)
last-once once _ _ d xs ys e (unready datagrams _ partial) (unready also _ more) = refl
last-once once _ _ d xs ys e (unready datagrams _ partial) (ready also _ notes last may run) = absurd (false≢true (sym partial ∙ may))
last-once once _ _ d xs ys e (ready datagrams _ notes last may run) (without _) = absurd (cc)
last-once once _ _ d xs ys e (ready datagrams _ notes last may run) (unready also _ partial) = absurd (false≢true (sym partial ∙ may))
last-once once _ _ d xs ys e (ready datagrams _ notes last may run) (ready also _ reported left indeed again) = search rules

-- ---- all lines

pub one-run : RunOnce → DatagramRunOnce → OneRun
one-run once datagrams f g xs ys same a b =
    let pattern : IsFilePattern f.block f.protocol b.plan = search rules in
    let plan : a.plan ≡ b.plan = pattern-once f.block f.protocol a.plan b.plan a.of_file.pattern pattern in
    let start : sides_of_file f a.plan ≡ sides_of_file g b.plan = ap (sides_of_file f) plan ∙ sides-of-file-same f g b.plan same in
    let run : Run (sides_of_file f a.plan) (events_of f.events.items) b.notes b.last = search rules in
    let one = once (sides_of_file f a.plan) a.last b.last (events_of f.events.items) a.notes b.notes a.run run in
    let after : a.after ≡ b.after = search (rules, last-once) in
    a.lines_are
    ∙ ap₂ (λ (ns : List (Role × Note)) (d : Sides). map (note_line d) ns ++ a.after) one.0 one.1
    ∙ ap (λ (z : List (List ℕ)). map (note_line b.last) b.notes ++ z) after
    ∙ sym b.lines_are

-- ---- a run of a file is one of each file that says the same

last-moves : (o u : Option FileDatagrams) (d : Sides) (xs : List (List ℕ)) → held_datagrams o ≡ held_datagrams u → AreLast o d xs → AreLast u d xs
last-moves _ None d xs e (without _) = without d
last-moves _ (Some also) d xs e (without _) = absurd (cc)
last-moves _ None d xs e (unready datagrams _ partial) = absurd (cc)
last-moves _ (Some also) d xs e (unready datagrams _ partial) = unready also d partial
last-moves _ None d xs e (ready datagrams _ notes last may run) = absurd (cc)
last-moves _ (Some also) d xs e (ready datagrams _ notes last may run) =
    let same : (datagrams.window, datagram_events_of datagrams.events.items) ≡ (also.window, datagram_events_of also.events.items) = cc in
    let window : datagrams.window ≡ also.window = ap (λ (p : Window × List DatagramEvent). p.0) same in
    let events : datagram_events_of datagrams.events.items ≡ datagram_events_of also.events.items = ap (λ (p : Window × List DatagramEvent). p.1) same in
    subst (λ (z : Window). AreLast (Some also) d (datagram_run_lines z notes last)) (sym window)
    (ready also d notes last may
    (subst (λ (z : Window). DatagramRun (gone_over d z) (datagram_events_of also.events.items) notes last) window
    (subst (λ (z : List DatagramEvent). DatagramRun (gone_over d datagrams.window) z notes last) events run)))

pub run-moves : (f g : VectorFile) (xs : List (List ℕ)) → RunAlike f g → IsRunOf f xs → IsRunOf g xs
run-moves f g xs same a = search (rules, last-moves)
