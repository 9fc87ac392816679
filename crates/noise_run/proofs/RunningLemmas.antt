-- The lines after those of the events.
use Rattle.std.proofs.Common.{rules, ◌≡◌, ◌∙◌, ap₂, sym, refl, subst, ◌&&◌, ◌==◌, Bool, true, false, ℕ, List, [], ◌∷◌, ◌++◌, Option, Some, None, Result, Ok, Err, OnOk, length, map, codes, append_assoc}
use Rattle.noise_run.proofs.Common.{Plan, Role, EndState, EndValue, IsReportedBy, Progress, DuelValue, Sides, Event, events_of, window_words, FileKeys, FileDatagrams, VectorFile, IsPlanOf, sides_of_file, state_lines, AreLast, IsRunOf, LeavesLines, datagrams_of_version, are_ready, gone_over, is_ready}
use Rattle.noise_session.specs.Datagrams.{DatagramState}
use Rattle.noise_session.specs.EndDatagrams.{is_datagram_ready, is_untouched}
use Rattle.noise_duel.specs.DatagramNotes.{DatagramNote}
use Rattle.noise_events.specs.DatagramEvents.{datagram_events_of}
use Rattle.noise_duel.specs.DatagramRuns.{DatagramRun}
use Rattle.noise_duel.specs.DatagramSides.{DatagramSides, datagram_sides}
use Rattle.noise_vectors.specs.declared.vector.Version.{Version}
use Rattle.noise_run.specs.PrintedDatagrams.{datagram_line, datagram_state_lines}
use Rattle.noise_run.specs.Running.{ready, unready, without}

pub on_ok : {A E : Type 0} (r : Result A E) (P Q : Type 0) → (P → Q) → OnOk r P → OnOk r Q
on_ok (Ok a) P Q f p = f p
on_ok (Err e) P Q f p = tt

-- ---- which ends are ready

ready-reported : (e : EndValue FileKeys) (v : EndState) → IsReportedBy v e → is_datagram_ready e ≡ is_ready v
ready-reported e v reported = ap₂ (λ (p : Progress) (h : List ℕ). is_untouched p && (length h == 0)) reported.progress reported.partial

pub both-ready : (duel : DuelValue FileKeys FileKeys) (d : Sides) → IsReportedBy d.initiator.state duel.initiator → IsReportedBy d.responder.state duel.responder
    → (is_datagram_ready duel.initiator ≡ true) × (is_datagram_ready duel.responder ≡ true) → are_ready d ≡ true
both-ready duel d one other h = search

pub not-ready : (duel : DuelValue FileKeys FileKeys) (d : Sides) → IsReportedBy d.initiator.state duel.initiator → IsReportedBy d.responder.state duel.responder
    → ¬ ((is_datagram_ready duel.initiator ≡ true) × (is_datagram_ready duel.responder ≡ true)) → are_ready d ≡ false
not-ready duel d one other h = at (is_ready d.initiator.state) (is_ready d.responder.state) refl refl where
  at : (a b : Bool) → is_ready d.initiator.state ≡ a → is_ready d.responder.state ≡ b → are_ready d ≡ false
  at true true p q =
      absurd (h (ready-reported duel.initiator d.initiator.state one ∙ p, ready-reported duel.responder d.responder.state other ∙ q))
  at true false p q = rw (p, q) refl
  at false b p q = rw p refl

-- ---- the lines

pub after-without : {E : Type 0} (given : Option FileDatagrams) (d : Sides) (r : Result Unit E) (old new : List (List ℕ)) → given ≡ None
    → OnOk r (new ≡ old ++ state_lines d) → OnOk r ((x : List (List ℕ)) × AreLast given d x × (new ≡ old ++ x))
after-without given d r old new none h =
    on_ok r _ _ (λ e. (state_lines d, subst (λ (o : Option FileDatagrams). AreLast o d (state_lines d)) (sym none) (without d), e)) h

pub after-unready : {E : Type 0} (given : Option FileDatagrams) (datagrams : FileDatagrams) (d : Sides) (r : Result Unit E) (old new : List (List ℕ))
    → given ≡ Some datagrams → are_ready d ≡ false → OnOk r (new ≡ old ++ codes "no-datagrams" ∷ state_lines d)
    → OnOk r ((x : List (List ℕ)) × AreLast given d x × (new ≡ old ++ x))
after-unready given datagrams d r old new some not_ready h =
    on_ok r _ _ (λ e. (
      codes "no-datagrams" ∷ state_lines d,
      subst (λ (o : Option FileDatagrams). AreLast o d (codes "no-datagrams" ∷ state_lines d)) (sym some) (unready datagrams d not_ready),
      e,
    )) h

pub after-ready : {E : Type 0} (given : Option FileDatagrams) (datagrams : FileDatagrams) (d : Sides) (r : Result Unit E) (old new : List (List ℕ))
    → given ≡ Some datagrams → are_ready d ≡ true
    → OnOk r ((notes : List (Role × DatagramNote)) × (last : DatagramSides)
    × DatagramRun (gone_over d datagrams.window) (datagram_events_of datagrams.events.items) notes last
    × (new ≡ old ++ window_words datagrams.window ∷ (map datagram_line notes ++ datagram_state_lines last)))
    → OnOk r ((x : List (List ℕ)) × AreLast given d x × (new ≡ old ++ x))
after-ready given datagrams d r old new some are h =
    on_ok r _ _ (λ x.
    let lines : List (List ℕ) = window_words datagrams.window ∷ (map datagram_line x.0 ++ datagram_state_lines x.1) in
    (lines, subst (λ (o : Option FileDatagrams). AreLast o d lines) (sym some) (ready datagrams d x.0 x.1 are x.2), x.3)) h

-- the line of the window, those of the datagrams, and the states
pub after-window : {E : Type 0} (datagrams : FileDatagrams) (v w : DatagramState) (notes : List (Role × DatagramNote)) (last : DatagramSides) (r : Result Unit E)
    (old one two new : List (List ℕ)) → DatagramRun (datagram_sides v w) (datagram_events_of datagrams.events.items) notes last
    → one ≡ old ++ window_words datagrams.window ∷ [] → two ≡ one ++ map datagram_line notes → OnOk r (new ≡ two ++ datagram_state_lines last)
    → OnOk r ((notes : List (Role × DatagramNote)) × (last : DatagramSides) × DatagramRun (datagram_sides v w) (datagram_events_of datagrams.events.items) notes last
    × (new ≡ old ++ window_words datagrams.window ∷ (map datagram_line notes ++ datagram_state_lines last)))
after-window datagrams v w notes last r old one two new run first more h = search (rules, append_assoc)

-- the line of ends that don't go over, and the states
pub after-word : {E : Type 0} (d : Sides) (r : Result Unit E) (old one new : List (List ℕ)) → one ≡ old ++ codes "no-datagrams" ∷ []
    → OnOk r (new ≡ one ++ state_lines d) → OnOk r (new ≡ old ++ codes "no-datagrams" ∷ state_lines d)
after-word d r old one new first h = search (rules, append_assoc)

-- ---- the lines of a run

-- the events of the file leave the ends and lines, and these follow
pub is-run : (file : VectorFile) (plan : Plan) (events : List Event) (version : Version) (duel : DuelValue FileKeys FileKeys)
    (lines printed after : List (List ℕ)) → IsPlanOf file plan → events ≡ events_of file.events.items → version ≡ file.version
    → (ran : LeavesLines (sides_of_file file plan) events duel lines) → AreLast (datagrams_of_version version) ran.last after → printed ≡ lines ++ after
    → IsRunOf file printed
is-run file plan events version duel lines printed after of_file same which ran last is = search rules
