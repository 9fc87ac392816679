-- What the lines of a run come to, for the counts.
use Rattle.std.proofs.Common.{rules, ◌≡◌, ◌∙◌, ap₂, refl, ◌&&◌, ◌==◌, Bool, true, false, ℕ, List, ◌++◌, Result, Ok, Err, OnOk, length}
use Rattle.noise_tool.proofs.Common.{Plan, EndState, EndValue, IsReportedBy, Progress, DuelValue, Sides, Event, events_of, FileKeys, VectorFile, IsPlanOf, sides_of_file, AreLast, IsRunOf, LeavesLines, datagrams_of_version, are_ready, is_ready}
use Rattle.noise_session.specs.EndDatagrams.{is_datagram_ready, is_untouched}
use Rattle.noise_vectors.specs.declared.vector.Version.{Version}

pub on_ok : {A E : Type 0} (r : Result A E) (P Q : Type 0) → (P → Q) → OnOk r P → OnOk r Q
on_ok (Ok a) P Q f p = f p
on_ok (Err e) P Q f p = tt

ready-reported : (e : EndValue FileKeys) (v : EndState) → IsReportedBy v e → is_datagram_ready e ≡ is_ready v
ready-reported e v reported = ap₂ (λ (p : Progress) (h : List ℕ). is_untouched p && (length h == 0)) reported.progress reported.partial

pub both-ready : (duel : DuelValue FileKeys FileKeys) (d : Sides) → IsReportedBy d.initiator.state duel.initiator → IsReportedBy d.responder.state duel.responder
    → (is_datagram_ready duel.initiator ≡ true) × (is_datagram_ready duel.responder ≡ true) → are_ready d ≡ true
both-ready duel d one other h = search

pub not-ready : (duel : DuelValue FileKeys FileKeys) (d : Sides) → IsReportedBy d.initiator.state duel.initiator → IsReportedBy d.responder.state duel.responder
    → ¬ ((is_datagram_ready duel.initiator ≡ true) × (is_datagram_ready duel.responder ≡ true)) → are_ready d ≡ false
not-ready duel d one other h = at (is_ready d.initiator.state) (is_ready d.responder.state) refl refl where
  at : (a b : Bool) → is_ready d.initiator.state ≡ a → is_ready d.responder.state ≡ b → are_ready d ≡ false
  at true true p q =
      absurd (h (ready-reported duel.initiator d.initiator.state one ∙ p, ready-reported duel.responder d.responder.state other ∙ q))
  at true false p q = rw (p, q) refl
  at false b p q = rw p refl

-- the events of the file leave the ends and lines, and these follow
pub is-run : (file : VectorFile) (plan : Plan) (events : List Event) (version : Version) (duel : DuelValue FileKeys FileKeys)
    (lines printed after : List (List ℕ)) → IsPlanOf file plan → events ≡ events_of file.events.items → version ≡ file.version
    → (ran : LeavesLines (sides_of_file file plan) events duel lines) → AreLast (datagrams_of_version version) ran.last after → printed ≡ lines ++ after
    → IsRunOf file printed
is-run file plan events version duel lines printed after of_file same which ran last is = search rules
