-- A piece that ends a frame is judged as the frame's message.
use Rattle.std.proofs.Common.{rules, ◌≡◌, ℕ, ◌≤◌, List, ◌++◌, length, sym, ◌∙◌, subst, append-nil, None, []}
use Rattle.noise_theorems.proofs.Common.{StepValue, idle_step, EndState, progress_of, Judges, Takes}
use Rattle.noise_session.specs.Frames.{frame}
use Rattle.noise_session.specs.Taking.Takes.{idles, waits, judges}
use Rattle.noise_session.specs.Framing.{frame-same}

pub judged : (v next : EndState) (piece message : List ℕ) (n : ℕ) (t : StepValue) → Takes v piece n t next → idle_step (progress_of v) ≡ None
    → v.partial ++ piece ≡ frame message → length message ≤ 65535 → Judges v message t next
judged v next piece message n t (idles _ _ _ e) listens is short = absurd (cc)
judged v next piece message n t (waits _ _ e partial) listens is short = search rules
judged v next piece message n t (judges _ _ _ other rest _ _ e be small count j) listens is short =
    subst (λ (m : List ℕ). Judges v m t next) (frame-same other message rest [] small short (sym be ∙ (is ∙ sym (append-nil (frame message))))).0 j
