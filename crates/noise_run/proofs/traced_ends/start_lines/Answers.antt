use Rattle.std.proofs.Common.{◌≡◌, ◌∙◌, ◌++◌, ap, ap₂, ℕ, List, length}
use Rattle.noise_run.proofs.Common.{Initiator, Responder, setup_fault, public_of, shown_before, start_lines_of}
use Rattle.noise_handshake.specs.declared.remote.Remote.{Remote}
use Rattle.noise_run.proofs.traced_ends.start_lines.Goals as goal

pub returns : goal.returns
returns c = λ set_up.
    let file = c.args.file.now in
    let plan = c.args.pattern.now in
    let known : c.shown_before-of_responder.result ≡ shown_before plan Responder (public_of file.responder) =
    c.shown_before-of_responder.ensures.value in
    let known-2 : c.shown_before-of_initiator.result ≡ shown_before plan Initiator (public_of file.initiator) =
    c.shown_before-of_initiator.ensures.value in
    let text : c.deref.result.now ≡ file.prologue.items = c.deref.ensures.value in
    let text-2 : c.deref-2.result.now ≡ file.prologue.items = c.deref-2.ensures.value in
    let head = rw c.new-lines.ensures.items at c.in_ok-push_heading.ensures in
    let first = c.in_ok-push_start.ensures (length file.psks.items)
    (ap (λ (r : Remote). setup_fault plan Initiator (public_of file.initiator) r (length file.psks.items)) known ∙ set_up Initiator) in
    let second = c.in_ok-push_start-2.ensures (length file.psks.items)
    (ap (λ (r : Remote). setup_fault plan Responder (public_of file.responder) r (length file.psks.items)) known-2 ∙ set_up Responder) in
    second ∙ ap₂ (λ (s t : List (List ℕ)). s ++ t)
    (first ∙ ap₂ (λ (s t : List (List ℕ)). s ++ t) head
    (ap₂ (λ (t : List ℕ) (r : Remote). start_lines_of c.args.selection Initiator plan t file.initiator r) text known))
    (ap₂ (λ (t : List ℕ) (r : Remote). start_lines_of c.args.selection Responder plan t file.responder r) text-2 known-2)
