use Rattle.std.proofs.Common.{rules, ◌≡◌, ◌∙◌, ap, sym, subst, OnOk}
use Rattle.noise_duel.proofs.Common.{IfOk-weaker, Role, Event, event_of, Say, Deliver, HasHappened, with_side}
use Rattle.noise_duel.proofs.Happening.{written, said, said-nothing}
use Rattle.noise_duel.proofs.duel.Duel.apply.Goals as goal

pub returns-in_ok-write-in-Write : goal.returns-in_ok-write-in-Write
returns-in_ok-write-in-Write g c d st fr = search (rules, written)

pub returns-in-Some : goal.returns-in-Some
returns-in-Some g c d st fr =
    let role = c.in-Say.role in
    let payload = c.as_slice-in-Say.result.now in
    let w = c.in_ok-number-in-Say.ensures d st fr in
    let event : event_of c.args.event.now ≡ Say role payload = ap event_of c.in-Say.is ∙ ap (Say role) (sym c.as_slice-in-Say.ensures.value) in
    subst (λ (e : Event). OnOk c.deliver.result (HasHappened g.A.Keys.pairs g.B.Keys.pairs d e c.deliver.new.self
    c.args.report.now c.deliver.new.report)) (sym event)
    (IfOk-weaker c.deliver.result _ _ (λ _ h.
    said g.A.Keys.pairs g.B.Keys.pairs d role payload _ c.in-Some.number c.write-in-Say.new.self
    c.deliver.new.self c.args.report.now c.write-in-Say.new.report c.deliver.new.report w c.in-Some.is
    (subst (λ (r : Role). HasHappened g.A.Keys.pairs g.B.Keys.pairs (with_side d role w.next)
    (Deliver r c.in-Some.number) c.deliver.new.self c.write-in-Say.new.report c.deliver.new.report) c.other.ensures h))
    (c.deliver.ensures (with_side d role w.next) w.matches w.frames))

pub returns-in-None : goal.returns-in-None
returns-in-None g c d st fr =
    let role = c.in-Say.role in
    let payload = c.as_slice-in-Say.result.now in
    let event : event_of c.args.event.now ≡ Say role payload = ap event_of c.in-Say.is ∙ ap (Say role) (sym c.as_slice-in-Say.ensures.value) in
    subst (λ (e : Event). HasHappened g.A.Keys.pairs g.B.Keys.pairs d e c.write-in-Say.new.self
    c.args.report.now c.write-in-Say.new.report) (sym event)
    (said-nothing g.A.Keys.pairs g.B.Keys.pairs d role payload _ c.write-in-Say.new.self
    c.args.report.now c.write-in-Say.new.report (c.in_ok-number-in-Say.ensures d st fr) c.in-None.is)
