use Rattle.std.proofs.Common.{take, sym, ◌∙◌, ap, subst}
use Rattle.noise_channel.specs.Writing.Asked.{ToEnd}
use Rattle.noise_session.specs.Halves.{writes_nothing}
use Rattle.noise_channel.specs.Halves.{StreamSenderValue, StreamSenderMatches}
use Rattle.noise_channel.proofs.Writers.{over-as, mute-as, ends-as, end-is-some}
use Rattle.noise_channel.proofs.sender.StreamSender.end.Goals as goal

pub returns-then-self-clause-writes : goal.returns-then-self-clause-writes
returns-then-self-clause-writes c v s matches =
    over-as c.args.self.now v s ToEnd (ap (λ (h : StreamSenderValue). h.ended) (sym c.self.view_is) ∙ c.if-self.true) matches

pub returns-then-writes_nothing-clause-writes : goal.returns-then-writes_nothing-clause-writes
returns-then-writes_nothing-clause-writes c v s matches =
    mute-as c.args.self.now v (ap (λ (h : StreamSenderValue). h.ended) (sym c.self.view_is) ∙ c.if-self.false) s ToEnd end-is-some
    (sym c.writes_nothing.ensures ∙ c.if-writes_nothing.true) matches

pub returns-clause-writes : goal.returns-clause-writes
returns-clause-writes c v s matches =
    let w : StreamSenderValue = record { half = c.self.inside.sender; ended = c.self.inside.ended } in
    ends-as w v c.if-self.false c.seal_frame.new.self (take c.in-Ok.written c.seal_frame.new.out) s
    (ap (λ (h : StreamSenderValue). writes_nothing h.half) c.self.view_is ∙ sym c.writes_nothing.ensures ∙ c.if-writes_nothing.false)
    c.in-Ok.ensures.seals.below c.in-Ok.ensures.seals.seals (subst (λ (h : StreamSenderValue). StreamSenderMatches h v s) (sym c.self.view_is) matches)
