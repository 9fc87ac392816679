use Rattle.std.proofs.Common.{sym, ◌∙◌, ap}
use Rattle.noise_channel.specs.Writing.Asked.{ToWrite}
use Rattle.noise_channel.specs.Halves.{StreamSenderValue}
use Rattle.noise_channel.proofs.Writers.{over-as, writes-next}
use Rattle.noise_channel.proofs.sender.StreamSender.write.Goals as goal

pub returns-then-self-clause-writes : goal.returns-then-self-clause-writes
returns-then-self-clause-writes c v s matches =
    over-as c.args.self.now v s (ToWrite c.args.payload.now) (ap (λ (h : StreamSenderValue). h.ended) (sym c.self.view_is) ∙ c.if-self.true) matches

pub returns-else-self-clause-writes : goal.returns-else-self-clause-writes
returns-else-self-clause-writes c v s matches =
    writes-next c.args.self.now v (ap (λ (h : StreamSenderValue). h.ended) (sym c.self.view_is) ∙ c.if-self.false) c.write_part.new.self c.args.payload.now
    c.args.out.now c.write_part.new.out s matches c.write_part.result c.write_part.ensures.sealed
