use Rattle.noise_channel.specs.Reading.StreamReceiverState.{Listens}
use Rattle.noise_channel.proofs.reader.read_to_end.Goals as goal

pub returns-clause-reads : goal.returns-clause-reads
returns-clause-reads c v s matches =
    c.read_is_front.ensures.exactly v s c.args.came.now c.args.out.now.items c.read_to.new.out.items c.in_ok-left.left c.read_to.new.receiver _
    c.in_ok-left.ensures.left (c.in_ok-left.ensures.reads v s matches) c.is_whole.ensures

pub returns-clause-front : goal.returns-clause-front
returns-clause-front c v w agrees matches =
    c.read_is_front.ensures.front v w c.args.came.now c.args.out.now.items c.read_to.new.out.items c.read_to.new.receiver _ agrees
    (returns-clause-reads c w (Listens 0) matches)

pub returns-clause-all : goal.returns-clause-all
returns-clause-all c v w same matches =
    c.read_is_front.ensures.all v w c.args.came.now c.args.out.now.items c.read_to.new.out.items c.read_to.new.receiver _ same
    (returns-clause-reads c w (Listens 0) matches)
