use Rattle.noise_channel.specs.Reading.StreamReceiverState.{Listens}
use Rattle.noise_c.specs.StreamStructs.{stream_receiver_from_c}
use Rattle.noise_c.proofs.reading.read_stream_to_end.Goals as goal

pub returns-clause-reads : goal.returns-clause-reads
returns-clause-reads c v s matches =
    c.read_is_front.ensures.exactly v s c.args.came.now c.args.out.now.items c.read_stream_to.new.out.items c.in_ok-left.left
    (stream_receiver_from_c c.read_stream_to.new.stream) _ c.in_ok-left.ensures.left (c.in_ok-left.ensures.reads v s matches) c.is_whole.ensures.whole

pub returns-clause-front : goal.returns-clause-front
returns-clause-front c v w agrees matches =
    c.read_is_front.ensures.front v w c.args.came.now c.args.out.now.items c.read_stream_to.new.out.items
    (stream_receiver_from_c c.read_stream_to.new.stream) _ agrees (returns-clause-reads c w (Listens 0) matches)

pub returns-clause-all : goal.returns-clause-all
returns-clause-all c v w same matches =
    c.read_is_front.ensures.all v w c.args.came.now c.args.out.now.items c.read_stream_to.new.out.items
    (stream_receiver_from_c c.read_stream_to.new.stream) _ same (returns-clause-reads c w (Listens 0) matches)
