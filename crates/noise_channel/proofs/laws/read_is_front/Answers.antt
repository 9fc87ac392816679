use Rattle.std.proofs.Common.{arith}
use Rattle.noise_channel.specs.Streams.{outgoing}
use Rattle.noise_channel.proofs.Whole.{hands-out, hands-out-all, said-exactly}
use Rattle.noise_channel.proofs.laws.read_is_front.Goals as goal

pub returns-clause-exactly : goal.returns-clause-exactly
returns-clause-exactly c = said-exactly

pub returns-clause-front : goal.returns-clause-front
returns-clause-front c = hands-out

pub returns-clause-all : goal.returns-clause-all
returns-clause-all c v w came before after r said same o =
    hands-out-all v w came before after r said (λ asked u all. c.stream_arrives.ensures.whole (outgoing v) 0 asked u (omega arith) all) same o
