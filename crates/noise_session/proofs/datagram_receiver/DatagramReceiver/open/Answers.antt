use Rattle.noise_session.proofs.DatagramStates.{payload-there}
use Rattle.noise_session.proofs.datagram_receiver.DatagramReceiver.open.Goals as goal

pub returns-clause-opens : goal.returns-clause-opens
returns-clause-opens c =
    let o = c.in_ok-len.ensures.opens in
    rw (payload-there c.in_ok-len.len) (record {
      fault = o.fault;
      opened = o.opened;
      same = o.same;
      unchanged = tt;
      opens = o.opens;
    })
