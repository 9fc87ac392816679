use Rattle.noise_session.proofs.DatagramStates.{payload-there}
use Rattle.noise_session.proofs.datagrams.Datagrams.open.Goals as goal

pub returns-clause-opens : goal.returns-clause-opens
returns-clause-opens c =
    let o = c.in_ok-len.ensures.opens in
    rw (payload-there c.in_ok-len.len) (record {
      half = record { fault = o.half.fault; opened = o.half.opened; same = o.half.same; unchanged = tt; opens = o.half.opens };
      others = o.others;
      unchanged = tt;
      matches = o.matches;
    })
