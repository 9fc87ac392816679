use Rattle.std.proofs.Common.{rules, ◌∙◌, refl}
use Rattle.noise_duel.proofs.DatagramHappening.{opened-copy, rejected-copy}
use Rattle.noise_duel.proofs.datagram_party.open.Goals as goal

pub returns-in-Ok : goal.returns-in-Ok
returns-in-Ok c s p =
    opened-copy s c.args.bytes.now _ _ _ _ c.open.new.self (c.as_mut_slice.ensures.value ∙ c.in_ok-datagram.ensures.items)
    c.in_ok-from_slice-in-Ok.ensures.items refl (c.in-Ok.ensures.opens.half.opens s.state p.receiver).0 (c.in-Ok.ensures.opens.matches s.state p)

pub returns : goal.returns
returns c s p = search (rules, rejected-copy)
