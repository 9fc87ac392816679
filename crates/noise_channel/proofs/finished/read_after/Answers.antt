use Rattle.std.proofs.Common.{inl, inr}
use Rattle.noise_session.specs.TransportValue.{transport_of}
use Rattle.noise_channel.proofs.Whole.{handed-or}
use Rattle.noise_channel.proofs.finished.read_after.Goals as goal

pub returns-in-Some-clause-responder : goal.returns-in-Some-clause-responder
returns-in-Some-clause-responder g c p a b ps qs v w h matches =
    let i = c.args.interval in
    handed-or (transport_of v i) c.args.came.now c.args.out.now.items c.read_to_end.new.out.items c.read_to_end.result
    (elim (c.finished_agree.ensures p a b ps qs v w i h) [
      | inl whole ↦ inl (c.read_to_end.ensures.front (transport_of v i) (transport_of w i) whole.0 (let o = c.in-Some.ensures.matches w matches in o.1))
      | inr forged ↦ inr forged
    ])

pub returns-in-Some-clause-initiator : goal.returns-in-Some-clause-initiator
returns-in-Some-clause-initiator g c p a b ps qs v w h matches =
    let i = c.args.interval in
    handed-or (transport_of w i) c.args.came.now c.args.out.now.items c.read_to_end.new.out.items c.read_to_end.result
    (elim (c.finished_agree.ensures p a b ps qs v w i h) [
      | inl whole ↦ inl (c.read_to_end.ensures.front (transport_of w i) (transport_of v i) whole.1 (let o = c.in-Some.ensures.matches v matches in o.1))
      | inr forged ↦ inr forged
    ])

pub returns-in-Some-clause-all : goal.returns-in-Some-clause-all
returns-in-Some-clause-all g c done u v matches same =
    let o = c.in-Some.ensures.matches u matches in
    c.read_to_end.ensures.all v (transport_of u c.args.interval) same o.1
