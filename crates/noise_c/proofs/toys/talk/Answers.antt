use Rattle.noise_c.proofs.Toying.{agreed, handed}
use Rattle.noise_c.proofs.toys.talk.Goals as goal

pub returns-clause-payload : goal.returns-clause-payload
returns-clause-payload c =
    handed c.two_programs_agree.ensures c.setup_is_whole.ensures.remote c.xor_keys_agree.ensures _ c.args.payload.now _ _ _ c.args.initiator.now
    c.args.responder.now c.in_ok-a.a c.pass.new.from c.pass-2.new.to c.pass-3.new.from c.in_ok-b.b c.pass.new.to c.pass-2.new.from c.pass-3.new.to
    c.in_ok-a.ensures.started c.in_ok-b.ensures.started c.in_ok-a.ensures.fault c.in_ok-b.ensures.fault c.in_ok-pass.ensures c.in_ok-pass-2.ensures
    c.in_ok-from.ensures

pub returns-clause-hash : goal.returns-clause-hash
returns-clause-hash c =
    (agreed c.two_programs_agree.ensures c.setup_is_whole.ensures.remote c.xor_keys_agree.ensures _ c.args.payload.now _ _ _ c.args.initiator.now
    c.args.responder.now c.in_ok-a.a c.pass.new.from c.pass-2.new.to c.pass-3.new.from c.in_ok-b.b c.pass.new.to c.pass-2.new.from c.pass-3.new.to
    c.in_ok-a.ensures.started c.in_ok-b.ensures.started c.in_ok-a.ensures.fault c.in_ok-b.ensures.fault c.in_ok-pass.ensures c.in_ok-pass-2.ensures
    c.in_ok-from.ensures).hash c.if-a-b.false

pub returns-clause-halves : goal.returns-clause-halves
returns-clause-halves c =
    (agreed c.two_programs_agree.ensures c.setup_is_whole.ensures.remote c.xor_keys_agree.ensures _ c.args.payload.now _ _ _ c.args.initiator.now
    c.args.responder.now c.in_ok-a.a c.pass.new.from c.pass-2.new.to c.pass-3.new.from c.in_ok-b.b c.pass.new.to c.pass-2.new.from c.pass-3.new.to
    c.in_ok-a.ensures.started c.in_ok-b.ensures.started c.in_ok-a.ensures.fault c.in_ok-b.ensures.fault c.in_ok-pass.ensures c.in_ok-pass-2.ensures
    c.in_ok-from.ensures).halves c.args.interval _ _ _ _ c.in_ok-sender.ensures c.in_ok-their_sender.ensures
