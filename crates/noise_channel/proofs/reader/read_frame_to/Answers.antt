use Rattle.std.proofs.Common.{arith}
use Rattle.noise_channel.proofs.Reading.{after-used, reads-idle, stays-idle}
use Rattle.noise_channel.proofs.reader.read_frame_to.Goals as goal

pub returns-in-Ok-clause-rest : goal.returns-in-Ok-clause-rest
returns-in-Ok-clause-rest c =
    let frame = c.in-Payload.ensures.opened.1 in
    after-used c.in-Payload.to c.in-Payload.used c.args.buffer.now c.read.new.buffer frame.place.1 frame.beyond

pub returns-in_default : goal.returns-in_default
returns-in_default c = record {
  used = omega arith;
  rest =
      stays-idle c.args.receiver.now c.read.new.self c.args.buffer.now c.read.new.buffer c.read.result
      (λ from to used e. c.in_default.not-Payload from to used e) (λ used e. c.in_default.not-End used e) c.read.ensures.opened;
  room = omega (arith, c.requires.room);
  reads =
      λ v s matches. reads-idle v s c.args.buffer.now c.read.new.buffer c.args.out.now.items c.read.new.self c.read.result
      (λ from to used e. c.in_default.not-Payload from to used e) (λ used e. c.in_default.not-End used e) (c.read.ensures.reads v s matches);
}
