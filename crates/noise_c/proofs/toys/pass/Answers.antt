use Rattle.std.proofs.Common.{drop}
use Rattle.noise_c.proofs.Toying.{passes}
use Rattle.noise_c.proofs.toys.pass.Goals as goal

pub returns : goal.returns
returns c =
    let w = c.in_ok-len.ensures in
    let r = c.in_ok-place.ensures in
    let len = c.in_ok-len.len in
    let place = c.in_ok-place.place in
    passes c.args.keys.now c.args.their_keys.now c.args.payload.now c.write.new.out c.read.new.message (drop len c.write.new.out) len place.0 place.1
    c.args.from.now c.write.new.handshake c.args.to.now c.read.new.handshake w.1 r.0 r.1
