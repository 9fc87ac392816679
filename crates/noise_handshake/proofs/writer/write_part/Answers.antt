use Rattle.std.proofs.Common.{◌≡◌, ℕ, ◌+◌, List, length, refl, arith, length-take}
use Rattle.noise_handshake.proofs.Common.{keyed}
use Rattle.noise_handshake.proofs.Tags.{sealed_len-tag}
use Rattle.noise_handshake.proofs.Written.{rest-unchanged}
use Rattle.noise_handshake.proofs.writer.write_part.Goals as goal

pub returns-clause-beyond : goal.returns-clause-beyond
returns-clause-beyond c =
    let put : List ℕ = c.put-len.new.out in
    let new : List ℕ = c.encrypt_and_hash.new.buf in
    let len : ℕ = c.put-len.result in
    let tag : ℕ = c.tag_width.result in
    let same : length new ≡ len + tag = omega (arith, length-take (len + tag) put, c.tag_width.ensures) in
    let n : c.in-Ok.width ≡ len + tag = omega (arith, c.in-Ok.ensures.encrypts.1, sealed_len-tag (keyed c.args.state.now) len, c.tag_width.ensures) in
    rest-unchanged c.args.out.now put new len tag (len + tag) c.in-Ok.width refl n same c.put-len.ensures.beyond
