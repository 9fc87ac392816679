use Rattle.std.proofs.Common.{◌≡◌, ◌+◌, rules, arith, ap}
use Rattle.noise_c.specs.declared.structs.NoiseStreamResult.{NoiseStreamResult}
use Rattle.noise_c.proofs.Received.{after-used, reads-still}
use Rattle.noise_c.proofs.reading.read_frame_to.Goals as goal

pub returns-in-Ok-clause-rest : goal.returns-in-Ok-clause-rest
returns-in-Ok-clause-rest c =
    let call = c.noise_stream_read-code in
    let place = call.ensures.place.payload c.in-0.is in
    let used : call.new.results.used ≡ call.new.results.len + 18 = ap (λ (r : NoiseStreamResult). r.used) place.0 in
    after-used (2 + call.new.results.len) call.new.results.used c.args.buffer.now call.new.buffer (omega (arith, used)) (call.ensures.beyond c.in-0.is).1

pub returns-in_default-clause-reads : goal.returns-in_default-clause-reads
returns-in_default-clause-reads c v s matches =
    let call = c.noise_stream_read-code in
    let other = c.in_default in
    let known = c.requires.known in
    let usable = call.ensures.unusable in
    reads-still v s c.args.buffer.now call.new.buffer c.args.out.now.items call.new.results call.new.stream call.result
    (λ e. first_of (omega arith, grind arith, search rules)) (λ e. first_of (omega arith, grind arith, search rules))
    (call.ensures.reads (λ e. let f = usable.0 e in cc) v s matches)
