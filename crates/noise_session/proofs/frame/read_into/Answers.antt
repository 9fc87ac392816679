use Rattle.std.proofs.Common.{rules, ◌≡◌, ◌≤◌, ◌+◌, ℕ, List, ◌++◌, length, take, ap, arith, length-append}
use Rattle.std.proofs.lemmas.List.{take-append-le}
use Rattle.std.proofs.lemmas.Grind.{common_steps}
use Rattle.noise_session.proofs.Common.{length-take-le, take-take}
use Rattle.noise_session.proofs.Growing.{front-read}
use Rattle.noise_session.proofs.frame.read_into.Goals as goal

-- the front of a buffer after a reading into a part of it
front-of : (items old read post rest : List ℕ) (at n len : ℕ) → old ≡ items → at + n ≤ len → at ≤ length old → n ≤ length read
    → take (at + n) (take len ((take at old ++ (read ++ post)) ++ rest)) ≡ take at items ++ take n read
front-of items old read post rest at n len is long within fits = search (rules, length-take-le, take-take, take-append-le, length-append, front-read)

pub returns-clause-bytes : goal.returns-clause-bytes
returns-clause-bytes g c =
    let n = c.fill_from.result.0 in
    let read = c.fill_from.new.buffer in
    let fits : n ≤ length read = c.fill_from.ensures.within in
    let vec = c.args.buffer.now.ok.0 in
    let order : c.args.start ≤ c.args.end = c.requires.order in
    let room : c.args.end ≤ length c.args.buffer.now.items = c.requires.room in
    let lent : length c.deref_mut.result.now ≡ length c.args.buffer.now.items = ap (λ (xs : List ℕ). length xs) c.deref_mut.ensures.value in
    let within : c.args.start + n ≤ c.args.buffer.now.len = first_of (omega arith, grind (arith, common_steps)) in (
      take n read,
      c.fill_from.ensures.bytes,
      length-take-le n read fits,
      front-of c.args.buffer.now.items c.deref_mut.result.now read _ _ c.args.start
          n c.args.buffer.now.len c.deref_mut.ensures.value (omega arith) (omega arith) fits,
    )
