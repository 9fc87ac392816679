use Rattle.std.proofs.Common.{◌≡◌, [], get_or, sym, refl, arith}
use Rattle.noise_c.specs.PatternInfo.{numbers_of}
use Rattle.noise_c.proofs.pattern_info.row.Goals as goal

pub returns-in-None : goal.returns-in-None
unfolding numbers_of
returns-in-None c =
    let empty : get_or c.args.messages.now c.args.place [] ≡ [] = sym (c.in-None.ensures.lookup.4 (omega arith) []) in
    rw empty refl
