use Rattle.std.proofs.Common.{◌-◌, ◌∙◌, ℕ, List, refl, arith}
use Rattle.std.specs.Prelude.{replicate}
use Rattle.std.proofs.lemmas.List.{take-replicate}
use Rattle.std.proofs.lemmas.Slice.{take-put_mid_below}
use Rattle.noise_c.proofs.start.store_start.Goals as goal

abbrev zeros : List ℕ
zeros = replicate 32 0

pub returns-clause-blank : goal.returns-clause-blank
returns-clause-blank c =
    let n : ℕ = 9 - c.args.setup.now.psk_count in
    record {
      psks = take-put_mid_below n (9 - n) (replicate 9 zeros) _ n (omega arith) (omega arith) ∙ take-replicate n 9 zeros (omega arith);
      dh_results = refl;
    }
