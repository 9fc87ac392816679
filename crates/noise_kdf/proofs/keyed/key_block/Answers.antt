use Rattle.std.proofs.Common.{◌++◌, ℕ, List, ap, ◌∙◌, replicate, drop, length}
use Rattle.std.proofs.lemmas.List.{drop-replicate}
use Rattle.noise_kdf.proofs.keyed.key_block.Goals as goal

pub returns : goal.returns
returns c = record {
  value = ap (λ (front : List ℕ). front ++ drop (length c.args.key.now) (replicate 64 0)) c.copy_from_slice.ensures.after
      ∙ ap (λ (zeros : List ℕ). c.args.key.now ++ zeros) (drop-replicate (length c.args.key.now) 64 0);
}
