use Rattle.std.proofs.Common.{rules}
use Rattle.noise_names.proofs.Lengths.{key_by-seen_of}
use Rattle.noise_names.proofs.valid.ValidPattern.has_key.Goals as goal

pub returns : goal.returns
returns c = record {
  value =
      search (rules, key_by-seen_of);
}
