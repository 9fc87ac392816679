use Rattle.std.proofs.Common.{rules}
use Rattle.std.proofs.lemmas.List.Elements.{same_from_all_zip}
use Rattle.noise_theorems.proofs.ends.copy.Goals as goal

pub returns : goal.returns
returns c = search (rules, same_from_all_zip, c.in_ok-same.ensures.cases)
