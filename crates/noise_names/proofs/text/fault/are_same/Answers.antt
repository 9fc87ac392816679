use Rattle.noise_names.proofs.Common.{slice_eq-Decides}
use Rattle.noise_names.proofs.Tokens.{token-Decides}
use Rattle.noise_names.proofs.text.fault.are_same.Goals as goal

pub returns : goal.returns
returns c = slice_eq-Decides token-Decides c.args.tokens.now c.args.others.now _ c.eq.ensures
