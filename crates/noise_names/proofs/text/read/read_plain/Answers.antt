use Rattle.std.proofs.Common.{sym, ◌∙◌, ap}
use Rattle.std.specs.Prelude.{Some}
use Rattle.noise_names.proofs.Common.{Plan}
use Rattle.noise_names.proofs.Reading.{known-same}
use Rattle.noise_names.proofs.text.read.read_plain.Goals as goal

pub returns-in-Some-clause-every : goal.returns-in-Some-clause-every
returns-in-Some-clause-every c =
    λ p h same e. ap (λ (q : Plan). Some q) (known-same p c.in-Some.known c.args.base.now h same (sym c.fundamental.ensures.value ∙ c.in-Some.is))
