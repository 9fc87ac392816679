use Rattle.std.proofs.Common.{rules}
use Rattle.std.specs.Prelude.{decimal}
use Rattle.noise_vectors.proofs.Common.{lengths_word}
use Rattle.noise_vectors.proofs.EventLemmas.{number-word}
use Rattle.noise_vectors.proofs.events.read_delivery.Goals as goal

pub returns-in_err-number-clause-every : goal.returns-in_err-number-clause-every
returns-in_err-number-clause-every c = λ number cuts small h e.
    absurd (c.in_err-number.ensures.every (decimal number) (lengths_word cuts) (number-word number small) e tt)

pub returns-in_err-read_frame_number-clause-every : goal.returns-in_err-read_frame_number-clause-every
returns-in_err-read_frame_number-clause-every c = search (rules, number-word)

pub returns-in_err-read_cuts-clause-every : goal.returns-in_err-read_cuts-clause-every
returns-in_err-read_cuts-clause-every c = search (rules, number-word)
