use Rattle.std.proofs.Common.{rules}
use Rattle.noise_vectors.proofs.Common.{hex_of, lengths_word}
use Rattle.noise_vectors.proofs.EventLemmas.{payload-word}
use Rattle.noise_vectors.proofs.events.read_say.Goals as goal

pub returns-in_default-clause-every : goal.returns-in_default-clause-every
returns-in_default-clause-every c = λ payload cuts short h e.
    absurd (c.in_default.ensures.every (hex_of payload) (lengths_word cuts) (payload-word payload short) e tt)

pub returns-in_default-read_cuts-clause-every : goal.returns-in_default-read_cuts-clause-every
returns-in_default-read_cuts-clause-every c = search (rules, payload-word)

pub returns-in_default-2-clause-every : goal.returns-in_default-2-clause-every
returns-in_default-2-clause-every c = search (rules, payload-word)
