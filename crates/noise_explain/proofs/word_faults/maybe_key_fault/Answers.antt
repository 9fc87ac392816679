use Rattle.std.proofs.Common.{Some}
use Rattle.noise_explain.proofs.WordFaultLemmas.{key-digits}
use Rattle.noise_explain.proofs.word_faults.maybe_key_fault.Goals as goal

pub returns-in-Count : goal.returns-in-Count
returns-in-Count c = λ h.
    (c.in-Count.ensures, λ len. let key = key-digits c.args.word.now c.in-Count.ensures len in h.wrong (Some key.0, key.1, key.2))
