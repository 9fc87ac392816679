use Rattle.noise_explain.proofs.WordFaultLemmas.{key-digits}
use Rattle.noise_explain.proofs.word_faults.key_fault.Goals as goal

pub returns-in-Count : goal.returns-in-Count
returns-in-Count c = λ h. (c.in-Count.ensures, λ len. h.wrong (key-digits c.args.word.now c.in-Count.ensures len))
