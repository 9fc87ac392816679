use Rattle.noise_tool.proofs.PatternNameLemmas.{shown-word}
use Rattle.noise_tool.proofs.pattern_names.show_word.Goals as goal

pub returns-clause-shown : goal.returns-clause-shown
returns-clause-shown c =
    shown-word c.show.result c.args.word.now c.in_ok-name.name.items c.in_ok-name.ensures (rw c.deref.ensures.value at c.show.ensures.shown)
