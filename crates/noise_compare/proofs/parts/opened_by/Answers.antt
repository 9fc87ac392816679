use Rattle.std.proofs.Common.{◌++◌, ◌∙◌, ℕ, List, ap}
use Rattle.std.proofs.lemmas.Bool.{false≢true}
use Rattle.noise_compare.proofs.parts.opened_by.Goals as goal

pub returns-in-Err-clause-none : goal.returns-in-Err-clause-none
returns-in-Err-clause-none c = λ text e.
    false≢true (c.in-Err.ensures.accepts.1
    (text, ap (λ (front : List ℕ). front ++ c.args.tag.now) (c.deref_mut.ensures.value ∙ c.in_ok-text.ensures.items) ∙ e))
