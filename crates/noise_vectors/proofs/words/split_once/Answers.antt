use Rattle.noise_vectors.proofs.WordLemmas.{lacks-front, lacks-no_place, no-place, parted, parts-at, place-first}
use Rattle.noise_vectors.proofs.words.split_once.Goals as goal

pub returns-in_err-place-clause-every : goal.returns-in_err-place-clause-every
returns-in_err-place-clause-every c = λ before after h e.
    absurd (no-place c.args.separator c.args.text.now before after c.in_err-place.ensures h e)

pub returns-clause-every : goal.returns-clause-every
returns-clause-every c = λ before after h e.
    parted c.args.separator c.args.text.now before after c.in_ok-place.place e
    (place-first c.args.separator c.args.text.now before after c.in_ok-place.place c.in_ok-place.ensures h e)

pub returns-clause-parts : goal.returns-clause-parts
returns-clause-parts c = parts-at c.args.separator c.args.text.now c.in_ok-place.place c.in_ok-place.ensures

pub returns-clause-first : goal.returns-clause-first
returns-clause-first c = lacks-front c.args.separator c.args.text.now c.in_ok-place.place c.in_ok-place.ensures

pub returns-in_err-place-clause-none : goal.returns-in_err-place-clause-none
returns-in_err-place-clause-none c = λ e. lacks-no_place c.args.separator c.args.text.now c.in_err-place.ensures
