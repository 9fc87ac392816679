use Rattle.std.proofs.Common.{◌≡◌, ◌∙◌, ap, sym, Some, None, codes}
use Rattle.clap.specs.Walk.{Text}
use Rattle.noise_words.specs.CommandLine.{flag_of}
use Rattle.noise_words.proofs.CommandLineLemmas.{flag_in-found, flag_of-other}
use Rattle.noise_words.proofs.choices.is_given.Goals as goal

pub returns-in-Some-true : goal.returns-in-Some-true
returns-in-Some-true c =
    let given = c.in-Some-true.field-0.now in
    let same : given ≡ codes "true" = c.in-Some-true.is-true in
    ap (λ (text : Text). flag_of (Some text)) (sym same) ∙ flag_in-found c.args.found.now c.args.name.now (Some given) c.in-Some-true.ensures

pub returns-in-Some : goal.returns-in-Some
returns-in-Some c =
    let given = c.in-Some.field-0.now in
    flag_of-other given c.in-Some.not-true ∙ flag_in-found c.args.found.now c.args.name.now (Some given) c.in-Some.ensures

pub returns-in-None : goal.returns-in-None
returns-in-None c = flag_in-found c.args.found.now c.args.name.now None c.in-None.ensures
