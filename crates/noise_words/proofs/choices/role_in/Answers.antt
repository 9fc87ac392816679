use Rattle.std.proofs.Common.{◌≡◌, ◌∙◌, ap, sym, Some, None, codes}
use Rattle.clap.specs.Walk.{Text}
use Rattle.noise_words.specs.CommandLine.{chosen_of, role_choice}
use Rattle.noise_words.proofs.CommandLineLemmas.{choice_in-found, chosen_of-other}
use Rattle.noise_words.proofs.choices.role_in.Goals as goal

pub returns-in-None : goal.returns-in-None
returns-in-None c = choice_in-found c.args.found.now role_choice None c.in-None.ensures

pub returns-in-Some-initiator : goal.returns-in-Some-initiator
returns-in-Some-initiator c =
    let given = c.in-Some-initiator.field-0.now in
    let same : given ≡ codes "initiator" = c.in-Some-initiator.is-initiator in
    ap (λ (text : Text). chosen_of role_choice.1 (Some text)) (sym same) ∙ choice_in-found c.args.found.now role_choice (Some given) c.in-Some-initiator.ensures

pub returns-in-Some-responder : goal.returns-in-Some-responder
returns-in-Some-responder c =
    let given = c.in-Some-responder.field-0.now in
    let same : given ≡ codes "responder" = c.in-Some-responder.is-responder in
    ap (λ (text : Text). chosen_of role_choice.1 (Some text)) (sym same) ∙ choice_in-found c.args.found.now role_choice (Some given) c.in-Some-responder.ensures

pub returns-in-Some : goal.returns-in-Some
returns-in-Some c =
    let given = c.in-Some.field-0.now in
    chosen_of-other (codes "initiator") (codes "responder") given c.in-Some.not-initiator c.in-Some.not-responder
    ∙ choice_in-found c.args.found.now role_choice (Some given) c.in-Some.ensures
