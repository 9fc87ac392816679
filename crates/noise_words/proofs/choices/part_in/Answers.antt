use Rattle.std.proofs.Common.{◌≡◌, ◌∙◌, ap, sym, Some, None, codes}
use Rattle.clap.specs.Walk.{Text}
use Rattle.noise_words.specs.CommandLine.{chosen_of, part_choice}
use Rattle.noise_words.proofs.CommandLineLemmas.{choice_in-found, chosen_of-other}
use Rattle.noise_words.proofs.choices.part_in.Goals as goal

pub returns-in-None : goal.returns-in-None
returns-in-None c = choice_in-found c.args.found.now part_choice None c.in-None.ensures

pub returns-in-Some-handshake : goal.returns-in-Some-handshake
returns-in-Some-handshake c =
    let given = c.in-Some-handshake.field-0.now in
    let same : given ≡ codes "handshake" = c.in-Some-handshake.is-handshake in
    ap (λ (text : Text). chosen_of part_choice.1 (Some text)) (sym same) ∙ choice_in-found c.args.found.now part_choice (Some given) c.in-Some-handshake.ensures

pub returns-in-Some-transport : goal.returns-in-Some-transport
returns-in-Some-transport c =
    let given = c.in-Some-transport.field-0.now in
    let same : given ≡ codes "transport" = c.in-Some-transport.is-transport in
    ap (λ (text : Text). chosen_of part_choice.1 (Some text)) (sym same) ∙ choice_in-found c.args.found.now part_choice (Some given) c.in-Some-transport.ensures

pub returns-in-Some : goal.returns-in-Some
returns-in-Some c =
    let given = c.in-Some.field-0.now in
    chosen_of-other (codes "handshake") (codes "transport") given c.in-Some.not-handshake c.in-Some.not-transport
    ∙ choice_in-found c.args.found.now part_choice (Some given) c.in-Some.ensures
