use Rattle.std.proofs.Common.{rules, ◌≢◌, ◌∙◌, ap, sym, codes, option_map, List}
use Rattle.clap.specs.Walk.{Row, rows_of}
use Rattle.clap.specs.Matches.{found_of}
use Rattle.clap.specs.Simple.{subcommand_rows_of}
use Rattle.noise_words.specs.CommandLine.{words_of}
use Rattle.noise_words.proofs.CommandLineLemmas.{stated_in-found, subcommand_name_of-rows}
use Rattle.noise_words.proofs.command_line.order.Goals as goal

pub returns-in-Some-2 : goal.returns-in-Some-2
returns-in-Some-2 c =
    let m = c.args.matches.now in
    let rows : List Row = rows_of (found_of c.in-Some.found.now) in
    let other : c.in-Some.name.now ≢ codes "test" = search rules in
    let explain : c.in-Some.name.now ≢ codes "explain" = search rules in
    let compare : c.in-Some.name.now ≢ codes "compare" = search rules in
    let template : c.in-Some.name.now ≢ codes "template" = search rules in
    ap (option_map words_of) (sym c.in-Some-2.is) ∙ c.in_ok-command.ensures other explain compare template
    ∙ sym (stated_in-found (subcommand_rows_of m) c.in-Some.name.now rows (c.in-Some.ensures.name ∙ subcommand_name_of-rows m) c.in-Some.ensures.rows)

pub returns-in-None : goal.returns-in-None
returns-in-None c =
    let m = c.args.matches.now in
    let rows : List Row = rows_of (found_of c.in-Some.found.now) in
    let other : c.in-Some.name.now ≢ codes "test" = search rules in
    let explain : c.in-Some.name.now ≢ codes "explain" = search rules in
    let compare : c.in-Some.name.now ≢ codes "compare" = search rules in
    let template : c.in-Some.name.now ≢ codes "template" = search rules in
    ap (option_map words_of) (sym c.in-None.is) ∙ c.in_ok-command.ensures other explain compare template
    ∙ sym (stated_in-found (subcommand_rows_of m) c.in-Some.name.now rows (c.in-Some.ensures.name ∙ subcommand_name_of-rows m) c.in-Some.ensures.rows)
