use Rattle.std.proofs.Common.{◌∙◌, ap, Some}
use Rattle.clap.specs.Matches.{found_of}
use Rattle.clap.proofs.WalkLemmas.{raw_values-rows}
use Rattle.noise_words.proofs.command_line.values.Goals as goal

pub returns-in_ok-strings-in-Some : goal.returns-in_ok-strings-in-Some
returns-in_ok-strings-in-Some c =
    ap Some c.in_ok-strings-in-Some.ensures ∙ c.in-Some.ensures ∙ raw_values-rows (found_of c.args.matches.now) c.args.id.now

pub returns-in-None : goal.returns-in-None
returns-in-None c = c.in-None.ensures ∙ raw_values-rows (found_of c.args.matches.now) c.args.id.now
