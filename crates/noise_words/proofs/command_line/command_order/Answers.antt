use Rattle.std.proofs.Common.{sym}
use Rattle.clap.specs.Walk.{rows_of}
use Rattle.clap.specs.Matches.{found_of}
use Rattle.noise_words.proofs.CommandLineLemmas.{stated_by-unknown}
use Rattle.noise_words.proofs.command_line.command_order.Goals as goal

pub returns-in_default : goal.returns-in_default
returns-in_default c = λ other explain compare template.
    sym (stated_by-unknown c.args.name.now (rows_of (found_of c.args.found.now)) c.in_default.not-list c.in_default.not-show c.in_default.not-check
    template c.in_default.not-talk c.in_default.not-replay c.in_default.not-convert other c.in_default.not-trace explain compare)
