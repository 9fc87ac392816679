-- What is shown after a fault of a command line, and its exit status.
use Rattle.std.specs.Prelude.{Bool, true, false, List, [], ◌++◌, ℕ, codes}
use Rattle.clap.specs.declared.error.kind.ErrorKind.{ErrorKind}
use Rattle.clap.specs.declared.error.kind.ErrorKind.TheVariants.{DisplayHelp, DisplayVersion, MissingSubcommand, InvalidSubcommand}

-- three commands to begin with
abbrev pub first_commands : List ℕ
first_commands =
    codes "\nThree commands to begin with:\n  noise show XX\n  noise explain examples/patterns/broken.pattern\n"
    ++ codes "  noise test examples/vectors/xx.vector\n"

-- they are shown where the words name no command
abbrev pub next_commands : ErrorKind → List ℕ
next_commands MissingSubcommand = first_commands
next_commands InvalidSubcommand = first_commands
next_commands kind = []

-- 0 where help or the version is asked for, and was printed, and 3 where it couldn't be; and else 2
abbrev pub line_status : ErrorKind → Bool → ℕ
line_status DisplayHelp true = 0
line_status DisplayHelp false = 3
line_status DisplayVersion true = 0
line_status DisplayVersion false = 3
line_status kind printed = 2
