-- The document of a command, and its text.
use Rattle.std.specs.Prelude.{ℕ, List, [], ◌∷◌, ◌++◌, codes}
use Rattle.serde_json.specs.Data.{Data, string, number, unsigned, object, Members}
use Rattle.serde_json.specs.Written.{compact_text}
use Rattle.noise_json.specs.Values.{with, lines_data}

-- the facts, with the version of the form, the command, its exit status, and the lines that it prints without --json
unfoldable pub document : List ℕ → ℕ → List ℕ → Members → Data
document command status text facts =
    object (with (codes "text") (lines_data text) (with (codes "status") (number (unsigned status))
    (with (codes "command") (string command) (with (codes "version") (number (unsigned 1)) facts))))

-- a document with no space, and an LF
unfoldable pub document_text : Data → List ℕ
document_text it = compact_text it ++ 10 ∷ []
