-- What is printed of lines that come through: the transcript and the payloads, and how far both ends have come then.
use Rattle.std.specs.Prelude.{ℕ, ◌+◌, nat_lt, List, [], ◌∷◌, ◌++◌, codes, decimal, drop, length, if◌then◌else◌}
use Rattle.noise_names.specs.declared.token.Role.{Role}
use Rattle.noise_names.specs.declared.token.Role.TheVariants.{Initiator, Responder}
use Rattle.noise_names.specs.Plan.{Plan}
use Rattle.noise_names.specs.Tokens.{other}
use Rattle.noise_session.specs.Frames.{frame}
use Rattle.noise_duel.specs.Conversation.{KeyMaterial, state_after_lines, messages_by}
use Rattle.noise_duel.specs.SetUpAlike.{material_of}
use Rattle.noise_theorems.specs.Setup.{BothStarts, transcript_of}
use Rattle.noise_vectors.specs.HexWord.{hex_of}
use Rattle.noise_vectors.specs.VectorText.{role_word}
use Rattle.noise_vectors.specs.declared.vector.VectorFile.{VectorFile}
use Rattle.noise_lines.specs.Lines.{line_of}
use Rattle.noise_run.specs.Ends.{file_start}
use Rattle.noise_run.specs.Running.{IsRunOf}
use Rattle.noise_transcript.specs.Fitting.{HasFittingMessages}

-- a frame that a role wrote, with its number among the frames of the role
abbrev pub wrote_line : Role → ℕ → List ℕ → List ℕ
wrote_line role n bytes = line_of (codes "wrote" ∷ role_word role ∷ decimal n ∷ hex_of bytes ∷ [])

-- a payload that a role accepted
abbrev pub payload_line : Role → List ℕ → List ℕ
payload_line role bytes = line_of (codes "payload" ∷ role_word role ∷ hex_of bytes ∷ [])

-- For each line: its role wrote its message as a frame, and the other role accepted its payload. The initiator's frames
-- are counted from i on, the responder's from j on.
abbrev pub exchange_lines : ℕ → ℕ → List (Role × List ℕ) → List (Role × List ℕ) → List (List ℕ)
exchange_lines i j ((Initiator, payload) ∷ lines) ((writer, message) ∷ messages) =
    wrote_line Initiator i (frame message) ∷ payload_line Responder payload ∷ exchange_lines (i + 1) j lines messages
exchange_lines i j ((Responder, payload) ∷ lines) ((writer, message) ∷ messages) =
    wrote_line Responder j (frame message) ∷ payload_line Initiator payload ∷ exchange_lines i (j + 1) lines messages
exchange_lines i j lines messages = []

-- How far a role's end has come after all lines: so many messages of the handshake have passed; or all of them have, it
-- has sent and received so many transport messages, and this is the handshake's hash (Noise 11.2).
abbrev pub reached_words : Plan → List (Role × List ℕ) → List ℕ → Role → List (List ℕ)
reached_words p lines h role =
    if nat_lt (length lines) (length p.messages)
    then codes "handshake" ∷ decimal (length lines) ∷ []
    else codes "transport" ∷ decimal (messages_by role (drop (length p.messages) lines))
    ∷ decimal (messages_by (other role) (drop (length p.messages) lines)) ∷ hex_of h ∷ []

abbrev pub reached_line : Plan → List (Role × List ℕ) → List ℕ → Role → List ℕ
reached_line p lines h role = line_of (codes "state" ∷ role_word role ∷ reached_words p lines h role)

-- what both parties of a file start from, and their key material
abbrev pub starts_in : VectorFile → Plan → BothStarts
starts_in file p = record { initiator = file_start file p Initiator; responder = file_start file p Responder }

abbrev pub material_in : VectorFile → Plan → KeyMaterial
material_in file p = material_of (file_start file p Initiator) (file_start file p Responder)

-- the hash of the handshake messages that have passed
abbrev pub hash_after : KeyMaterial → Plan → List ℕ → List (Role × List ℕ) → List ℕ
hash_after w p prologue lines = (state_after_lines w p prologue lines).hash

-- All lines that are printed of a file's lines: each message of the transcript, with its payload at the other end, and
-- then one for each end.
abbrev pub talked_lines : VectorFile → Plan → List (Role × List ℕ) → List (List ℕ)
talked_lines file p lines =
    exchange_lines 0 0 lines (transcript_of p (starts_in file p) file.interval lines)
    ++ reached_line p lines (hash_after (material_in file p) p file.prologue.items lines) Initiator
    ∷ reached_line p lines (hash_after (material_in file p) p file.prologue.items lines) Responder ∷ []

-- So it is of every file whose lines fit.
abbrev pub FittingMessagesRun : Type 0
FittingMessagesRun = (file : VectorFile) (p : Plan) (lines : List (Role × List ℕ))
    → HasFittingMessages file p lines → IsRunOf file (talked_lines file p lines)
