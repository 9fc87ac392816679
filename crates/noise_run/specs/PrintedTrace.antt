-- The lines that `trace` prints of a key schedule: twelve words in each, and a hyphen where there is nothing.
use Rattle.std.specs.Prelude.{ℕ, ◌+◌, List, [], ◌∷◌, Bool, true, Option, None, Some, codes, decimal, slice_range}
use Rattle.noise_names.specs.declared.token.Role.{Role}
use Rattle.noise_names.specs.declared.token.Role.TheVariants.{Initiator, Responder}
use Rattle.noise_names.specs.declared.token.Token.{Token}
use Rattle.noise_names.specs.declared.token.Token.TheVariants.{E, S, Psk}
use Rattle.noise_names.specs.Text.{word_of}
use Rattle.noise_trace.specs.declared.start_step.StartPart.{StartPart}
use Rattle.noise_trace.specs.declared.start_step.StartPart.TheVariants as start
use Rattle.noise_trace.specs.declared.start_step.StartStep.{StartStep}
use Rattle.noise_trace.specs.declared.step.Part.{Part}
use Rattle.noise_trace.specs.declared.step.Part.TheVariants as part
use Rattle.noise_trace.specs.declared.step.Step.{Step}
use Rattle.noise_trace.specs.declared.values.StateValues.{StateValues}
use Rattle.noise_lines.specs.Lines.{line_of}
use Rattle.noise_vectors.specs.HexWord.{hex_of}
use Rattle.noise_vectors.specs.VectorText.{role_word}
use Rattle.noise_run.specs.declared.trace_lines.About.{About}
use Rattle.noise_run.specs.declared.trace_lines.Act.{Act}
use Rattle.noise_run.specs.declared.trace_lines.Act.TheVariants.{Writes, Accepts, Refuses}

abbrev pub none_word : List ℕ
none_word = codes "-"

-- a line of this role and of a part of the run: `start`, a handshake message's number, `open`, `transport`, `datagrams`
abbrev pub trace_line : Role → List ℕ → List (List ℕ) → List ℕ
trace_line role where_it_is words = line_of (codes "trace" ∷ role_word role ∷ where_it_is ∷ words)

-- ---- the state (Noise 5.2)

abbrev pub state_key_word : Option (List ℕ) → List ℕ
state_key_word None = none_word
state_key_word (Some key) = hex_of key

-- the hash, the chaining key, the key and the nonce
abbrev pub state_words : StateValues → List (List ℕ)
state_words v = hex_of v.hash ∷ hex_of v.chaining_key ∷ state_key_word v.key ∷ decimal v.nonce ∷ []

-- ---- the start (Noise 5.3)

-- what mixes a public key: in a pattern with psk tokens an ephemeral key is mixed as a key too (Noise 9.2)
abbrev pub mix_word : Bool → Token → List ℕ
mix_word true E = codes "MixHash,MixKey"
mix_word _ _ = codes "MixHash"

abbrev pub pre_message_word : Role → Token → List ℕ
pre_message_word Initiator E = codes "initiator-e"
pre_message_word Initiator _ = codes "initiator-s"
pre_message_word Responder E = codes "responder-e"
pre_message_word Responder _ = codes "responder-s"

abbrev pub start_word : StartPart → List ℕ
start_word start.Name = codes "name"
start_word start.Prologue = codes "prologue"
start_word (start.Key party token) = pre_message_word party token

abbrev pub start_call_word : Bool → StartPart → List ℕ
start_call_word psks start.Name = codes "InitializeSymmetric"
start_call_word psks start.Prologue = codes "MixHash"
start_call_word psks (start.Key party token) = mix_word psks token

abbrev pub start_line : Role → Bool → ℕ → StartStep → List ℕ
start_line role psks number step = trace_line role (codes "start")
    (decimal number ∷ start_word step.part ∷ start_call_word psks step.part ∷ none_word ∷ none_word
    ∷ state_words step.state)

-- one line for each step, numbered from this number on
abbrev pub start_lines_from : Role → Bool → ℕ → List StartStep → List (List ℕ)
start_lines_from role psks number [] = []
start_lines_from role psks number (s ∷ more) =
    start_line role psks number s ∷ start_lines_from role psks (number + 1) more

-- ---- a handshake message (Noise 5.3)

abbrev pub part_word : Part → List ℕ
part_word part.Payload = codes "payload"
part_word (part.Token token) = word_of token

-- what a static key or a payload goes through
abbrev pub cipher_word : Act → List ℕ
cipher_word Writes = codes "EncryptAndHash"
cipher_word Accepts = codes "DecryptAndHash"
cipher_word Refuses = codes "DecryptAndHash"

abbrev pub token_call_word : Bool → Act → Token → List ℕ
token_call_word psks act E = mix_word psks E
token_call_word psks act S = cipher_word act
token_call_word psks act Psk = codes "MixKeyAndHash"
token_call_word psks act _ = codes "MixKey"

abbrev pub call_word : Bool → Act → Part → List ℕ
call_word psks act part.Payload = cipher_word act
call_word psks act (part.Token token) = token_call_word psks act token

-- step i of a message: where its bytes begin in the message, and these bytes
abbrev pub step_line : About → List ℕ → ℕ → Step → List ℕ
step_line about message i step = trace_line about.role (decimal about.number)
    (decimal i ∷ part_word step.part ∷ call_word about.psks about.act step.part ∷ decimal step.from
    ∷ hex_of (slice_range message step.from step.to) ∷ state_words step.state)

abbrev pub step_lines_from : About → List ℕ → ℕ → List Step → List (List ℕ)
step_lines_from about message i [] = []
step_lines_from about message i (s ∷ more) = step_line about message i s ∷ step_lines_from about message (i + 1) more

-- ---- after the handshake (Noise 5.2)

-- the transport key of the messages that a party writes, with the hash and the chaining key that it comes of
abbrev pub opening_line : Role → ℕ → Role → StateValues → List ℕ → List ℕ
opening_line role number writer v key = trace_line role (codes "open")
    (decimal number ∷ role_word writer ∷ codes "Split" ∷ none_word ∷ none_word
    ∷ hex_of v.hash ∷ hex_of v.chaining_key ∷ hex_of key ∷ codes "0" ∷ [])

-- both, the initiator's first
abbrev pub opening_lines : Role → StateValues → List ℕ → List ℕ → List (List ℕ)
opening_lines role v initiator responder =
    opening_line role 0 Initiator v initiator ∷ opening_line role 1 Responder v responder ∷ []

-- what has come of a transport message, and what it goes through
abbrev pub act_word : Act → List ℕ
act_word Writes = codes "sent"
act_word Accepts = codes "opened"
act_word Refuses = codes "dropped"

abbrev pub transport_call_word : Act → List ℕ
transport_call_word Writes = codes "EncryptWithAd"
transport_call_word Accepts = codes "DecryptWithAd"
transport_call_word Refuses = codes "DecryptWithAd"

-- a key of the transport and a nonce, and what is done with them
abbrev pub transport_line : Role → List ℕ → List ℕ → List ℕ → ℕ → List ℕ
transport_line role name call key nonce = trace_line role (codes "transport")
    (none_word ∷ name ∷ call ∷ none_word ∷ none_word ∷ none_word ∷ none_word ∷ hex_of key ∷ decimal nonce ∷ [])

-- a key of the datagrams
abbrev pub datagram_key_line : Role → ℕ → Role → List ℕ → List ℕ
datagram_key_line role number writer key = trace_line role (codes "datagrams")
    (decimal number ∷ role_word writer ∷ none_word ∷ none_word ∷ none_word ∷ none_word ∷ none_word
    ∷ hex_of key ∷ none_word ∷ [])

-- both, the initiator's first
abbrev pub datagram_key_lines : Role → List ℕ → List ℕ → List (List ℕ)
datagram_key_lines role initiator responder =
    datagram_key_line role 0 Initiator initiator ∷ datagram_key_line role 1 Responder responder ∷ []
