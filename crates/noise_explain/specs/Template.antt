-- The vector file that a handshake of a pattern needs, with what is given for its places, and else a placeholder.
use Rattle.std.specs.Prelude.{◌≡◌, ℕ, ◌+◌, ◌==◌, Bool, List, [], ◌∷◌, ◌++◌, Option, Some, None, codes, length, map, if◌then◌else◌}
use Rattle.std.specs.Bool.{nat_eq}
use Rattle.std.specs.List.{list_any, starts_with}
use Rattle.noise_names.specs.declared.token.Role.{Role}
use Rattle.noise_names.specs.declared.token.Role.TheVariants.{Initiator, Responder}
use Rattle.noise_names.specs.declared.token.Token.{Token}
use Rattle.noise_names.specs.declared.token.Token.TheVariants.{Ee, Es, Se, Ss}
use Rattle.noise_names.specs.Tokens.{other, same_token}
use Rattle.noise_names.specs.Names.{Section, name_bytes}
use Rattle.noise_names.specs.Fundamental.{fundamental_of}
use Rattle.noise_names.specs.Limits.{IsPattern}
use Rattle.noise_names.specs.Plan.{Plan, places_of}
use Rattle.noise_names.specs.Validity.{is_among}
use Rattle.noise_keys.specs.declared.keys.Own.{Own}
use Rattle.noise_keys.specs.declared.keys.Own.TheVariants.{Ephemeral, Static}
use Rattle.noise_keys.specs.Table as table
use Rattle.noise_keys.specs.KeyTokens.{own_at, token_of}
use Rattle.noise_events.specs.Events.{Say, events_of}
use Rattle.noise_vectors.specs.HexWord.{hex_of}
use Rattle.noise_vectors.specs.SameFile.{cuts_of}
use Rattle.noise_vectors.specs.VectorFile.{IsVectorFile}
use Rattle.noise_vectors.specs.VectorText.{block_text, key_words, lengths_word, lines_of, party_text, psk_words, role_word, file_text}
use Rattle.noise_vectors.specs.declared.file_keys.FileKeys.TheVariants.{Table}
use Rattle.noise_vectors.specs.declared.vector.VectorFile.{VectorFile}
use Rattle.noise_vectors.specs.declared.vector.Version.TheVariants.{One}
use Rattle.noise_explain.specs.Values.{value_in}
use Rattle.noise_explain.specs.declared.values.Given.{Given}
use Rattle.noise_explain.specs.declared.values.Place.TheVariants.{Prologue, Key, Dh, Psk, Payload}

-- a word of the command line that is a protocol name, and no file's (Noise, 8)
abbrev pub names_protocol : List ℕ → Bool
names_protocol word = starts_with nat_eq word (codes "Noise_")

-- ---- what a pattern needs

-- a party's public key, where the pattern has a token that sends it, pre-messages counted
abbrev pub template_key : List Given → Plan → Role → Own → Option (List ℕ)
template_key given p role own =
    if is_among role (token_of own) (places_of p) then Some (value_in given (Key role own)) else None

-- whether a message has the token
abbrev pub occurs_in : Token → List (List Token) → Bool
occurs_in t messages = list_any (λ tokens. list_any (λ u. same_token u t) tokens) messages

-- the answer of a party to a DH token: of its own key pair and the other's public key, the same at both
abbrev pub entry : List Given → Role → Token → table.TableEntry
entry given role t = record {
  own = own_at role t;
  remote = value_in given (Key (other role) (own_at (other role) t));
  answer = value_in given (Dh t);
}

-- the same, where a message has the token
abbrev pub entries_for : List Given → Plan → Role → Token → List table.TableEntry
entries_for given p role t = if occurs_in t p.messages then entry given role t ∷ [] else []

-- a party's public keys, and an answer for each DH token of the messages
abbrev pub template_keys : List Given → Plan → Role → table.Table
template_keys given p role = record {
  e = template_key given p role Ephemeral;
  s = template_key given p role Static;
  entries = entries_for given p role Ee ++ entries_for given p role Es ++ entries_for given p role Se
      ++ entries_for given p role Ss;
}

-- the psk of an index
abbrev pub psk_at : List Given → ℕ → List ℕ
psk_at given index = value_in given (Psk index)

-- who writes a payload, by the number of the payload
abbrev pub Turn : Type 0
Turn = ℕ × Role

-- the turns of these messages, of which the party writes the first, and that has this number
abbrev pub writers : ℕ → Role → List (List Token) → List Turn
writers number party [] = []
writers number party (_ ∷ more) = (number, party) ∷ writers (number + 1) (other party) more

-- who speaks: the writer of each message, and then each party once, the responder only where it has written (7.4)
abbrev pub speakers : List (List Token) → List Turn
speakers messages =
    writers 1 Initiator messages
    ++ (length messages + 1, Initiator) ∷ (if length messages == 1 then [] else (length messages + 2, Responder) ∷ [])

-- the payload of a turn
abbrev pub payload_at : List Given → Turn → List ℕ
payload_at given turn = value_in given (Payload turn.0)

-- the pattern, unless it is the fundamental one of its base
abbrev pub unless_known : Option Plan → Plan → Option Plan
unless_known None p = Some p
unless_known (Some _) p = None

abbrev pub name_of : Plan → Section
name_of p = record { base = p.base; places = p.places }

-- ---- the file

-- the file says what a handshake of the pattern needs
pub record IsTemplate (given : List Given) (p : Plan) (file : VectorFile) : Type 0 where
  pub protocol : file.protocol ≡ name_of p
  pub block : file.block ≡ unless_known (fundamental_of p.base) p
  pub prologue : file.prologue.items ≡ value_in given Prologue
  pub interval : file.interval ≡ 0
  pub psks : file.psks.items ≡ map (psk_at given) p.places
  pub initiator : file.initiator ≡ Table (template_keys given p Initiator)
  pub responder : file.responder ≡ Table (template_keys given p Responder)
  pub events : events_of file.events.items ≡ map (λ turn. Say turn.1 (payload_at given turn)) (speakers p.messages)
  pub cuts : map cuts_of file.events.items ≡ map (λ turn. []) (speakers p.messages)
  pub version : file.version ≡ One

-- the text is that of a right vector file which says what a handshake of the pattern needs
pub record IsTemplateText (given : List Given) (p : Plan) (text : List ℕ) : Type 0 where
  pub pattern : IsPattern p
  pub file : VectorFile
  pub right : IsVectorFile file
  pub is : IsTemplate given p file
  pub spelled : text ≡ file_text file

-- ---- its text

-- the lines before the psks
abbrev pub head_text : List Given → Plan → List ℕ
head_text given p = codes "vector 1\nprotocol " ++ name_bytes (name_of p) ++ codes "\n"
    ++ block_text (unless_known (fundamental_of p.base) p) []
    ++ codes "prologue " ++ hex_of (value_in given Prologue) ++ codes "\ninterval 0\n"

abbrev pub psks_text : List Given → List ℕ → List ℕ
psks_text given places = lines_of psk_words (map (psk_at given) places) []

-- a message with the payload of its turn, in one piece
abbrev pub say_words : List Given → Turn → List ℕ
say_words given turn =
    codes "say " ++ (role_word turn.1 ++ 32 ∷ (hex_of (payload_at given turn) ++ 32 ∷ lengths_word []))

abbrev pub keys_text : List Given → Plan → Role → List ℕ
keys_text given p role = party_text role (Table (template_keys given p role)) []

-- the line of a party's keys
abbrev pub keys_line : List Given → Plan → Role → List ℕ
keys_line given p role =
    role_word role
    ++ (codes " table " ++ key_words (template_key given p role Ephemeral) (template_key given p role Static)) ++ 10 ∷ []

abbrev pub template_text : List Given → Plan → List ℕ
template_text given p =
    head_text given p ++ psks_text given p.places ++ keys_text given p Initiator ++ keys_text given p Responder
    ++ lines_of (say_words given) (speakers p.messages) []
