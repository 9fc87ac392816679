-- What an explanation says of a valid pattern: all its lines below the first.
use Rattle.std.specs.Prelude.{ℕ, zero, suc, ◌+◌, ◌-◌, Bool, true, false, List, [], ◌++◌, codes, flat_map, length, slice_index_or, if◌then◌else◌}
use Rattle.noise_names.specs.declared.token.Role.{Role}
use Rattle.noise_names.specs.declared.token.Role.TheVariants.{Initiator, Responder}
use Rattle.noise_names.specs.declared.token.Token.{Token}
use Rattle.noise_names.specs.declared.token.Token.TheVariants.{E, S}
use Rattle.noise_names.specs.Overhead.{has_key}
use Rattle.noise_names.specs.Pieces.{places_to, tokens_of}
use Rattle.noise_names.specs.Plan.{Plan, first_places, is_one_way}
use Rattle.noise_names.specs.Tokens.{other}
use Rattle.noise_explain.specs.FactLines.{key_line, message_line, payload_line}
use Rattle.noise_explain.specs.FactWords.{again_text, enough_text, mixed_words, writer_text}
use Rattle.noise_explain.specs.FramePieces.{sender_of}
use Rattle.noise_explain.specs.MixedKeys.{mixed_before}
use Rattle.noise_explain.specs.Shown.{sentence_line}
use Rattle.noise_explain.specs.Parties.{chooses, is_fresh, is_unmixed, own_part, without_e}
use Rattle.noise_explain.specs.declared.facts.TheConstants.{INITIATOR_UNMIXED, NOTES, RESPONDER_UNMIXED, UNTAGGED}
use Rattle.noise_explain.specs.declared.mixed.Mixed.{Mixed}
use Rattle.noise_explain.specs.declared.parties.Part.{Part}
use Rattle.noise_explain.specs.declared.parties.Part.TheVariants.{Neither}

-- ---- keys

-- what is mixed into a key, and which private keys are enough to compute it
unfoldable pub key_text : Mixed → Role → Part → List ℕ
key_text m party part = mixed_words m ++ codes " mixed in. " ++ enough_text m party part ++ codes "\n"

-- the same of the key before token i of message n, which its reader may be taken for
unfoldable pub computed_text : Plan → ℕ → ℕ → List ℕ
computed_text p n i =
    key_text (mixed_before p (n - 1) i) (other (sender_of n))
    (own_part p (other (sender_of n)) (n - 1) (mixed_before p (n - 1) i))

-- the same, where there is a key
unfoldable pub if_keyed : Bool → List ℕ → List ℕ → List ℕ
if_keyed false front text = []
if_keyed true front text = front ++ text

-- ---- who can have written a message

-- the DHs for which an ephemeral key of the writer's choice isn't enough
abbrev pub rest_of : Plan → Role → ℕ → Mixed → Mixed
rest_of p writer k m = if chooses p writer E k then without_e writer m else m

-- Who can have written what a party has tagged after the first k messages (what 7.7 asks of its source), and whether a
-- recording of it is accepted by the other party, which its own e prevents (7.7, on replay).
unfoldable pub tagged_text : Plan → Role → ℕ → List ℕ
tagged_text p writer k =
    writer_text (mixed_before p k 0) (rest_of p writer k (mixed_before p k 0)) ++ codes "\n    a recording of it is "
    ++ again_text (other writer) (is_fresh p (other writer) k)
    ++ codes "\n"

-- the same of message n, which has a tag where there is a key after its tokens (5.2)
unfoldable pub origin_text : Plan → ℕ → List ℕ
origin_text p n = codes "    it can be written by "
    ++ (if has_key p (first_places p n) then tagged_text p (sender_of n) n else UNTAGGED.now)

-- ---- messages

-- the lines of token i of message n: only e and s are sent
unfoldable pub token_text : Plan → ℕ → ℕ → Token → List ℕ
token_text p n i E = key_line p n i E
token_text p n i S =
    key_line p n i S ++ if_keyed (has_key p (places_to p n i)) (codes "    key of s: ") (computed_text p n i)
token_text p n i _ = []

-- those of its first tokens
unfoldable pub tokens_text : Plan → ℕ → ℕ → List ℕ
tokens_text p n zero = []
tokens_text p n (suc i) = tokens_text p n i ++ token_text p n i (slice_index_or (tokens_of p n) i E)

-- those of its payload, after so many tokens
unfoldable pub payload_text : Plan → ℕ → ℕ → List ℕ
payload_text p n count =
    payload_line p n count
    ++ if_keyed (has_key p (places_to p n count)) (codes "    key of payload: ") (computed_text p n count)

unfoldable pub message_text : Plan → ℕ → List ℕ
message_text p n =
    message_line p n ++ tokens_text p n (length (tokens_of p n)) ++ payload_text p n (length (tokens_of p n))
    ++ origin_text p n

unfoldable pub messages_text : Plan → ℕ → List ℕ
messages_text p zero = []
messages_text p (suc k) = messages_text p k ++ message_text p (k + 1)

-- ---- the transport

abbrev pub transport_line : Bool → List ℕ
transport_line true = codes "  transport, of the initiator alone\n    key of a recording: "
transport_line false = codes "  transport, of both parties\n    key of a recording: "

-- the responder's, unless the pattern is one-way (7.4)
unfoldable pub responder_messages_text : Bool → Plan → List ℕ
responder_messages_text true p = []
responder_messages_text false p = codes "    the responder's can be written by "
    ++ tagged_text p Responder (length p.messages)

unfoldable pub transport_text : Plan → List ℕ
transport_text p =
    transport_line (is_one_way p) ++ key_text (mixed_before p (length p.messages) 0) Responder Neither
    ++ codes "    the initiator's can be written by "
    ++ tagged_text p Initiator (length p.messages)
    ++ responder_messages_text (is_one_way p) p

-- ---- the whole

abbrev pub unmixed_line : Role → List ℕ
unmixed_line Initiator = INITIATOR_UNMIXED.now
unmixed_line Responder = RESPONDER_UNMIXED.now

unfoldable pub unmixed_text : Plan → Role → List ℕ
unmixed_text p party =
    if is_unmixed p party (mixed_before p (length p.messages) 0) then unmixed_line party else []

unfoldable pub facts_text : Plan → List ℕ
facts_text p =
    messages_text p (length p.messages) ++ transport_text p ++ unmixed_text p Initiator ++ unmixed_text p Responder
    ++ flat_map (λ note. sentence_line note.now) NOTES
