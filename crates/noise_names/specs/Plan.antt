-- A handshake pattern as contracts see it (Noise, 7.1), and its places in order.
use Rattle.std.specs.Prelude.{ℕ, ◌+◌, ◌==◌, Bool, List, [], ◌∷◌, ◌++◌, length, map, take, if◌then◌else◌}
use Rattle.std.specs.List.{list_any}
use Rattle.noise_names.specs.declared.token.Role.{Role}
use Rattle.noise_names.specs.declared.token.Role.TheVariants.{Initiator, Responder}
use Rattle.noise_names.specs.declared.token.Token.{Token}
use Rattle.noise_names.specs.Tokens.{other, is_psk, own_tokens, turn_from}

-- A pattern: the base of its name, its psk places, what each party's pre-message has, and the tokens of each message
-- (7.1, 9.4).
pub record Plan : Type 0 where
  pub base : List ℕ
  pub places : List ℕ
  pub initiator : List Token
  pub responder : List Token
  pub messages : List (List Token)

-- the pattern of these parts
abbrev pub plan_of : List ℕ → List ℕ → List Token → List Token → List (List Token) → Plan
plan_of base places initiator responder messages = record {
  base = base;
  places = places;
  initiator = initiator;
  responder = responder;
  messages = messages;
}

-- the pre-message of a party (7.1)
abbrev pub pre_of : Role → Plan → List Token
pre_of Initiator p = p.initiator
pre_of Responder p = p.responder

-- the pattern without its psk tokens (9.4)
abbrev pub plain_of : Plan → Plan
plain_of p = record p { places = []; messages = map own_tokens p.messages }

-- whether a message has a psk token: a psk pattern (9.2)
abbrev pub has_psk : Plan → Bool
has_psk p = list_any (λ tokens. list_any is_psk tokens) p.messages

-- one message alone: a one-way pattern (7.4)
abbrev pub is_one_way : Plan → Bool
is_one_way p = length p.messages == 1

-- what a party does at a place: it processes a token, or it encrypts a payload or transport messages (5.3)
pub data Step : Type 0 where
  does : Token → Step
  payload : Step
  transport : Step

-- a place of a pattern: whose it is, what is done there, and the message and token that name it
pub record Place : Type 0 where
  pub party : Role
  pub step : Step
  pub message : ℕ
  pub token : ℕ

abbrev pub place : Role → Step → ℕ → ℕ → Place
place party step message token = record { party = party; step = step; message = message; token = token }

-- the places of a party's tokens in a message, numbered from i
abbrev pub token_places : Role → ℕ → ℕ → List Token → List Place
token_places party message i [] = []
token_places party message i (t ∷ ts) = place party (does t) message i ∷ token_places party message (i + 1) ts

-- the places of the messages, numbered from n: the tokens of each and then its payload, the parties in turn (5.3, 7.1)
abbrev pub message_places : Role → ℕ → List (List Token) → List Place
message_places party n [] = []
message_places party n (tokens ∷ more) =
    token_places party n 0 tokens ++ place party payload n (length tokens) ∷ message_places (other party) (n + 1) more

-- the transport of the initiator, and unless the pattern is one-way that of the responder (5.3, 7.4)
abbrev pub transport_places : Plan → List Place
transport_places p =
    place Initiator transport (length p.messages + 1) 0
    ∷ (if is_one_way p then [] else place Responder transport (length p.messages + 1) 1 ∷ [])

-- the pre-messages, which are message 0, then the messages, then the transport (5.3, 7.1)
abbrev pub places_of : Plan → List Place
places_of p =
    token_places Initiator 0 0 p.initiator ++ token_places Responder 0 0 p.responder
    ++ message_places Initiator 1 p.messages ++ transport_places p

-- the places of the pre-messages and of the first n messages
abbrev pub first_places : Plan → ℕ → List Place
first_places p n =
    token_places Initiator 0 0 p.initiator ++ token_places Responder 0 0 p.responder
    ++ message_places Initiator 1 (take n p.messages)

-- the place of a token after these messages and the tokens of its own message in front of it
abbrev pub place_after : List (List Token) → List Token → Token → Place
place_after before front token =
    place (turn_from Initiator (length before)) (does token) (length before + 1) (length front)

-- the places before that: those of the pre-messages, of the messages before its own, and of the tokens in front of it
abbrev pub places_before : Plan → List (List Token) → List Token → List Place
places_before p before front =
    token_places Initiator 0 0 p.initiator ++ token_places Responder 0 0 p.responder
    ++ message_places Initiator 1 before
    ++ token_places (turn_from Initiator (length before)) (length before + 1) 0 front
