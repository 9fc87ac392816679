-- The limits of a pattern (Noise, 7.1 to 7.3, and 9.4 for psk tokens; the numbers are this library's), and where its
-- psk tokens stand.
use Rattle.std.specs.Prelude.{◌≡◌, ℕ, ◌+◌, ◌==◌, Bool, true, false, ◌&&◌, nat_le, nat_lt, Option, find, List, [], ◌∷◌, ◌++◌, length, IsTrue, if◌then◌else◌}
use Rattle.std.specs.Prelude.{MatchOption, ⊤}
use Rattle.std.specs.List.{list_any, list_all}
use Rattle.noise_names.specs.declared.token.Token.{Token}
use Rattle.noise_names.specs.declared.token.Token.TheVariants.{E, S, Psk}
use Rattle.noise_names.specs.Tokens.{own_tokens}
use Rattle.noise_names.specs.Plan.{Plan, plain_of}
use Rattle.noise_names.specs.Names.{is_base, are_places}
use Rattle.noise_names.specs.Fundamental.{fundamental_of}

-- a psk token if the number is among the places
abbrev pub psk_if : ℕ → List ℕ → List Token
psk_if n places = if list_any (λ m. m == n) places then Psk ∷ [] else []

-- message n with its psk tokens: that of place 0 in front of message 1, that of place n at the end of message n (9.4)
abbrev pub with_psk_tokens : List ℕ → ℕ → List Token → List Token
with_psk_tokens places n own = (if n == 1 then psk_if 0 places else []) ++ own ++ psk_if n places

-- the messages from number n on with their psk tokens (9.4)
abbrev pub with_psks_from : List ℕ → ℕ → List (List Token) → List (List Token)
with_psks_from places n [] = []
with_psks_from places n (own ∷ more) = with_psk_tokens places n own ∷ with_psks_from places (n + 1) more

-- the messages from number n on are their other tokens with those psk tokens, and have no psk token elsewhere (9.4)
abbrev pub HavePsksAt : List ℕ → ℕ → List (List Token) → Type 0
HavePsksAt places n [] = ⊤
HavePsksAt places n (tokens ∷ more) =
    (tokens ≡ with_psk_tokens places n (own_tokens tokens)) × HavePsksAt places (n + 1) more

-- the messages have psk tokens at these places, which are no greater than their number, and nowhere else (9.4)
pub record HavePsks (places : List ℕ) (messages : List (List Token)) : Type 0 where
  pub tokens : HavePsksAt places 1 messages
  pub in_range : IsTrue (list_all (λ n. nat_le n (length messages)) places)

-- the pattern is the plain one with psk tokens at these places (9.4)
pub record Placed (plain : Plan) (places : List ℕ) (pattern : Plan) : Type 0 where
  pub without : plain_of pattern ≡ plain
  pub places_are : pattern.places ≡ places
  pub psks : HavePsks places pattern.messages

-- the first place that is greater than the number of messages, if there is one
abbrev pub first_beyond : Plan → List ℕ → Option ℕ
first_beyond plain places = find (λ n. nat_lt (length plain.messages) n) places

-- a pre-message is empty, e, s, or e and s (7.1)
abbrev pub is_pre_message : List Token → Bool
is_pre_message [] = true
is_pre_message (E ∷ []) = true
is_pre_message (S ∷ []) = true
is_pre_message (E ∷ S ∷ []) = true
is_pre_message _ = false

-- a message has 1 to 8 tokens other than psk
abbrev pub has_few_tokens : List Token → Bool
has_few_tokens tokens = nat_le 1 (length (own_tokens tokens)) && nat_le (length (own_tokens tokens)) 8

-- a pattern within the limits, which is the fundamental one, psk tokens aside, if its base is of those
pub record IsPattern (p : Plan) : Type 0 where
  pub base : IsTrue (is_base p.base)
  pub places : IsTrue (are_places p.places)
  pub initiator : IsTrue (is_pre_message p.initiator)
  pub responder : IsTrue (is_pre_message p.responder)
  pub count : IsTrue (nat_le 1 (length p.messages) && nat_le (length p.messages) 8)
  pub sizes : IsTrue (list_all has_few_tokens p.messages)
  pub psks : HavePsks p.places p.messages
  pub known : MatchOption (fundamental_of p.base) ⊤ (λ f. plain_of p ≡ f)
