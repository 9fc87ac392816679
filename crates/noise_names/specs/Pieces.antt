-- Where a token of a message begins (Noise, 5.3).
use Rattle.std.specs.Prelude.{ℕ, ◌-◌, List, [], ◌++◌, slice_index_or, take}
use Rattle.noise_names.specs.declared.token.Role.TheVariants.{Initiator}
use Rattle.noise_names.specs.declared.token.Token.{Token}
use Rattle.noise_names.specs.Tokens.{turn_from}
use Rattle.noise_names.specs.Plan.{Plan, Place, first_places, token_places}
use Rattle.noise_names.specs.Overhead.{overhead_from}

-- the tokens of message n, from 1
abbrev pub tokens_of : Plan → ℕ → List Token
tokens_of p n = slice_index_or p.messages (n - 1) []

-- the places of the first i tokens of message n
abbrev pub front_places : Plan → ℕ → ℕ → List Place
front_places p n i = token_places (turn_from Initiator (n - 1)) n 0 (take i (tokens_of p n))

-- the places before token i of message n, from 0, or before its payload, where i is the count of its tokens
abbrev pub places_to : Plan → ℕ → ℕ → List Place
places_to p n i = first_places p (n - 1) ++ front_places p n i

-- how many bytes of message n stand before that
abbrev pub bytes_before : Plan → ℕ → ℕ → ℕ
bytes_before p n i = overhead_from p (first_places p (n - 1)) (front_places p n i)
