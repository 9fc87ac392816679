-- What a pattern has, and what a call that reports it comes to.
use Rattle.std.specs.Prelude.{◌≡◌, ℕ, Bool, List, [], ◌∷◌, Option, Some, None, length, map, slice_get, slice_index_or, if◌then◌else◌}
use Rattle.std.specs.List.{range_with_len}
use Rattle.noise_names.specs.declared.token.Role.{Role}
use Rattle.noise_names.specs.declared.token.Role.TheVariants.{Initiator, Responder}
use Rattle.noise_names.specs.declared.token.Token.{Token}
use Rattle.noise_names.specs.declared.token.Token.TheVariants.{E, S, Ee, Es, Se, Ss, Psk}
use Rattle.noise_names.specs.Tokens.{other}
use Rattle.noise_names.specs.Plan.{Plan, is_one_way, places_of}
use Rattle.noise_names.specs.Validity.{IsValid, is_among}
use Rattle.noise_handshake.specs.Setup.{has_before, psks_of}
use Rattle.noise_c.specs.Checked.{IsTextCode, ReportsMessages, ReportsRuleFault, ReportsText}
use Rattle.noise_c.specs.HandshakeStructs.{IsNoName, IsNoText, IsNotValid, IsPatternOf}
use Rattle.noise_c.specs.declared.codes.numbers.TheConstants.{NAME, OK, RULE}
use Rattle.noise_c.specs.declared.structs.NoiseKeysNeeded.{NoiseKeysNeeded}
use Rattle.noise_c.specs.declared.structs.NoisePatternInfo.{NoisePatternInfo}
use Rattle.noise_c.specs.declared.structs.NoisePatternResult.{NoisePatternResult}

-- ---- the fields

abbrev pub flag : Bool → ℕ
flag b = if b then 1 else 0

-- the numbers of the tokens
abbrev pub token_number : Token → ℕ
token_number E = 1
token_number S = 2
token_number Ee = 3
token_number Es = 4
token_number Se = 5
token_number Ss = 6
token_number Psk = 7

abbrev pub number_or_zero : Option Token → ℕ
number_or_zero None = 0
number_or_zero (Some t) = token_number t

-- the number of the token at a place, from 0, and 0 after the last
abbrev pub number_at : List Token → ℕ → ℕ
number_at tokens i = number_or_zero (slice_get tokens i)

-- so many of these numbers
unfoldable pub numbers_of : ℕ → List Token → List ℕ
numbers_of n tokens = map (number_at tokens) (range_with_len 0 n)

-- the numbers of each message's tokens, zeros after the last message
unfoldable pub rows_of : List (List Token) → List (List ℕ)
rows_of messages = map (λ i. numbers_of 10 (slice_index_or messages i [])) (range_with_len 0 8)

-- The keys that a party brings: its own, where it has the token in its pre-message or in a message, and those of the
-- other party's pre-message. At the start of a handshake a fault is reported exactly if one of them is missing
-- (`lacks_own` and `lacks_remote` of Setup).
unfoldable pub keys_needed : Plan → Role → NoiseKeysNeeded
keys_needed p role = record {
  e = flag (is_among role E (places_of p));
  s = flag (is_among role S (places_of p));
  remote_e = flag (has_before p (other role) E);
  remote_s = flag (has_before p (other role) S);
}

-- what a pattern has (7.1; one-way, 7.4; psks, 9.2)
unfoldable pub info_of : Plan → NoisePatternInfo
info_of p = record {
  messages = length p.messages;
  one_way = flag (is_one_way p);
  psks = psks_of p.messages;
  needed = keys_needed p Initiator ∷ keys_needed p Responder ∷ [];
  pre_messages = numbers_of 2 p.initiator ∷ numbers_of 2 p.responder ∷ [];
  tokens = rows_of p.messages;
}

-- ---- the call

-- of a pattern that is valid
pub record IsOfValid (bytes : List ℕ) : Type 0 where
  pub pattern : Plan
  pub named : IsPatternOf bytes pattern
  pub valid : IsValid pattern

-- What is reported of bytes that are of no pattern: of a text the line of its fault, and of a name nothing.
pub data ReportsNoPattern (bytes : List ℕ) (old new : NoisePatternResult) : ℕ → Type 0 where
  no_text : (code : ℕ) → IsNoText bytes → IsTextCode code → ReportsText bytes code new.line
      → new ≡ record old { line = new.line } → ReportsNoPattern bytes old new code
  no_name : IsNoName bytes → new ≡ old → ReportsNoPattern bytes old new NAME

-- What `noise_pattern` leaves of its two structs, by what they were before, and the number that it returns: what the
-- pattern has, the first fault of one that isn't valid, or why the bytes are of none.
pub data PatternOutcome (bytes : List ℕ) (info : NoisePatternInfo) (old : NoisePatternResult)
    (next : NoisePatternInfo) (new : NoisePatternResult) : ℕ → Type 0 where
  valid : IsOfValid bytes → ((p : Plan) → IsPatternOf bytes p → (next ≡ info_of p) × ReportsMessages p old new)
      → PatternOutcome bytes info old next new OK
  broken : IsNotValid bytes → ((p : Plan) → IsPatternOf bytes p → ReportsRuleFault p old new) → next ≡ info
      → PatternOutcome bytes info old next new RULE
  none : (code : ℕ) → ReportsNoPattern bytes old new code → next ≡ info
      → PatternOutcome bytes info old next new code
