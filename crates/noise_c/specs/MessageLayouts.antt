-- Where the pieces of a message stand, and what a call that reports it comes to.
use Rattle.std.specs.Prelude.{◌≡◌, ◌↔◌, ◌≤◌, ℕ, ◌+◌, ◌==◌, ◌&&◌, List, Option, Some, None, length, map, slice_get, if◌then◌else◌}
use Rattle.std.specs.List.{range_with_len}
use Rattle.noise_names.specs.declared.token.Token.{Token}
use Rattle.noise_names.specs.declared.token.Token.TheVariants.{E, S}
use Rattle.noise_names.specs.Plan.{Plan, Place, Step, does, payload, transport}
use Rattle.noise_names.specs.Validity.{encrypts}
use Rattle.noise_names.specs.Overhead.{added_len, has_key, overhead_of, tag_len}
use Rattle.noise_names.specs.Pieces.{bytes_before, places_to, tokens_of}
use Rattle.noise_c.specs.PatternInfo.{flag, token_number}
use Rattle.noise_c.specs.declared.codes.numbers.TheConstants.{NOT_DUE, OK}
use Rattle.noise_c.specs.declared.structs.NoiseMessageLayout.{NoiseMessageLayout}
use Rattle.noise_c.specs.declared.structs.NoisePiece.{NoisePiece}

-- the number of a token, and of the payload
abbrev pub step_number : Step → ℕ
step_number (does t) = token_number t
step_number payload = 8
step_number transport = 0

-- how many bytes of a message a token has without a tag: those of a key (5.3)
abbrev pub own_len : Token → ℕ
own_len E = 32
own_len S = 32
own_len _ = 0

-- how many bytes a piece has after the earlier places: a payload its own, and each what is added there (5.2, 5.3)
abbrev pub piece_len : Plan → List Place → ℕ → Step → ℕ
piece_len p earlier len payload = len + tag_len p earlier
piece_len p earlier len step = added_len p earlier step

-- the piece at place i of message n, where a token is processed or a payload of this length stands: it begins after
-- what stands before it, and is encrypted where that encrypts and there is a key (5.2)
unfoldable pub piece_of : Plan → ℕ → ℕ → ℕ → Step → NoisePiece
piece_of p n len i step = record {
  token = step_number step;
  encrypted = flag (encrypts step && has_key p (places_to p n i));
  from = bytes_before p n i;
  len = piece_len p (places_to p n i) len step;
}

abbrev pub no_piece : NoisePiece
no_piece = record { token = 0; encrypted = 0; from = 0; len = 0 }

abbrev pub piece_or_payload : Plan → ℕ → ℕ → ℕ → Option Token → NoisePiece
piece_or_payload p n len i (Some t) = piece_of p n len i (does t)
piece_or_payload p n len i None = if i == length (tokens_of p n) then piece_of p n len i payload else no_piece

-- piece i of message n, from 0, with a payload of this length: the tokens', then the payload's, then none
unfoldable pub piece_at : Plan → ℕ → ℕ → ℕ → NoisePiece
piece_at p n len i = piece_or_payload p n len i (slice_get (tokens_of p n) i)

-- the layout of message n with a payload of this length
unfoldable pub layout_of : Plan → ℕ → ℕ → NoiseMessageLayout
layout_of p n len = record {
  count = length (tokens_of p n) + 1;
  len = overhead_of p n + len;
  pieces = map (piece_at p n len) (range_with_len 0 11);
}

-- the pattern has message n, from 1, and with a payload of this length it is no longer than a message may be (3)
pub record CanBeSent (p : Plan) (n len : ℕ) : Type 0 where
  pub first : 1 ≤ n
  pub last : n ≤ length p.messages
  pub short : overhead_of p n + len ≤ 65535

-- the number that a layout of a valid pattern's message returns: OK, or NOT_DUE exactly if it can't be sent
pub record IsLayoutCode (p : Plan) (n len code : ℕ) : Type 0 where
  pub sent : code ≡ OK ↔ CanBeSent p n len
  pub not_due : code ≡ NOT_DUE ↔ (CanBeSent p n len → ⊥)
