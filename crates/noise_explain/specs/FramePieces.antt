-- The frames of the messages of a handshake, and their pieces (Noise 5.3; the length, 13).
use Rattle.std.specs.Prelude.{◌≡◌, ◌≢◌, ◌<◌, ◌≤◌, ℕ, ◌+◌, ◌-◌, ◌/◌, ◌%◌, ◌==◌, Bool, true, not, List, [], ◌++◌, Some, codes, decimal, length, nat_lt, slice_get, if◌then◌else◌}
use Rattle.std.specs.List.{All}
use Rattle.noise_names.specs.declared.token.Role.{Role}
use Rattle.noise_names.specs.declared.token.Role.TheVariants.{Initiator, Responder}
use Rattle.noise_names.specs.declared.token.Token.{Token}
use Rattle.noise_names.specs.declared.token.Token.TheVariants.{S}
use Rattle.noise_names.specs.Overhead.{has_key}
use Rattle.noise_names.specs.Pieces.{bytes_before, places_to, tokens_of}
use Rattle.noise_names.specs.Plan.{Plan}
use Rattle.noise_names.specs.Text.{word_of}
use Rattle.noise_vectors.specs.HexWord.{hex_of}
use Rattle.noise_vectors.specs.VectorText.{role_word}
use Rattle.noise_explain.specs.declared.frame_piece.Piece.{Piece}
use Rattle.noise_explain.specs.declared.frame_piece.Piece.TheVariants as pieces

-- ---- where a piece stands

-- the party that sends message n, from 1: the initiator the odd ones (7.1)
abbrev pub sender_of : ℕ → Role
sender_of n = if n % 2 == 0 then Responder else Initiator

-- the byte of a frame at which token i of message n begins, from 0, or its payload, where i is the count of its tokens:
-- 2 bytes of length stand before the message
abbrev pub begin_of : Plan → ℕ → ℕ → ℕ
begin_of p n i = 2 + bytes_before p n i

-- The piece at byte k of what a token sends, where there is a key or none: an encrypted `s` is 32 bytes, and 16 of tag
-- (5.3).
abbrev pub key_piece : Token → Bool → ℕ → Piece
key_piece S true k = if nat_lt k 32 then pieces.EncryptedKey else pieces.KeyTag
key_piece t _ k = pieces.Key t

-- The piece of the payload from which on so many bytes are left of the frame, where there is a key or none: the last 16
-- are the tag of an encrypted one.
abbrev pub payload_piece : Bool → ℕ → Piece
payload_piece has_key left =
    if left == 0 then pieces.End
    else if not has_key then pieces.Payload
    else if nat_lt 16 left then pieces.EncryptedPayload
    else pieces.PayloadTag

-- the piece that stands at a byte, from 0, of the frame of message n, which has so many bytes
pub data IsPieceAt (p : Plan) (n len at : ℕ) : Piece → Type 0 where
  in_length : at < 2 → IsPieceAt p n len at pieces.Length
  in_key : (i : ℕ) (t : Token) (piece : Piece) → slice_get (tokens_of p n) i ≡ Some t
      → begin_of p n i ≤ at → at < begin_of p n (i + 1)
      → piece ≡ key_piece t (has_key p (places_to p n i)) (at - begin_of p n i) → IsPieceAt p n len at piece
  in_payload : (piece : Piece) → begin_of p n (length (tokens_of p n)) ≤ at
      → piece ≡ payload_piece (has_key p (places_to p n (length (tokens_of p n)))) (len - at)
      → IsPieceAt p n len at piece

-- ---- lines of frames

-- The line of a run that shows the frame of message n is `wrote ROLE N HEX`: its sender's frames count from 0. This
-- stands before the frame.
abbrev pub frame_front : ℕ → List ℕ
frame_front n = codes "wrote " ++ role_word (sender_of n) ++ codes " " ++ decimal ((n - 1) / 2) ++ codes " "

-- two lines are of these frames of message n
pub record AreFrames (n : ℕ) (expected printed yours right : List ℕ) : Type 0 where
  pub expected_is : expected ≡ frame_front n ++ hex_of yours
  pub printed_is : printed ≡ frame_front n ++ hex_of right

-- two lines that differ aren't both of frames of message n, and of no message of this pattern
abbrev pub HasNoFrame : ℕ → List ℕ → List ℕ → Type 0
HasNoFrame n expected printed = expected ≢ printed → (yours right : List ℕ)
    → All (λ b. b < 256) yours → All (λ b. b < 256) right → ¬ AreFrames n expected printed yours right

abbrev pub HaveNoFrame : Plan → List ℕ → List ℕ → Type 0
HaveNoFrame p expected printed = (n : ℕ) → 1 ≤ n → n ≤ length p.messages → HasNoFrame n expected printed

-- ---- how they differ

-- the first byte, from 0, at which two frames differ or one has ended
pub record IsFirstDifferent (yours right : List ℕ) (at : ℕ) : Type 0 where
  pub same : (i : ℕ) → i < at → slice_get yours i ≡ slice_get right i
  pub differ : slice_get yours at ≢ slice_get right at

abbrev pub piece_word : Piece → List ℕ
piece_word pieces.Length = codes "length"
piece_word (pieces.Key token) = word_of token
piece_word pieces.EncryptedKey = codes "encrypted s"
piece_word pieces.KeyTag = codes "tag of s"
piece_word pieces.Payload = codes "payload"
piece_word pieces.EncryptedPayload = codes "encrypted payload"
piece_word pieces.PayloadTag = codes "tag of the payload"
piece_word pieces.End = codes "end"

-- the same byte, counted in the message
abbrev pub offset_words : ℕ → List ℕ
offset_words at = if nat_lt at 2 then [] else codes ", offset " ++ decimal (at - 2)

abbrev pub piece_line : ℕ → Piece → ℕ → List ℕ
piece_line at piece n =
    codes "differs at byte " ++ decimal at ++ codes ": " ++ piece_word piece ++ codes " of message " ++ decimal n
    ++ offset_words at

-- of two lines of frames of message n: the first byte at which the frames differ, and the piece of the right frame that
-- stands there
pub record SaysPiece (p : Plan) (n : ℕ) (expected printed line : List ℕ) : Type 0 where
  pub first : 1 ≤ n
  pub last : n ≤ length p.messages
  pub yours : List ℕ
  pub right : List ℕ
  pub frames : AreFrames n expected printed yours right
  pub at : ℕ
  pub differ : IsFirstDifferent yours right at
  pub piece : Piece
  pub stands : IsPieceAt p n (length right) at piece
  pub line_is : line ≡ piece_line at piece n
