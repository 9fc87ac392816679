-- The frames of a handshake and their pieces.
use Rattle.std.proofs.Common.{arith, ◌≡◌, ◌≢◌, ◌∙◌, ◌+◌, ◌-◌, ◌<◌, ◌≤◌, ap, subst, sym, ℕ, Bool, false, Some, None, Option, Vec, List, ◌++◌, append-nil, get_or, length, min, nat_lt, slice_get, take}
use Rattle.std.specs.Global.{Global}
use Rattle.std.specs.Prelude.{IfNone, IfOk, IfSome, IsSome, Result, Ok, Err, ◌↔◌}
use Rattle.std.specs.List.{All}
use Rattle.std.proofs.lemmas.Bool.{le-ltb}
use Rattle.std.proofs.lemmas.List.{append_cancel_left, take_all}
use Rattle.noise_lines.specs.Shown.{shown_text}
use Rattle.noise_vectors.specs.HexWord.{IsHexWord, hex_of}
use Rattle.noise_names.specs.declared.token.Token.{Token}
use Rattle.noise_names.specs.Overhead.{has_key}
use Rattle.noise_names.specs.Pieces.{bytes_before, places_to, tokens_of}
use Rattle.noise_names.specs.Plan.{Plan}
use Rattle.noise_names.specs.declared.token.Role.{Role}
use Rattle.noise_names.specs.declared.token.Role.TheVariants.{Initiator, Responder}
use Rattle.std.proofs.lemmas.Option.{slice_get-get_or}
use Rattle.noise_explain.specs.FramePieces.{IsPieceAt, begin_of, key_piece, payload_piece}
use Rattle.noise_explain.specs.FramePieces.IsPieceAt.{in_key, in_payload}
use Rattle.noise_explain.specs.Shown.{shown_start}
use Rattle.noise_explain.specs.StateParts.{HasNoState, HaveNoState}
use Rattle.noise_explain.specs.declared.frame_piece.Piece.{Piece}

-- ---- what is shown of a line

-- a short line is shown as it is
pub start-whole : (bytes first old text : List ℕ) (n : ℕ) → n ≡ min (length bytes) 64 → first ≡ take n bytes → length bytes ≤ 64
    → text ≡ old ++ shown_text first → text ≡ old ++ shown_start bytes
start-whole bytes first old text n n_is first_is short is =
    let long : nat_lt 64 (length bytes) ≡ false = le-ltb 64 (length bytes) short in
    let whole : first ≡ take 64 bytes = first_is ∙ take_all n bytes (omega (arith, n_is, short)) ∙ sym (take_all 64 bytes short) in
    is ∙ ap (λ (t : List ℕ). old ++ shown_text t) whole ∙ sym (ap (λ (t : List ℕ). old ++ t) (rw long (append-nil (shown_text (take 64 bytes)))))

-- ---- the frame of a line

pub none-any : {X : Type 0} (r : Option X) (P : Type 0) → P → IfNone r P
none-any (Some x) P h = tt
none-any None P h = h

abbrev Found : Type 0
Found = Option (Vec ℕ Global)

-- the frame whose word follows a front
pub front-some : {E : Type 0} (front line word : List ℕ) (r : Result Found E) → line ≡ front ++ word
    → IfOk r (λ f. IfSome f (λ b. word ≡ hex_of b.items)) → IfOk r (λ f. IfSome f (λ b. line ≡ front ++ hex_of b.items))
front-some front line word (Ok (Some b)) is h = is ∙ ap (λ (w : List ℕ). front ++ w) h
front-some front line word (Ok None) is h = tt
front-some front line word (Err e) is h = tt

pub front-none : {E : Type 0} (front line word : List ℕ) (r : Result Found E) → line ≡ front ++ word
    → IfOk r (λ f. IsSome f ↔ IsHexWord word)
    → IfOk r (λ f. IfNone f ((frame : List ℕ) → All (λ b. b < 256) frame → line ≢ front ++ hex_of frame))
front-none front line word (Ok (Some b)) is h = tt
front-none front line word (Ok None) is h = λ frame bytes e.
    absurd (cc (h.1 (frame, bytes, append_cancel_left front word (hex_of frame) (sym is ∙ e))))
front-none front line word (Err e) is h = tt

-- ---- pieces

pub key-at : (p : Plan) (n len at i : ℕ) (tokens : List Token) (d : Token) (begin next : ℕ) (has : Bool) (piece : Piece)
    → tokens ≡ tokens_of p n → i < length tokens → begin ≡ bytes_before p n i → next ≡ bytes_before p n (i + 1)
    → has ≡ has_key p (places_to p n i) → begin_of p n i ≤ at → at - 2 < next → piece ≡ key_piece (get_or tokens i d) has (at - 2 - begin)
    → IsPieceAt p n len at piece
key-at p n len at i tokens d begin next has piece here less begin_is next_is key past under is =
    let token = ap (λ (ts : List Token). slice_get ts i) (sym here) ∙ slice_get-get_or tokens i d less in
    let offset : at - 2 - begin ≡ at - begin_of p n i = omega (arith, begin_is) in
    let same = is ∙ ap (λ (k : Bool). key_piece (get_or tokens i d) k (at - 2 - begin)) key
    ∙ ap (key_piece (get_or tokens i d) (has_key p (places_to p n i))) offset in
    in_key i (get_or tokens i d) piece token past (omega (arith, next_is, past, under)) same

pub payload-at : (p : Plan) (n len at i : ℕ) (tokens : List Token) (has : Bool) (left : ℕ) (piece : Piece) → tokens ≡ tokens_of p n
    → i ≡ length tokens → has ≡ has_key p (places_to p n (length tokens)) → left ≡ len - at → begin_of p n i ≤ at → piece ≡ payload_piece has left
    → IsPieceAt p n len at piece
payload-at p n len at i tokens has left piece here all key left_is past is =
    let count : i ≡ length (tokens_of p n) = all ∙ ap (λ (ts : List Token). length ts) here in
    let same = is ∙ ap (λ (k : Bool). payload_piece k left) (key ∙ ap (λ (ts : List Token). has_key p (places_to p n (length ts))) here)
    ∙ ap (payload_piece (has_key p (places_to p n (length (tokens_of p n))))) left_is in
    in_payload piece (subst (λ (j : ℕ). begin_of p n j ≤ at) count past) same

-- ---- states

pub no-states : {E : Type 0} (expected printed : List ℕ) (r : Result Found E) → HasNoState Initiator expected printed
    → IfOk r (λ f. IfNone f (HasNoState Responder expected printed)) → IfOk r (λ f. IfNone f (HaveNoState expected printed))
no-states expected printed (Ok None) first second = each where
  each : (role : Role) → HasNoState role expected printed
  each Initiator = first
  each Responder = second
no-states expected printed (Ok (Some b)) first second = tt
no-states expected printed (Err e) first second = tt
