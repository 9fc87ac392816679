-- The pieces of a message.
use Rattle.std.proofs.Common.{◌≡◌, ◌<◌, ◌≤◌, ◌∙◌, ℕ, zero, suc, ◌+◌, List, [], ◌∷◌, get_or, false, true, sym, ap, refl, length, arith}
use Rattle.std.specs.Prelude.{Bool, None, Option, Some, ◌&&◌, ◌==◌, cond, if◌then◌else◌, slice_get}
use Rattle.noise_c.proofs.Common.{Plan, Token, E, S, Ee, Es, Se, Ss, does, nat_tests}
use Rattle.noise_names.specs.declared.token.Token.TheVariants.{Psk}
use Rattle.noise_names.specs.Overhead.{has_key}
use Rattle.noise_names.specs.Pieces.{bytes_before, places_to, tokens_of}
use Rattle.noise_names.specs.Plan.{payload}
use Rattle.noise_names.specs.Validity.{encrypts}
use Rattle.noise_c.specs.PatternInfo.{flag, token_number}
use Rattle.noise_c.specs.MessageLayouts.{no_piece, own_len, piece_at, piece_of, piece_or_payload}
use Rattle.noise_c.specs.declared.structs.NoisePiece.{NoisePiece}

-- the piece of this number, encrypted or not where there is a key, of so many bytes without a tag
abbrev pub piece_with : Plan → ℕ → ℕ → ℕ → Bool → ℕ → NoisePiece
piece_with p n i number encrypted len = record {
  token = number;
  encrypted = flag (encrypted && has_key p (places_to p n i));
  from = bytes_before p n i;
  len = len + (if encrypted && has_key p (places_to p n i) then 16 else 0);
}

by-token : (p : Plan) (n len i : ℕ) (t : Token) → piece_with p n i (token_number t) (encrypts (does t)) (own_len t) ≡ piece_of p n len i (does t)
unfolding piece_of
by-token p n len i E = refl
by-token p n len i S = refl
by-token p n len i Ee = refl
by-token p n len i Es = refl
by-token p n len i Se = refl
by-token p n len i Ss = refl
by-token p n len i Psk = refl

pub piece-token : (p : Plan) (n len i : ℕ) (t : Token) (number own : ℕ) (encrypted : Bool) → number ≡ token_number t → encrypted ≡ encrypts (does t)
    → own ≡ own_len t → piece_with p n i number encrypted own ≡ piece_of p n len i (does t)
piece-token p n len i t number own encrypted a b c = rw (a, b, c) (by-token p n len i t)

by-payload : (p : Plan) (n len i : ℕ) → piece_with p n i 8 true len ≡ piece_of p n len i payload
unfolding piece_of
by-payload p n len i = refl

-- the token at a place, or none after the last
item-there : (tokens : List Token) (i : ℕ) (t : Token) → i < length tokens → t ≡ get_or tokens i t → slice_get tokens i ≡ Some t
item-there [] i t h e = absurd (omega (arith, h))
item-there (u ∷ tokens) zero t h e = ap (λ (x : Token). Some x) (sym e)
item-there (u ∷ tokens) (suc i) t h e = item-there tokens i t (omega (arith, h)) e

item-past : (tokens : List Token) (i : ℕ) → length tokens ≤ i → slice_get tokens i ≡ None
item-past [] i h = refl
item-past (u ∷ tokens) zero h = absurd (omega (arith, h))
item-past (u ∷ tokens) (suc i) h = item-past tokens i (omega (arith, h))

pub token-there : (tokens own : List Token) (i k : ℕ) (t : Token) → own ≡ tokens → k ≡ i → k < length own → t ≡ get_or own k t
    → slice_get tokens i ≡ Some t
token-there tokens own i k t e f h g =
    ap (λ (ts : List Token). slice_get ts i) (sym e) ∙ ap (λ (n : ℕ). slice_get own n) (sym f) ∙ item-there own k t h g

pub none-past : (tokens own : List Token) (i k : ℕ) → own ≡ tokens → k ≡ i → length own ≤ k → slice_get tokens i ≡ None
none-past tokens own i k e f h =
    ap (λ (ts : List Token). slice_get ts i) (sym e) ∙ ap (λ (n : ℕ). slice_get own n) (sym f) ∙ item-past own k h

-- the piece at a place: of a token there, of the payload after the last one, or none
pub at-token : (p : Plan) (n len i : ℕ) (t : Token) → slice_get (tokens_of p n) i ≡ Some t → piece_of p n len i (does t) ≡ piece_at p n len i
unfolding piece_at
at-token p n len i t there = ap (λ (o : Option Token). piece_or_payload p n len i o) (sym there)

same-test : (i k : ℕ) → i ≡ k → (i == k) ≡ true
same-test i k e = grind (arith, nat_tests)

other-test : (i k : ℕ) → (i ≡ k → ⊥) → (i == k) ≡ false
other-test i k differ = grind (arith, nat_tests)

pub at-payload : (p : Plan) (n len i : ℕ) → slice_get (tokens_of p n) i ≡ None → i ≡ length (tokens_of p n)
    → piece_with p n i 8 true len ≡ piece_at p n len i
unfolding piece_at
at-payload p n len i absent last =
    by-payload p n len i
    ∙ sym (ap (λ (b : Bool). cond b (piece_of p n len i payload) no_piece) (same-test i (length (tokens_of p n)) last))
    ∙ ap (λ (o : Option Token). piece_or_payload p n len i o) (sym absent)

pub at-none : (p : Plan) (n len i : ℕ) → slice_get (tokens_of p n) i ≡ None → (i ≡ length (tokens_of p n) → ⊥) → no_piece ≡ piece_at p n len i
unfolding piece_at
at-none p n len i absent after =
    sym (ap (λ (b : Bool). cond b (piece_of p n len i payload) no_piece) (other-test i (length (tokens_of p n)) after))
    ∙ ap (λ (o : Option Token). piece_or_payload p n len i o) (sym absent)
