-- A psk that is taken back.
use Rattle.std.proofs.Common.{◌≡◌, ◌≤◌, ◌<◌, ◌+◌, ◌-◌, ◌++◌, ◌∷◌, [], ℕ, zero, suc, List, length, drop, slice_set, refl, ap, sym, subst, ◌∙◌, arith}
use Rattle.std.specs.Prelude.{replicate, take}
use Rattle.std.specs.List.{copy_within}
use Rattle.std.proofs.lemmas.List.{append_assoc, append-nil, drop_all, drop-take, take-append-drop}
use Rattle.noise_c.specs.HandshakeStructs.{LacksLastPsk, TakesPskBack}
use Rattle.noise_c.proofs.Common.{Plan, HandshakeValue, with_later, Party, Table, NoiseHandshake, IsParty, pairs_in, handshake_from_c, IsPatternOf, IsUsable, KeepsParty}
use Rattle.noise_handshake.specs.Parts.{IsWholeValue}

-- a list of nine, moved one place to the back, and one put at the front
pub moved_back : {X : Type 0} (xs ys : List X) (y : X) → ys ≡ copy_within xs 0 8 1 → length xs ≡ 9 → slice_set ys 0 y ≡ y ∷ take 8 xs
moved_back [] ys y e l = absurd (omega (arith, l))
moved_back (a ∷ rest) ys y e l =
    ap (λ z. slice_set z 0 y) e
    ∙ ap (λ z. y ∷ (take 8 (a ∷ rest) ++ z)) (drop_all 9 (a ∷ rest) (omega (arith, l)))
    ∙ ap (λ z. y ∷ z) (append-nil (take 8 (a ∷ rest)))

-- all of them but the last
pub but-last : (xs : List (List ℕ)) (y : List ℕ) (c : ℕ) → 0 < c → c ≤ 9 → drop (9 - (c - 1)) (y ∷ take 8 xs) ≡ take (c - 1) (drop (9 - c) xs)
but-last xs y c some few =
    let one : 9 - (c - 1) ≡ suc (9 - c) = omega (arith, some, few) in
    let eight : 8 ≡ (9 - c) + (c - 1) = omega (arith, some, few) in
    ap (λ n. drop n (y ∷ take 8 xs)) one
    ∙ ap (λ n. drop (9 - c) (take n xs)) eight
    ∙ drop-take (9 - c) (c - 1) xs

-- the psks that the state goes on with: the last one, and those after it
abbrev later-of : NoiseHandshake → Plan → List (List ℕ) → List (List ℕ)
later-of k p later = drop (k.psk_count - 1) (handshake_from_c p k).psks ++ later

same-later : (old new : NoiseHandshake) (p : Plan) (later : List (List ℕ)) → LacksLastPsk old new
    → with_later (handshake_from_c p old) later ≡ with_later (handshake_from_c p new) (later-of old p later)
same-later old new p later g =
    let psks = (handshake_from_c p old).psks in
    let n = old.psk_count - 1 in
    ap (λ (z : List (List ℕ)). record (handshake_from_c p old) { psks = z ++ later }) (sym (take-append-drop n psks))
    ∙ ap (λ (z : List (List ℕ)). record (handshake_from_c p old) { psks = z }) (append_assoc (take n psks) (drop n psks) later)
    ∙ ap (λ (z : HandshakeValue Table). with_later z (later-of old p later)) (sym (g.handshake p))

-- a state that the struct matches it still matches
matches-unset : (old new : NoiseHandshake) (p : Plan) (v : Party) → LacksLastPsk old new → KeepsParty old p v → KeepsParty new p v
matches-unset old new p v g k = record {
  pattern = subst (λ (z : List ℕ). IsPatternOf z p) (sym g.text) k.pattern;
  later = later-of old p k.later;
  matches = subst (λ (z : HandshakeValue Table). IsParty pairs_in z v) (same-later old new p k.later g) k.matches;
}

-- what a call has left stays so
usable-unset : (old new : NoiseHandshake) → new.mark ≡ old.mark → new.text_len ≡ old.text_len → new.answer_count ≡ old.answer_count
    → new.psk_count ≤ 9 → LacksLastPsk old new → IsUsable old → IsUsable new
usable-unset old new m t a n g u = record {
  mark = m ∙ u.mark;
  text = omega (arith, t, u.text);
  answers = omega (arith, a, u.answers);
  psks = n;
  pattern = u.pattern;
  named = subst (λ (z : List ℕ). IsPatternOf z u.pattern) (sym g.text) u.named;
  valid = u.valid;
  whole = (
    later-of old u.pattern u.whole.0,
    subst (λ (z : HandshakeValue Table). IsWholeValue pairs_in z) (same-later old new u.pattern u.whole.0 g) u.whole.1,
  );
}

-- a struct whose psks are all but the last
taken : (old new : NoiseHandshake) → new.mark ≡ old.mark → new.text_len ≡ old.text_len → new.answer_count ≡ old.answer_count → new.psk_count ≤ 9
    → LacksLastPsk old new → TakesPskBack old new
taken old new m t a n g = record {
  lacks = g;
  matches = λ p v k. matches-unset old new p v g k;
  stays = usable-unset old new m t a n g;
}

-- the psks are moved one place to the back
pub takes-last : (old : NoiseHandshake) (psks : List (List ℕ)) → 0 < old.psk_count → old.psk_count ≤ 9
    → psks ≡ replicate 32 0 ∷ take 8 old.psks → TakesPskBack old (record old { psk_count = old.psk_count - 1; psks = psks })
takes-last old psks some few e = taken old (record old { psk_count = old.psk_count - 1; psks = psks }) refl refl refl (omega (arith, few)) (record {
  text = refl;
  handshake = λ p. ap (λ (z : List (List ℕ)). record (handshake_from_c p old) { psks = z })
      (ap (drop (9 - (old.psk_count - 1))) e ∙ but-last old.psks (replicate 32 0) old.psk_count some few);
})

take-none : (n : ℕ) → take {A = List ℕ} n [] ≡ []
take-none zero = refl
take-none (suc n) = refl

-- of none nothing is taken back
pub takes-none : (old : NoiseHandshake) → length old.psks ≡ 9 → old.psk_count ≡ 0 → TakesPskBack old old
takes-none old long none = taken old old refl refl refl (omega (arith, none)) (record {
  text = refl;
  handshake = λ p. ap (λ (z : List (List ℕ)). record (handshake_from_c p old) { psks = z })
      (let empty : drop (9 - old.psk_count) old.psks ≡ [] = drop_all (9 - old.psk_count) old.psks (omega (arith, long, none)) in
      empty ∙ sym (ap (take (old.psk_count - 1)) empty ∙ take-none (old.psk_count - 1)));
})
