-- A psk that is stored after the others.
use Rattle.std.proofs.Common.{true, ◌≡◌, ◌≤◌, ◌<◌, ◌+◌, ◌-◌, ◌++◌, ◌∷◌, [], ℕ, List, length, drop, slice_set, drop-drop, length-drop, length-append, refl, ap, sym, subst, ◌∙◌, arith}
use Rattle.std.proofs.lemmas.List.{append_assoc, append_cancel_left, drop-append-le, set-append_right}
use Rattle.std.proofs.lemmas.List.Edits.{paste_all}
use Rattle.std.specs.List.{copy_within}
use Rattle.std.specs.Prelude.{map, take}
use Rattle.std.proofs.lemmas.List.{map-append, take_all}
use Rattle.noise_c.specs.HandshakeStructs.{entry_in, supplied}
use Rattle.noise_c.specs.declared.structs.NoiseAnswer.{NoiseAnswer}
use Rattle.noise_c.proofs.Common.{◌==◌, nat_tests, Plan, HandshakeValue, with_later, IsLateWhole, Party, Table, NoiseHandshake, psks_of, IsParty, IsValid, pairs_in, text_from_c, handshake_from_c, IsGiven, IsPatternOf, IsUsable, KeepsParty}
use Rattle.noise_handshake.specs.Parts.{IsWholeValue}

set-first : {X : Type 0} (ws : List X) (y : X) → length ws ≡ 1 → slice_set ws 0 y ≡ y ∷ []
set-first [] y e = absurd (omega (arith, e))
set-first (a ∷ []) y e = refl
set-first (a ∷ b ∷ ws) y e = absurd (omega (arith, e))

-- a list, moved one place to the front, and one put at the end
pub moved : {X : Type 0} (n : ℕ) (xs ys : List X) (y : X) → ys ≡ copy_within xs 1 (length xs) 0 → length xs ≡ n + 1
    → slice_set ys n y ≡ drop 1 xs ++ y ∷ []
moved {X} n xs ys y up e =
    let rest : length (drop 1 xs) ≡ n = omega (arith, length-drop 1 xs, e) in
    let last : length (drop n xs) ≡ 1 = omega (arith, length-drop n xs, e) in
    let back : 0 + (n + 1 - 1) ≡ n = omega arith in
    let none : n - n ≡ 0 = omega arith in
    let shifted : copy_within xs 1 (n + 1) 0 ≡ drop 1 xs ++ drop n xs =
    paste_all xs 0 (drop 1 xs) (n + 1 - 1) (omega (arith, rest)) ∙ ap (λ (k : ℕ). drop 1 xs ++ drop k xs) back in
    ap (λ (z : List X). slice_set z n y) (up ∙ ap (λ (k : ℕ). copy_within xs 1 k 0) e ∙ shifted) ∙ set-append_right (drop 1 xs) (drop n xs) n n y rest (omega arith)
    ∙ ap (λ (k : ℕ). drop 1 xs ++ slice_set (drop n xs) k y) none ∙ ap (λ (z : List X). drop 1 xs ++ z) (set-first (drop n xs) y last)

-- the last of them
pub moved-last : (xs : List (List ℕ)) (y : List ℕ) (c : ℕ) → length xs ≡ 9 → c < 9 → drop (9 - (c + 1)) (drop 1 xs ++ y ∷ []) ≡ drop (9 - c) xs ++ y ∷ []
moved-last xs y c e few =
    let eight : length (drop 1 xs) ≡ 8 = omega (arith, length-drop 1 xs, e) in
    let i : 1 + (9 - (c + 1)) ≡ 9 - c = omega (arith, few) in
    drop-append-le (9 - (c + 1)) (drop 1 xs) (y ∷ []) (omega (arith, eight))
    ∙ ap (λ (z : List (List ℕ)). z ++ y ∷ []) (drop-drop (9 - (c + 1)) 1 xs ∙ ap (λ (n : ℕ). drop n xs) i)

-- a state whose psks go on with the one that is stored is stood for as before
pub matches-later : (old new : NoiseHandshake) (psk : List ℕ) (p : Plan) (v : Party) (later : List (List ℕ)) → IsGiven old new psk
    → v.psks ≡ (handshake_from_c p old).psks ++ psk ∷ later → KeepsParty old p v → KeepsParty new p v
matches-later old new psk p v later g e k =
    let rest : k.later ≡ psk ∷ later = append_cancel_left (handshake_from_c p old).psks k.later (psk ∷ later) (ap (λ (z : Party). z.psks) k.matches ∙ e) in
    let same : with_later (handshake_from_c p old) k.later ≡ with_later (handshake_from_c p new) later =
    ap (λ (z : List (List ℕ)). with_later (handshake_from_c p old) z) rest
    ∙ ap (λ (z : List (List ℕ)). record (handshake_from_c p old) { psks = z }) (sym (append_assoc (handshake_from_c p old).psks (psk ∷ []) later))
    ∙ ap (λ (z : HandshakeValue Table). with_later z later) (sym (g.handshake p)) in
    record {
      pattern = subst (λ (z : List ℕ). IsPatternOf z p) (sym g.text) k.pattern;
      later = later;
      matches = subst (λ (z : HandshakeValue Table). IsParty pairs_in z v) same k.matches;
    }

-- where a psk lacks, one more may be there
whole-put : (h : HandshakeValue Table) (psk : List ℕ) (later : List (List ℕ)) → length h.psks < psks_of (drop h.passed h.pattern.messages)
    → IsWholeValue pairs_in (with_later h later) → IsLateWhole pairs_in (with_later h (psk ∷ []))
whole-put h psk [] low w = absurd (omega (arith, low, w.psks, length-append h.psks []))
whole-put h psk (y ∷ later) low w = (
  later,
  record {
    within = w.within;
    psks = ap length (append_assoc h.psks (psk ∷ []) later) ∙ length-append h.psks (psk ∷ later) ∙ sym (length-append h.psks (y ∷ later)) ∙ w.psks;
    own_e = w.own_e;
    own_s = w.own_s;
    remote_e = w.remote_e;
    remote_s = w.remote_s;
    key = w.key;
    nonce = w.nonce;
  },
)

-- a psk that was lacked leaves what a handshake may hold
pub usable-given : (old new : NoiseHandshake) (psk : List ℕ) (h : HandshakeValue Table) → IsUsable old → new.mark ≡ old.mark → new.text_len ≡ old.text_len
    → new.answer_count ≡ old.answer_count → new.psk_count ≤ 9 → IsGiven old new psk → h ≡ handshake_from_c h.pattern old → IsPatternOf (text_from_c old) h.pattern
    → ((q : Plan) → IsPatternOf (text_from_c old) q → q ≡ h.pattern) → length h.psks < psks_of (drop h.passed h.pattern.messages) → IsUsable new
usable-given old new psk h u m t a n g same named one low =
    let q : handshake_from_c u.pattern old ≡ h = ap (λ (z : Plan). handshake_from_c z old) (one u.pattern u.named) ∙ sym same in
    let w : IsLateWhole pairs_in h = subst (λ (z : HandshakeValue Table). IsLateWhole pairs_in z) q u.whole in
    let whole : IsLateWhole pairs_in (with_later h (psk ∷ [])) = whole-put h psk w.0 low w.1 in
    record {
      mark = m ∙ u.mark;
      text = omega (arith, t, u.text);
      answers = omega (arith, a, u.answers);
      psks = n;
      pattern = h.pattern;
      named = subst (λ (z : List ℕ). IsPatternOf z h.pattern) (sym g.text) named;
      valid = subst (λ (z : Plan). IsValid z) (one u.pattern u.named) u.valid;
      whole = subst (λ (z : HandshakeValue Table). IsLateWhole pairs_in z) (ap (λ (z : HandshakeValue Table). with_later z (psk ∷ [])) same ∙ sym (g.handshake h.pattern)) whole;
    }

-- ---- a DH result that takes the place of the first

entries-moved : (xs : List NoiseAnswer) (y : NoiseAnswer) → map entry_in (drop 1 xs ++ y ∷ []) ≡ drop 1 (map entry_in xs) ++ entry_in y ∷ []
entries-moved [] y = refl
entries-moved (x ∷ xs) y = map-append entry_in xs (y ∷ [])

-- of a full struct, which has eight
pub results-moved : (k : NoiseHandshake) (y : NoiseAnswer) (new : List NoiseAnswer) → length k.answers ≡ 8 → k.answer_count ≡ 8 → new ≡ drop 1 k.answers ++ y ∷ []
    → map entry_in (take k.answer_count new) ≡ drop 1 (map entry_in (take k.answer_count k.answers)) ++ entry_in y ∷ []
results-moved k y new long full e =
    let eight : length (drop 1 k.answers ++ y ∷ []) ≡ 8 = length-append (drop 1 k.answers) (y ∷ []) ∙ omega (arith, length-drop 1 k.answers, long) in
    ap (map entry_in) (ap (take k.answer_count) e ∙ take_all k.answer_count (drop 1 k.answers ++ y ∷ []) (omega (arith, eight, full)))
    ∙ entries-moved k.answers y
    ∙ ap (λ (z : List NoiseAnswer). drop 1 (map entry_in z) ++ entry_in y ∷ []) (sym (take_all k.answer_count k.answers (omega (arith, long, full))))

-- what a DH result makes of a struct with eight
pub supplied-full : (k : NoiseHandshake) (last : NoiseAnswer) → k.answer_count ≡ 8 → record k { answers = drop 1 k.answers ++ last ∷ [] } ≡ supplied k last
supplied-full k last full = let e : (k.answer_count == 8) ≡ true = grind (arith, nat_tests) in rw e refl

-- a struct whose DH results alone change is still what a call has left
pub usable-results : (old new : NoiseHandshake) → (new ≡ record old { answers = new.answers; answer_count = new.answer_count }) → new.answer_count ≤ 8 → IsUsable old → IsUsable new
usable-results old new same few u = subst (λ (k : NoiseHandshake). IsUsable k) (sym same) (record {
  mark = u.mark;
  text = u.text;
  answers = few;
  psks = u.psks;
  pattern = u.pattern;
  named = u.named;
  valid = u.valid;
  whole = (
    u.whole.0,
    record {
      within = u.whole.1.within;
      psks = u.whole.1.psks;
      own_e = u.whole.1.own_e;
      own_s = u.whole.1.own_s;
      remote_e = u.whole.1.remote_e;
      remote_s = u.whole.1.remote_s;
      key = u.whole.1.key;
      nonce = u.whole.1.nonce;
    },
  );
})
