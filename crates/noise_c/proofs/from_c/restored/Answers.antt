use Rattle.std.proofs.Common.{◌≡◌, ◌-◌, List, ℕ, length, take, drop, length-drop, sym, ap, ◌∙◌, subst, arith, rules}
use Rattle.std.proofs.lemmas.List.{take_rest}
use Rattle.noise_c.proofs.Common.{Option, Some, None, IfSome, HandshakeValue, IsLateWhole, Table, pairs_in, handshake_from_c}
use Rattle.noise_handshake.specs.Parts.{held_of}
use Rattle.noise_c.proofs.from_c.restored.Goals as goal

same-as : (o : Option (HandshakeValue Table)) (h h2 : HandshakeValue Table) → h ≡ h2 → IfSome o (λ z. z ≡ h) → IfSome o (λ z. z ≡ h2)
same-as o h h2 e s = subst (λ (z : HandshakeValue Table). IfSome o (λ y. y ≡ z)) e s

count-in : (o : Option (HandshakeValue Table)) (n : ℕ) (h : HandshakeValue Table) → length h.psks ≡ n → IfSome o (λ z. z ≡ h) → IfSome o (λ z. length z.psks ≡ n)
count-in None n h e s = tt
count-in (Some z) n h e s = ap (λ (y : HandshakeValue Table). length y.psks) s ∙ e

-- the last of nine
last-of : (xs : List (List ℕ)) (from : ℕ) → length xs ≡ 9 → take (9 - from) (drop from xs) ≡ drop from xs
last-of xs from nine = ap (λ (n : ℕ). take (n - from) (drop from xs)) (sym nine) ∙ take_rest xs from

pub returns-clause-whole : goal.returns-clause-whole
returns-clause-whole c =
    let k = c.args.handshake.now in
    let nine : length k.psks ≡ 9 = search rules in
    let partial = ap (held_of c.parts_of.result) (last-of k.psks (9 - k.psk_count) nine) ∙ c.parts_of.ensures.value in (
      λ some. subst (λ (z : HandshakeValue Table). IsLateWhole pairs_in z) partial (c.from_parts.ensures.whole.0 some),
      λ w. c.from_parts.ensures.whole.1 (subst (λ (z : HandshakeValue Table). IsLateWhole pairs_in z) (sym partial) w),
    )

pub returns-clause-value : goal.returns-clause-value
returns-clause-value c =
    let k = c.args.handshake.now in
    let nine : length k.psks ≡ 9 = search rules in
    same-as c.from_parts.result _ (handshake_from_c c.args.pattern k)
    (ap (held_of c.parts_of.result) (last-of k.psks (9 - k.psk_count) nine) ∙ c.parts_of.ensures.value) c.from_parts.ensures.value

pub returns-clause-count : goal.returns-clause-count
returns-clause-count c =
    let k = c.args.handshake.now in
    let nine : length k.psks ≡ 9 = search rules in
    let few = c.requires.psks in
    let long = ap length (last-of k.psks (9 - k.psk_count) nine) in
    count-in c.from_parts.result k.psk_count _ (omega (arith, long, length-drop (9 - k.psk_count) k.psks, nine, few)) c.from_parts.ensures.value
