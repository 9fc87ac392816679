-- A stream is cut into frames in one way.
use Rattle.std.proofs.Common.{◌≡◌, ℕ, ◌+◌, ◌^◌, ◌<◌, ◌≤◌, List, ◌++◌, length, take, drop, refl, sym, ◌∙◌, ap, arith, append_assoc, length-append}
use Rattle.std.proofs.lemmas.Bool.Decides.{nat_tests}
use Rattle.std.proofs.lemmas.List.{take_at, drop_at, append_cancel_left}
use Rattle.byteorder.specs.Endian.{big_bytes, big_number}
use Rattle.byteorder.specs.Numbers.{big_number-reads_back}
use Rattle.noise_session.specs.Frames.{frame, IsPartial}

-- the length that a frame begins with
number-frame : (m rest : List ℕ) → length m ≤ 65535 → big_number 2 (frame m ++ rest) ≡ length m
number-frame m rest short =
    let fits : length m < 256 ^ 2 = omega arith in
    ap (big_number 2) (append_assoc (big_bytes 2 (length m)) m rest)
    ∙ big_number-reads_back 2 (length m) (m ++ rest) fits

length-frame : (m rest : List ℕ) → length (frame m ++ rest) ≡ 2 + length m + length rest
length-frame m rest = omega (arith, length-append (frame m) rest, length-append (big_bytes 2 (length m)) m)

-- a whole frame isn't a part of one
pub frame-whole : (m rest : List ℕ) → length m ≤ 65535 → IsPartial (frame m ++ rest) → ⊥
frame-whole m rest short partial =
    let long = length-frame m rest in
    let number = number-frame m rest short in
    grind (arith, nat_tests)

pub frame-same : (m n r s : List ℕ) → length m ≤ 65535 → length n ≤ 65535 → frame m ++ r ≡ frame n ++ s → (m ≡ n)
    × (r ≡ s)
frame-same m n r s short other e =
    let long : length m ≡ length n = sym (number-frame m r short) ∙ (ap (big_number 2) e ∙ number-frame n s other) in
    let joined : big_bytes 2 (length m) ++ (m ++ r) ≡ big_bytes 2 (length m) ++ (n ++ s) =
    sym (append_assoc (big_bytes 2 (length m)) m r)
    ∙ (e ∙ (append_assoc (big_bytes 2 (length n)) n s ∙ ap (λ (k : ℕ). big_bytes 2 k ++ (n ++ s)) (sym long))) in
    let rest = append_cancel_left (big_bytes 2 (length m)) (m ++ r) (n ++ s) joined in (
      sym (take_at m r (length m) refl) ∙ (ap (take (length m)) rest ∙ take_at n s (length m) (sym long)),
      sym (drop_at m r (length m) refl)
          ∙ (ap (drop (length m)) rest ∙ drop_at n s (length m) (sym long)),
    )
