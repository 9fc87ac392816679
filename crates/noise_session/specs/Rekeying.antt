-- How often a key was rekeyed before a nonce, and before the next.
use Rattle.std.proofs.Common.{◌≡◌, ◌≢◌, ℕ, suc, ◌+◌, ◌*◌, ◌/◌, ◌%◌, ◌<◌, ◌≤◌, inl, inr, arith}
use Rattle.std.proofs.Math.Nat.{mul-le-mul_left, mul-suc, div-add-mod}
use Rattle.std.proofs.lemmas.Bool.{cases_lt}
use Rattle.std.proofs.lemmas.Bool.Decides.{nat_tests}
use Rattle.noise_session.specs.Transport.{rekeys}

apart : (i a b : ℕ) → a < b → i * a + i ≤ i * b
apart i a b less =
    let next : suc a ≤ b = omega arith in
    omega (arith, mul-suc i a, mul-le-mul_left i next)

turned : (i a b r : ℕ) → i * b ≡ i * a + (r + 1) → r < i → b ≡ a + 1
turned i a b r e small =
    elim (cases_lt a b) [
      | inl more ↦ elim (cases_lt (a + 1) b) [
        | inl far ↦ absurd (omega (arith, apart i (a + 1) b far, apart i a (a + 1) (omega arith)))
        | inr near ↦ omega arith
      ]
      | inr less ↦ absurd (omega (arith, mul-le-mul_left i less))
    ]

unchanged : (i a b r s : ℕ) → i * b + s ≡ i * a + (r + 1) → r < i → s < i → 0 < s → b ≡ a
unchanged i a b r s e small below some =
    elim (cases_lt a b) [
      | inl more ↦ absurd (omega (arith, apart i a b more))
      | inr le ↦ elim (cases_lt b a) [
        | inl less ↦ absurd (omega (arith, apart i b a less))
        | inr ge ↦ omega arith
      ]
    ]

pub quotient-turned : (i n : ℕ) → 0 < i → (n + 1) % i ≡ 0 → (n + 1) / i ≡ n / i + 1
quotient-turned i n some none =
    turned i (n / i) ((n + 1) / i) (n % i) (omega (arith, div-add-mod n i, div-add-mod (n + 1) i)) (omega arith)

pub quotient-unchanged : (i n : ℕ) → 0 < i → 0 < (n + 1) % i → (n + 1) / i ≡ n / i
quotient-unchanged i n some more =
    unchanged i (n / i) ((n + 1) / i) (n % i) ((n + 1) % i) (omega (arith, div-add-mod n i, div-add-mod (n + 1) i))
    (omega arith) (omega arith) more

pub rekeys-turned : (i n : ℕ) → i ≢ 0 → (n + 1) % i ≡ 0 → rekeys i (n + 1) ≡ suc (rekeys i n)
rekeys-turned i n some none =
    let e = quotient-turned i n (omega arith) none in
    grind (arith, nat_tests)

pub rekeys-unchanged : (i n : ℕ) → i ≢ 0 → (n + 1) % i ≢ 0 → rekeys i (n + 1) ≡ rekeys i n
rekeys-unchanged i n some more =
    let e = quotient-unchanged i n (omega arith) (omega arith) in
    grind (arith, nat_tests)

pub rekeys-never : (i n : ℕ) → i ≡ 0 → rekeys i (n + 1) ≡ rekeys i n
rekeys-never i n none = grind (arith, nat_tests)
