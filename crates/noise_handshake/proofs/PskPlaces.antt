-- The place of a psk token among tokens.
use Rattle.std.proofs.Common.{rules, ◌≡◌, ℕ, suc, ◌≤◌, List, [], ◌∷◌, ◌++◌, length, take, drop, ap, sym, ◌∙◌, arith, length-take}
use Rattle.noise_handshake.proofs.Common.{take-append_seam, sum_by-append, count_by, Token, is_psk, IsPskAfter}
use Rattle.noise_names.specs.declared.token.Token.TheVariants.{Psk}
use Rattle.noise_handshake.proofs.Later.{count-take, count-less}
use Rattle.noise_handshake.proofs.Wanted.{take-through}
use Rattle.noise_handshake.proofs.Once.{same-place}

count-one : (before : List Token) → count_by is_psk (before ++ Psk ∷ []) ≡ suc (count_by is_psk before)
count-one before = search (rules, sum_by-append)

-- as far as a psk token there is one more
pub count-through : (ts before later : List Token) → ts ≡ before ++ Psk ∷ later → count_by is_psk (take (suc (length before)) ts) ≡ suc (count_by is_psk before)
count-through ts before later e = search (rules, take-through, count-one)

-- where there are few psk tokens none comes after so many others
pub no-psk : (ts before later : List Token) (n : ℕ) → count_by is_psk ts ≤ n → ts ≡ before ++ Psk ∷ later → count_by is_psk before ≡ n → ⊥
no-psk ts before later n few e c = omega (arith, few, c, count-through ts before later e, count-take ts (suc (length before)))

-- one alone comes after so many others
pub psk-place : (ts before later : List Token) (n k : ℕ) → IsPskAfter ts n k → ts ≡ before ++ Psk ∷ later → count_by is_psk before ≡ n
    → before ≡ take k ts
psk-place ts before later n k a e c =
    let here : length (take k ts) ≡ k = omega (arith, length-take k ts, a.within) in
    let mine : count_by is_psk (take (suc k) ts) ≡ suc n = search (rules, count-through) in
    let theirs : count_by is_psk (take (suc (length before)) ts) ≡ suc n = count-through ts before later e ∙ ap suc c in
    let seam : take (length before) ts ≡ before = ap (take (length before)) e ∙ take-append_seam before (Psk ∷ later) in
    let count : count_by is_psk (take (length before) ts) ≡ n = ap (count_by is_psk) seam ∙ c in
    let same : length before ≡ k = same-place (length before) k
    (λ h. omega (arith, theirs, a.count, count-less ts (suc (length before)) k (omega (arith, h))))
    (λ h. omega (arith, mine, count, count-less ts (suc k) (length before) (omega (arith, h)))) in
    sym seam ∙ ap (λ (j : ℕ). take j ts) same

pub no-place : (ts : List Token) (n k : ℕ) → count_by is_psk ts ≤ n → IsPskAfter ts n k → ⊥
no-place ts n k few a = no-psk ts (take k ts) (drop (suc k) ts) n few a.tokens a.count

pub one-place : (ts : List Token) (n k j : ℕ) → IsPskAfter ts n k → IsPskAfter ts n j → k ≡ j
one-place ts n k j a b =
    omega (arith, ap length (psk-place ts (take j ts) (drop (suc j) ts) n k a b.tokens b.count), length-take k ts, length-take j ts, a.within, b.within)
