-- How often a key was rekeyed before a nonce, and before the next; and the keys at both.
use Rattle.std.proofs.Common.{rules, ◌≡◌, ◌≢◌, ℕ, suc, ◌+◌, ◌%◌, List, inl, inr, arith}
use Rattle.std.proofs.lemmas.Bool.{cases_lt}
use Rattle.std.specs.Prelude.{Some, None}
use Rattle.noise_trace.proofs.Common.{◌⊎◌, nat_lt, Option, unwrap_or, if◌then◌else◌, Role, SymmetricState, rekeyed_times, rekeyed_after}
use Rattle.noise_aead.specs.Sealing.{rekeyed}
use Rattle.noise_session.specs.Transport.{rekeys, split_key, transport_key}
use Rattle.noise_session.specs.Rekeying.{rekeys-turned, rekeys-unchanged, rekeys-never}

-- one rekey more, or none
rekeys-next : (i n : ℕ) → (rekeys i (n + 1) ≡ suc (rekeys i n)) ⊎ (rekeys i (n + 1) ≡ rekeys i n)
rekeys-next i n =
    elim (cases_lt 0 i) [
      | inl some ↦ elim (cases_lt 0 ((n + 1) % i)) [
        | inl more ↦ inr (rekeys-unchanged i n (omega arith) (omega arith))
        | inr none ↦ inl (rekeys-turned i n (omega arith) (omega arith))
      ]
      | inr none ↦ inr (rekeys-never i n (omega arith))
    ]

-- the key after b rekeys, where there are more than a
abbrev Grown : ℕ → ℕ → List ℕ → Option (List ℕ)
Grown a b key = if nat_lt a b then Some (rekeyed_times b key) else None

grown-more : (a b : ℕ) (key : List ℕ) → b ≡ suc a → Grown a b key ≡ Some (rekeyed (rekeyed_times a key))
grown-more a b key e = search rules

grown-next : (a b : ℕ) (key : List ℕ) → (b ≡ suc a) ⊎ (b ≡ a) → unwrap_or (Grown a b key) (rekeyed_times a key) ≡ rekeyed_times b key
grown-next a b key (inl more) = search rules
grown-next a b key (inr same) = search rules

pub key-rekeyed : (r : SymmetricState) (writer : Role) (i n : ℕ) → i ≢ 0 → (n + 1) % i ≡ 0
    → rekeyed_after r writer i n ≡ Some (rekeyed (transport_key r writer i n))
key-rekeyed r writer i n some none =
    grown-more (rekeys i n) (rekeys i (n + 1)) (split_key r writer) (rekeys-turned i n some none)

-- the key of the next message
pub key-next : (r : SymmetricState) (writer : Role) (i n : ℕ)
    → unwrap_or (rekeyed_after r writer i n) (transport_key r writer i n) ≡ transport_key r writer i (n + 1)
key-next r writer i n = grown-next (rekeys i n) (rekeys i (n + 1)) (split_key r writer) (rekeys-next i n)
