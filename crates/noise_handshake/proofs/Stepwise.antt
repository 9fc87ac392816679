-- What a message's tokens ask and leave, reported of its first token and of those after it.
use Rattle.std.proofs.Common.{rules, ◌≡◌, ℕ, suc, ◌<◌, ◌≤◌, List, [], ◌∷◌, length, take, sym, ap, subst, ◌∙◌, arith}
use Rattle.std.specs.Prelude.{Bool}
use Rattle.noise_handshake.proofs.Common.{and_parts, IsTrue, count_by, Token, E, S, Ee, Es, Se, Ss, is_psk, Remote, Writer, Gives, Given, LacksDhResultAt, list_all, psks_after, other_psks}
use Rattle.noise_names.specs.declared.token.Token.TheVariants.{Psk}
use Rattle.noise_handshake.proofs.Later.{one-more}

left-psk : (ts : List Token) (psks : List (List ℕ)) → count_by is_psk (Psk ∷ ts) ≤ length psks → count_by is_psk ts ≤ length (other_psks psks)
left-psk ts [] h = absurd (omega (arith, h, one-more ts))
left-psk ts (x ∷ xs) h = omega (arith, h, one-more ts)

left-after : (t : Token) (ts : List Token) (psks : List (List ℕ)) → count_by is_psk (t ∷ ts) ≤ length psks
    → count_by is_psk ts ≤ length (psks_after psks t)
left-after Psk ts psks h = left-psk ts psks h
left-after E ts psks h = h
left-after S ts psks h = h
left-after Ee ts psks h = h
left-after Es ts psks h = h
left-after Se ts psks h = h
left-after Ss ts psks h = h

module _ (tokens ts : List Token) (t : Token) (split : tokens ≡ t ∷ ts) where
  pub psk-due : (n : ℕ) → count_by is_psk tokens ≤ n → t ≡ Psk → 0 < n
  psk-due n h e =
      let at : tokens ≡ Psk ∷ ts = split ∙ ap (λ (u : Token). u ∷ ts) e in
      let due : count_by is_psk (Psk ∷ ts) ≤ n = subst (λ (us : List Token). count_by is_psk us ≤ n) at h in
      let one : count_by is_psk (Psk ∷ ts) ≡ suc (count_by is_psk ts) = one-more ts in
      omega (arith, due, one)

  -- the first is a DH without a result
  pub lacks-first : (w : Writer) (known : Remote) (psks : List (List ℕ)) → ((x : List ℕ) → Gives w known psks t x → ⊥)
      → LacksDhResultAt w known psks tokens 0
  lacks-first w known psks h =
      subst (λ (us : List Token). LacksDhResultAt w known psks us 0) (sym split) (record {
        within = one-of ts;
        before = [];
        given = tt;
        none = none;
      })
    where
      one-of : (us : List Token) → 0 < length (t ∷ us)
      one-of us = omega arith

      none : (xs : List (List ℕ)) → Given w known psks (take 1 (t ∷ ts)) xs → ⊥
      none [] g = g
      none (x ∷ xs) g = h x g.0

  pub all-first : (test : Token → Bool) → IsTrue (list_all test tokens) → IsTrue (test t)
  all-first test h = (and_parts (test t) (list_all test ts) (subst (λ (us : List Token). IsTrue (list_all test us)) split h)).0

  -- what those after it ask
  pub all-later : (test : Token → Bool) → IsTrue (list_all test tokens) → IsTrue (list_all test ts)
  all-later test h = (and_parts (test t) (list_all test ts) (subst (λ (us : List Token). IsTrue (list_all test us)) split h)).1

  pub psks-later : (psks others : List (List ℕ)) → others ≡ psks_after psks t → count_by is_psk tokens ≤ length psks
      → count_by is_psk ts ≤ length others
  psks-later psks others e h = search (rules, left-after)
