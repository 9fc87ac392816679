-- What holds of every handshake holds after a message.
use Rattle.std.proofs.Common.{rules, ◌≡◌, ℕ, suc, ◌+◌, ◌*◌, ◌<◌, ◌≤◌, List, length, drop, ap, sym, subst, ◌∙◌, arith, length-drop}
use Rattle.noise_handshake.proofs.Common.{count_by, Token, is_psk, has_psk, has_key, keyed, nonce_now, SymmetricState, Remote, keyed_after_tokens, tokens_at, HandshakeValue, nonce_after_message, nonce_due, psks_of, IsSound, passed_places}
use Rattle.noise_handshake.proofs.Counting.{bound-after, due-next, message-most}
use Rattle.noise_handshake.proofs.Places.{has_key-passed}
use Rattle.noise_keys.specs.Keys.{KeyPairs}

module _ {K : Type 0} (pairs : K → KeyPairs) (h : HandshakeValue K) (s : IsSound pairs h) (tokens : List Token)
    (e : tokens ≡ tokens_at h.pattern.messages h.passed) (due : h.passed < length h.pattern.messages) where
  counted : psks_of (drop h.passed h.pattern.messages) ≡ count_by is_psk tokens + psks_of (drop (suc h.passed) h.pattern.messages)
  counted = search rules

  -- there is a key after it exactly where the pattern says so
  pub key-after : (state : SymmetricState) (passed : ℕ) → passed ≡ h.passed + 1
      → keyed state ≡ keyed_after_tokens (has_psk h.pattern) (keyed h.state) tokens → keyed state ≡ has_key h.pattern (passed_places h.pattern passed)
  key-after state passed p k = search (rules, has_key-passed)

  -- its nonce counts the texts under that key
  pub nonce-after : (state : SymmetricState) (passed : ℕ) → passed ≡ h.passed + 1
      → nonce_now state ≡ nonce_after_message (has_psk h.pattern) (keyed h.state) (nonce_now h.state) tokens → nonce_now state ≡ nonce_due h.pattern passed
  nonce-after state passed p k = search (rules, due-next)

  pub sound-after : (remote : Remote) (state : SymmetricState) (psks : List (List ℕ)) (passed : ℕ) → passed ≡ h.passed + 1
      → psks ≡ drop (count_by is_psk tokens) h.psks
      → keyed state ≡ keyed_after_tokens (has_psk h.pattern) (keyed h.state) tokens → length tokens ≤ 10
      → nonce_now state ≡ nonce_after_message (has_psk h.pattern) (keyed h.state) (nonce_now h.state) tokens
      → IsSound pairs (record h { remote = remote; state = state; psks = psks; passed = passed })
  sound-after remote state psks passed p d k short u = record {
    within = omega (arith, due, p);
    few = s.few;
    psks = omega (
      arith,
      ap length d,
      length-drop (count_by is_psk tokens) h.psks,
      counted,
      s.psks,
      ap (λ (i : ℕ). psks_of (drop i h.pattern.messages)) (next ∙ sym p),
    );
    has_e = s.has_e;
    has_s = s.has_s;
    keyed = key-after state passed p k;
    nonce = nonce-after state passed p u;
    bound = subst (λ (i : ℕ). nonce_now state ≤ 11 * i) (sym p) (bound-after h.passed (nonce_now h.state) (nonce_now state) (length tokens) s.bound
        (omega (arith, u, message-most (has_psk h.pattern) (keyed h.state) (nonce_now h.state) tokens)) short);
  } where
    next : suc h.passed ≡ h.passed + 1
    next = omega arith
