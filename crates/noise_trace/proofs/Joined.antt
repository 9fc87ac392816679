-- The bytes of steps, joined.
use Rattle.std.proofs.Common.{◌≡◌, ℕ, ◌+◌, ◌-◌, List, [], ◌∷◌, ◌++◌, length, take, drop, drop-drop, refl, sym, ap, ◌∙◌, arith, append_assoc, append-nil, length-append}
use Rattle.noise_trace.proofs.Common.{take_at, drop_at, Bool, slice_range, Token, SymmetricState, ciphertext, token_bytes, after_token, before_payload, after_tokens, message_bytes, Step, joined, token_steps, payload_step, message_steps}

joined-append : (m : List ℕ) (a b : List Step) → joined m (a ++ b) ≡ joined m a ++ joined m b
joined-append m [] b = refl
joined-append m (s ∷ a) b = search (append_assoc, (joined-append m a b))

-- the bytes from a place on, so many of them
part-is : (m x more : List ℕ) (from n : ℕ) → drop from m ≡ x ++ more → n ≡ length x → slice_range m from (from + n) ≡ x
part-is m x more from n e w =
    let count : (from + n) - from ≡ n = omega arith in
    ap (λ (k : ℕ). take k (drop from m)) count ∙ ap (take n) e ∙ take_at x more n (sym w)

joined-tokens : (has_psks : Bool) (r : SymmetricState) (ts : List Token) (xs : List (List ℕ)) (from : ℕ) (m more : List ℕ)
    → drop from m ≡ before_payload has_psks r ts xs ++ more → joined m (token_steps has_psks r from ts xs) ≡ before_payload has_psks r ts xs
joined-tokens has_psks r [] xs from m more e = refl
joined-tokens has_psks r (t ∷ ts) [] from m more e = refl
joined-tokens has_psks r (t ∷ ts) (x ∷ xs) from m more e =
    let part : List ℕ = token_bytes r t x in
    let after : SymmetricState = after_token has_psks r t x in
    let rest : List ℕ = before_payload has_psks after ts xs in
    let split : drop from m ≡ part ++ (rest ++ more) = e ∙ append_assoc part rest more in
    let next : drop (from + length part) m ≡ rest ++ more =
    sym (drop-drop (length part) from m) ∙ ap (drop (length part)) split ∙ drop_at part (rest ++ more) (length part) refl in
    ap (λ (z : List ℕ). z ++ joined m (token_steps has_psks after (from + length part) ts xs)) (part-is m part (rest ++ more) from (length part) split refl)
    ∙ ap (λ (z : List ℕ). part ++ z) (joined-tokens has_psks after ts xs (from + length part) m more next)

-- those of a message are the message
pub joined-message : (has_psks : Bool) (r : SymmetricState) (ts : List Token) (xs : List (List ℕ)) (payload : List ℕ)
    → joined (message_bytes has_psks r ts xs payload) (message_steps has_psks r ts xs payload) ≡ message_bytes has_psks r ts xs payload
joined-message has_psks r ts xs payload =
    let m : List ℕ = message_bytes has_psks r ts xs payload in
    let first : List ℕ = before_payload has_psks r ts xs in
    let last : List ℕ = ciphertext (after_tokens has_psks r ts xs) payload in
    let here : drop (length first) m ≡ last ++ [] = drop_at first last (length first) refl ∙ sym (append-nil last) in
    let ends : slice_range m (length first) (length m) ≡ last = search (length-append, part-is) in
    joined-append m (token_steps has_psks r 0 ts xs) (payload_step has_psks r ts xs payload ∷ [])
    ∙ ap (λ (z : List ℕ). z ++ (slice_range m (length first) (length m) ++ [])) (joined-tokens has_psks r ts xs 0 m last refl)
    ∙ ap (λ (z : List ℕ). first ++ z) (append-nil (slice_range m (length first) (length m)) ∙ ends)
