-- A datagram is a message of a half whose key is never rekeyed, after its nonce.
use Rattle.std.proofs.Common.{rules, ◌≡◌, ◌≤◌, ℕ, ◌+◌, ◌-◌, List, [], ◌++◌, length, take, drop, Option, Some, None, Ok, ◌∙◌, ap, subst, arith}
use Rattle.noise_session.proofs.Common.{nat_tests, w64, to_be_bytes, put_mid, ciphertext_under, SendFault, last_nonce, HalfValue, sender_fault, SenderSeals, SucceedsUnless, rekeyed_if_due, DatagramSenderValue, unsealed, datagram_sender_value}
use Rattle.noise_session.specs.DatagramCalls.{DatagramSenderSeals, datagram_under}
use Rattle.noise_session.proofs.Places.{after-front, rest-after}

-- what the half refuses, the half of datagrams refuses
pub unsealed-same : (h : HalfValue) (n : ℕ) → h.nonce ≤ last_nonce → sender_fault h n ≡ unsealed h.role h.one_way h.nonce n
unsealed-same h n most = grind (arith, nat_tests)

pub datagram-sealed : (h next : HalfValue) (d : DatagramSenderValue) (n len k : ℕ) (text payload out written after : List ℕ) → datagram_sender_value h ≡ d
    → h.interval ≡ 0 → 8 ≤ length out → text ≡ payload → SenderSeals h next n text (take (length out - 8) (drop 8 out)) written (Ok len)
    → (k ≡ 8 + len) × (k ≤ length after) → take k after ≡ to_be_bytes w64 h.nonce ++ take len (drop 8 (put_mid 8 (length out - 8) out written))
    → drop 8 after ≡ drop 8 (put_mid 8 (length out - 8) out written) → DatagramSenderSeals d (datagram_sender_value next) n payload out after (Ok k)
datagram-sealed h next d n len k text payload out written after is never long same s size front beyond =
    let key : next.key ≡ h.key = s.renewed ∙ ap (λ (i : ℕ). rekeyed_if_due i (h.nonce + 1) h.key) never in
    let counted : datagram_sender_value next ≡ record (datagram_sender_value h) { nonce = h.nonce + 1 } = search in
    let sealed : take k after ≡ datagram_under (datagram_sender_value h) payload =
    front
    ∙ ap (λ (xs : List ℕ). to_be_bytes w64 h.nonce ++ take len xs) (after-front 8 out written long)
    ∙ ap (λ (xs : List ℕ). to_be_bytes w64 h.nonce ++ xs) s.sealed
    ∙ ap (λ (xs : List ℕ). to_be_bytes w64 h.nonce ++ ciphertext_under h.key h.nonce [] xs) same in
    let below : h.nonce ≤ last_nonce = omega (arith, s.below) in
    subst (λ (z : DatagramSenderValue). DatagramSenderSeals z (datagram_sender_value next) n payload out after (Ok k)) is (record {
      fault = subst (λ (why : Option SendFault). SucceedsUnless why (Ok k)) (unsealed-same h n below) (succeeds (sender_fault h n) len k s.fault);
      len = (omega (arith, s.len.0, size.0), size.1);
      rest = rest-after 8 len k out written after long size.0 beyond s.rest;
      counted = counted;
      unchanged = tt;
      sealed = sealed;
      seals = search rules;
    })
  where
    succeeds : (why : Option SendFault) (n m : ℕ) → SucceedsUnless why (Ok n) → SucceedsUnless why (Ok m)
    succeeds None n m ok = ok
    succeeds (Some fault) n m ok = cc
