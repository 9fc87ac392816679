use Rattle.std.proofs.Common.{rules, ◌≡◌, ℕ, ◌+◌, List, [], ◌∷◌, ◌++◌, length, take, sym, ap, ◌∙◌, arith}
use Rattle.noise_names.proofs.Common.{take_more, length-take-le, Token, with_psk_tokens, with_psks_from}
use Rattle.noise_names.proofs.PskTokens.{psks-push}
use Rattle.noise_names.proofs.psks.with_psks.Goals as goal

pub loop-message-preserved : goal.loop-message-preserved
loop-message-preserved c =
    let i : ℕ = c.loop-message.message-index in
    let messages : List (List Token) = c.args.messages.now in
    let places : List ℕ = c.args.places.now in
    let m : List Token = c.message-item.result in
    let count : length (take i messages) ≡ i = length-take-le i messages (omega arith) in
    let number : c.loop-message.number ≡ 1 + length (take i messages) = omega arith in
    let here : c.message_with_psks.result ≡ with_psk_tokens places (1 + length (take i messages)) m = search rules in
    let taken : take (i + 1) messages ≡ take i messages ++ m ∷ [] =
    take_more messages i m c.loop-message-test.true ∙ ap (λ (x : List Token). take i messages ++ x ∷ []) (sym c.message-item.is) in (
      omega arith,
      c.push.ensures.items ∙ ap (λ (ms : List (List Token)). ms ++ c.message_with_psks.result ∷ []) c.loop-message.invariant.1
          ∙ ap (λ (x : List Token). with_psks_from places 1 (take i messages) ++ x ∷ []) here
          ∙ sym (psks-push places 1 (take i messages) m) ∙ ap (λ (ms : List (List Token)). with_psks_from places 1 ms) (sym taken),
      omega arith,
    )
