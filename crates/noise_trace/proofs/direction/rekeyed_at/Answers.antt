use Rattle.std.proofs.Common.{◌≡◌, ℕ, ◌+◌, ◌%◌, Some, List, sym, ◌∙◌, ap}
use Rattle.noise_aead.specs.Sealing.{rekeyed}
use Rattle.noise_trace.proofs.Rekeys.{key-rekeyed}
use Rattle.noise_trace.proofs.direction.rekeyed_at.Goals as goal

pub returns-then-nonce-interval-eq0 : goal.returns-then-nonce-interval-eq0
returns-then-nonce-interval-eq0 c r writer n key place =
    let none : (n + 1) % c.args.interval ≡ 0 = ap (λ (k : ℕ). k % c.args.interval) (sym place) ∙ c.if-nonce-interval-eq0.true in
    ap (λ (k : List ℕ). Some k) (c.rekey.ensures ∙ ap rekeyed key) ∙ sym (key-rekeyed r writer c.args.interval n c.if-interval-ne0.true none)
