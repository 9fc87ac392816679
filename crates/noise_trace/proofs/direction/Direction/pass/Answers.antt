use Rattle.std.proofs.Common.{◌≡◌, ℕ, ◌+◌, List, ◌∙◌, ap}
use Rattle.noise_trace.proofs.Common.{Option, unwrap_or, rekeyed_after}
use Rattle.noise_session.specs.Transport.{transport_key}
use Rattle.noise_trace.specs.declared.direction.Direction.{Direction}
use Rattle.noise_trace.proofs.Rekeys.{key-next}
use Rattle.noise_trace.proofs.direction.Direction.pass.Goals as goal

pub returns-clause-next : goal.returns-clause-next
returns-clause-next c r writer n same more =
    let i : ℕ = c.args.interval in
    let place : c.args.self.now.nonce ≡ n = ap (λ (d : Direction). d.nonce) same in
    let key : c.args.self.now.key ≡ transport_key r writer i n = ap (λ (d : Direction). d.key) same in
    let renewed : c.rekeyed_at-renewed.result ≡ rekeyed_after r writer i n =
    c.rekeyed_at-renewed.ensures r writer n key (ap (λ (k : ℕ). k + 1) place) in
    let next : c.unwrap_or.result ≡ transport_key r writer i (n + 1) =
    c.unwrap_or.ensures ∙ ap (λ (o : Option (List ℕ)). unwrap_or o c.args.self.now.key) renewed
    ∙ ap (unwrap_or (rekeyed_after r writer i n)) key ∙ key-next r writer i n in
    cc (ap (λ (k : ℕ). k + 1) place)
