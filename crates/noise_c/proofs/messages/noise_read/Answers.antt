use Rattle.std.proofs.Common.{◌≤◌, refl, arith}
use Rattle.noise_c.proofs.messages.noise_read.Goals.{else-code-ge-SHORT-via-then-code-ge-SHORT+else-code-le-TAG, else-code-ge-SHORT-via-else-code-ge-SHORT}
use Rattle.noise_c.proofs.Refused.{ends}
use Rattle.noise_c.proofs.messages.noise_read.Goals as goal

pub returns-then-code-le-TAG-clause-outcome : goal.returns-then-code-le-TAG-clause-outcome
returns-then-code-le-TAG-clause-outcome c =
    ends c.args.handshake.now c.read_next-code.new.handshake _ c.args.message.now c.read_next-code.new.message
    c.args.results.now c.read_next-code.new.results c.read_next-code.result c.read_next-code.ensures.outcome
    (λ _. refl) (λ other. absurd (other (omega (arith, c.if-code-ge-SHORT.true), omega (arith, c.if-code-le-TAG.true))))

pub returns-else-code-ge-SHORT-clause-outcome : goal.returns-else-code-ge-SHORT-clause-outcome
returns-else-code-ge-SHORT-clause-outcome c =
    let low-or-high : (15 ≤ c.read_next-code.result) × (c.read_next-code.result ≤ 16) → ⊥ =
    elim c.else-code-ge-SHORT.branch [
      | else-code-ge-SHORT-via-then-code-ge-SHORT+else-code-le-TAG w ↦ (λ b. omega (arith, b.1, w.if-code-le-TAG.false))
      | else-code-ge-SHORT-via-else-code-ge-SHORT w ↦ (λ b. omega (arith, b.0, w.if-code-ge-SHORT.false))
    ] in
    ends c.args.handshake.now c.read_next-code.new.handshake _ c.args.message.now c.read_next-code.new.message
    c.args.results.now c.read_next-code.new.results c.read_next-code.result c.read_next-code.ensures.outcome
    (λ b. absurd (low-or-high b)) (λ _. refl)
