use Rattle.std.proofs.Common.{◌≡◌, ◌++◌, ℕ, List, length, ap, sym, ◌∙◌, arith}
use Rattle.noise_handshake.proofs.Common.{None, Plan, setup_fault}
use Rattle.noise_handshake.proofs.Setting.{counted}
use Rattle.noise_handshake.proofs.handshake.Handshake.with_fewer_psks.Goals as goal

pub begin-requires-clause-right : goal.begin-requires-clause-right
begin-requires-clause-right g c =
    let own = (g.K.Keys.pairs c.args.keys).public in
    let n : ℕ = c.max-count.result in
    let none : setup_fault c.args.pattern c.args.role own c.args.remote n ≡ None =
    ap (λ (z : Plan). setup_fault z c.args.role own c.args.remote n) (sym c.pattern-plan.ensures.value) ∙ sym c.setup_fault.ensures.fault ∙ c.in_default.is in
    ap (λ (k : ℕ). setup_fault c.args.pattern c.args.role own c.args.remote k) (sym (counted c.args.pattern c.args.role own c.args.remote n none)) ∙ none

pub begin-requires-clause-few : goal.begin-requires-clause-few
begin-requires-clause-few g c =
    let own = (g.K.Keys.pairs c.args.keys).public in
    let n : ℕ = c.max-count.result in
    let none : setup_fault c.args.pattern c.args.role own c.args.remote n ≡ None =
    ap (λ (z : Plan). setup_fault z c.args.role own c.args.remote n) (sym c.pattern-plan.ensures.value) ∙ sym c.setup_fault.ensures.fault ∙ c.in_default.is in
    let same : c.try_extend_from_slice.new.self.items ≡ c.args.psks.now = rw c.unwrap.ensures at c.try_extend_from_slice.ensures.ok
    ∙ ap (λ (z : List (List ℕ)). z ++ c.args.psks.now) c.new-given.ensures in
    omega (arith, ap length same, counted c.args.pattern c.args.role own c.args.remote n none, c.max-count.ensures)
