use Rattle.std.proofs.Common.{◌≡◌, ◌++◌, ℕ, List, length, drop, ap, sym, ◌∙◌, arith}
use Rattle.noise_handshake.proofs.Common.{IsSupplied, None, Plan, party_at_start, psks_of, setup_fault}
use Rattle.noise_handshake.proofs.Setting.{counted}
use Rattle.noise_handshake.proofs.handshake.Handshake.new.Goals as goal

pub begin-requires-clause-right : goal.begin-requires-clause-right
begin-requires-clause-right g c =
    let own = (g.K.Keys.pairs c.args.keys).public in
    let n : ℕ = length c.args.psks.now in
    let none : setup_fault c.args.pattern c.args.role own c.args.remote n ≡ None =
    ap (λ (z : Plan). setup_fault z c.args.role own c.args.remote n) (sym c.pattern-plan.ensures.value) ∙ sym c.setup_fault.ensures.fault ∙ c.in_default.is in
    ap (λ (k : ℕ). setup_fault c.args.pattern c.args.role own c.args.remote k) (sym (counted c.args.pattern c.args.role own c.args.remote n none)) ∙ none

pub begin-requires-clause-few : goal.begin-requires-clause-few
begin-requires-clause-few g c =
    let own = (g.K.Keys.pairs c.args.keys).public in
    let n : ℕ = length c.args.psks.now in
    let none : setup_fault c.args.pattern c.args.role own c.args.remote n ≡ None =
    ap (λ (z : Plan). setup_fault z c.args.role own c.args.remote n) (sym c.pattern-plan.ensures.value) ∙ sym c.setup_fault.ensures.fault ∙ c.in_default.is in
    let same : c.try_extend_from_slice.new.self.items ≡ c.args.psks.now = rw c.unwrap.ensures at c.try_extend_from_slice.ensures.ok
    ∙ ap (λ (z : List (List ℕ)). z ++ c.args.psks.now) c.new-due.ensures in
    omega (arith, ap length same, counted c.args.pattern c.args.role own c.args.remote n none)

pub returns-clause-matches : goal.returns-clause-matches
returns-clause-matches g c =
    let P = g.K.Keys.pairs in
    let own = (P c.args.keys).public in
    let p = c.args.pattern in
    let n : ℕ = length c.args.psks.now in
    let none : setup_fault p c.args.role own c.args.remote n ≡ None =
    ap (λ (z : Plan). setup_fault z c.args.role own c.args.remote n) (sym c.pattern-plan.ensures.value) ∙ sym c.setup_fault.ensures.fault ∙ c.in_default.is in
    let same : c.try_extend_from_slice.new.self.items ≡ c.args.psks.now = rw c.unwrap.ensures at c.try_extend_from_slice.ensures.ok
    ∙ ap (λ (z : List (List ℕ)). z ++ c.args.psks.now) c.new-due.ensures in
    let begun = c.begin.ensures.parts in
    let all : IsSupplied c.begin.result =
    ap length (c.begin.ensures.psks ∙ same) ∙ counted p c.args.role own c.args.remote n none
    ∙ sym (ap (λ (z : Plan). psks_of (drop c.begin.result.passed z.messages)) begun.0 ∙ ap (λ (k : ℕ). psks_of (drop k p.messages)) begun.3) in
    record {
      is = c.begin.ensures.matches ∙ ap (party_at_start p c.args.role c.args.prologue.now own (P c.args.keys).agree c.args.remote) same;
      supplied = all;
    }
