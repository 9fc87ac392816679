use Rattle.std.proofs.Common.{◌≡◌, ◌++◌, ◌-◌, ℕ, List, length, refl, ap, ◌∙◌, arith, length-append}
use Rattle.noise_handshake.proofs.LateParties.{some-psks}
use Rattle.noise_handshake.proofs.handshake.Handshake.from_parts.Goals as goal

pub of_parts-requires-clause-whole : goal.of_parts-requires-clause-whole
of_parts-requires-clause-whole g c =
    let psks : List (List ℕ) = c.try_extend_from_slice.new.self.items in
    let same : psks ≡ c.args.psks.now = rw c.unwrap.ensures at c.try_extend_from_slice.ensures.ok
    ∙ ap (λ (z : List (List ℕ)). z ++ c.args.psks.now) c.new-given.ensures in
    let total : ℕ = c.in_ok-psks_due.field-0 in
    let x = some-psks (total - length c.args.psks.now) in
    let count : length (psks ++ x.0) ≡ total = omega (arith, length-append psks x.0, x.1, ap length same, c.if-branch.false) in
    (x.0, (c.in_ok-psks_due.ensures.2 (psks ++ x.0)).1 count)

pub returns-clause-whole : goal.returns-clause-whole
returns-clause-whole g c =
    let psks : List (List ℕ) = c.args.psks.now in
    let total : ℕ = c.in_ok-psks_due.field-0 in
    let x = some-psks (total - length psks) in
    let count : length (psks ++ x.0) ≡ total = omega (arith, length-append psks x.0, x.1, c.if-branch.false) in (
      λ _. (x.0, (c.in_ok-psks_due.ensures.2 (psks ++ x.0)).1 count),
      λ _. refl,
    )
