use Rattle.std.proofs.Common.{◌∙◌, ℕ, ◌≤◌, List, [], ◌∷◌, ◌++◌, Vec, Global, ap, sym, length, append_assoc, arith}
use Rattle.noise_lines.proofs.Common.{flat_map, take_all, line}
use Rattle.noise_names.specs.Plan.{Plan}
use Rattle.noise_names.specs.Fundamental.{fundamentals}
use Rattle.noise_lines.proofs.OutputLemmas.{elements-more, fundamentals-count, none-past}
use Rattle.noise_lines.proofs.listing.list.Goals.{in-Some+in_ok-extend_from_slice+in_ok-push, in_default}
use Rattle.noise_lines.proofs.listing.list.Goals as goal

pub loop-place-preserved : goal.loop-place-preserved
loop-place-preserved c =
    elim c.match-fundamental_at.branch [
      | in-Some+in_ok-extend_from_slice+in_ok-push w ↦
          let before : List ℕ = c.loop-place.text.items in
          let base : List ℕ = w.in-Some.pattern.base in
          ap (λ (v : Vec ℕ Global). v.items) w.text-is
          ∙ w.in_ok-push.ensures.items
          ∙ ap (λ (t : List ℕ). t ++ 10 ∷ []) (w.in_ok-extend_from_slice.ensures.items ∙ ap (λ (b : List ℕ). before ++ b) w.base.ensures.value)
          ∙ append_assoc before base (10 ∷ [])
          ∙ ap (λ (t : List ℕ). t ++ line base) c.loop-place.invariant
          ∙ elements-more (λ (p : Plan). line p.base) fundamentals c.loop-place.place w.in-Some.pattern (sym c.fundamental_at.ensures ∙ w.in-Some.is)
      | in_default w ↦
          let past : length fundamentals ≤ c.loop-place.place = none-past fundamentals c.loop-place.place (sym c.fundamental_at.ensures ∙ w.in_default.is) in
          absurd (omega (arith, past, fundamentals-count, c.loop-place-test.true))
    ]

pub returns : goal.returns
returns c =
    c.loop-place.invariant
    ∙ ap (λ (ps : List Plan). flat_map (λ p. line p.base) ps)
    (take_all c.loop-place.place fundamentals (omega (arith, fundamentals-count, c.loop-place-test.false)))
