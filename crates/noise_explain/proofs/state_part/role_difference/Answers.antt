use Rattle.std.proofs.Common.{rules, ◌≡◌, ◌∙◌, ap, sym, ◌++◌, ℕ, List}
use Rattle.noise_explain.specs.StateParts.{state_front}
use Rattle.noise_explain.proofs.state_part.role_difference.Goals as goal

pub returns-in_default-clause-none : goal.returns-in_default-clause-none
returns-in_default-clause-none c =
    let front : c.as_bytes.result.now ≡ state_front c.args.role = search rules in
    λ differ yours right are. c.in_default.ensures.none yours (are.expected_is ∙ ap (λ (f : List ℕ). f ++ yours) (sym front))

pub returns-in_default-word_after-clause-none : goal.returns-in_default-word_after-clause-none
returns-in_default-word_after-clause-none c =
    let front : c.as_bytes-2.result.now ≡ state_front c.args.role = search rules in
    λ differ yours right are. c.in_default-word_after.ensures.none right (are.printed_is ∙ ap (λ (f : List ℕ). f ++ right) (sym front))
