use Rattle.std.proofs.Common.{rules, ◌∙◌, ap₂, lit<, List, ℕ, ◌∷◌, ◌++◌, Some}
use Rattle.noise_vectors.proofs.Common.{Decides-eqb, strip_prefix_is}
use Rattle.noise_vectors.proofs.LackLemmas.{lacks-encode_lower}
use Rattle.noise_vectors.proofs.PartyLemmas.{answer-keys}
use Rattle.noise_vectors.proofs.parties.read_answer.Goals as goal

pub returns-in_err-remote-clause-every : goal.returns-in_err-remote-clause-every
returns-in_err-remote-clause-every c = search (rules, strip_prefix_is, lacks-encode_lower, lit<, answer-keys)

pub returns-in_err-read_key-clause-every : goal.returns-in_err-read_key-clause-every
returns-in_err-read_key-clause-every c = search (rules, strip_prefix_is, answer-keys, lacks-encode_lower, lit<)

pub returns-in_err-read_key-2-clause-every : goal.returns-in_err-read_key-2-clause-every
returns-in_err-read_key-2-clause-every c = search (rules, strip_prefix_is, answer-keys, lacks-encode_lower, lit<)

pub returns-clause-text : goal.returns-clause-text
returns-clause-text c =
    let split = strip_prefix_is Decides-eqb c.args.line.now c.as_slice.result.now (Some c.in_ok-strip_prefix.field-0) c.in_ok-strip_prefix.ensures.cases in
    let keys = c.in_ok-remote.ensures.parts ∙ ap₂ (λ (x y : List ℕ). x ++ 32 ∷ y) c.in_ok-read_key.ensures.value c.in_ok-read_key-2.ensures.value in
    split ∙ ap₂ (λ (x y : List ℕ). x ++ y) c.as_slice.ensures
    (c.in_ok-own.ensures.parts ∙ ap₂ (λ (x y : List ℕ). x ++ 32 ∷ y) c.in_ok-read_own.ensures.value keys)
