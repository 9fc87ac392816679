use Rattle.std.proofs.Common.{◌≡◌, ◌∙◌, ◌++◌, ap, append_assoc, codes, List, ℕ, string_bytes}
use Rattle.noise_explain.specs.Values.{place_name}
use Rattle.noise_explain.proofs.PushLemmas.{on-ok, two-ok}
use Rattle.noise_explain.proofs.expected.push_expected.Goals as goal

pub returns-in_ok-push_str-in-Unknown : goal.returns-in_ok-push_str-in-Unknown
returns-in_ok-push_str-in-Unknown c = rw c.in-Unknown.is (two-ok c.push_names.result _ _ _ _ _ c.in_ok-push_str-in-Unknown.ensures.bytes c.push_names.ensures)

pub returns-in_ok-push_str-in-Twice : goal.returns-in_ok-push_str-in-Twice
returns-in_ok-push_str-in-Twice c =
    let old : List ℕ = string_bytes c.args.text.now in
    let name : List ℕ = place_name c.in-Twice.place in
    let last : List ℕ = codes " is given twice, expected once" in
    let first : string_bytes c.push_str-in-Twice.new.self ≡ old ++ name =
    c.in_ok-push_str-in-Twice.ensures.bytes ∙ ap (λ (t : List ℕ). old ++ t) (c.as_str.ensures.value ∙ c.in_ok-place_name-in-Twice.ensures) in
    rw c.in-Twice.is
    (on-ok c.push_str-in-Twice-2.result _ _ _ _ c.push_str-in-Twice-2.ensures.bytes
    (λ e. e ∙ ap (λ (t : List ℕ). t ++ last) first ∙ append_assoc old name last))
