use Rattle.std.proofs.Common.{◌≡◌, ◌++◌, ℕ, List, OnOk, Option, subst}
use Rattle.noise_compare.specs.Shown.{logged_text, value_line}
use Rattle.noise_compare.proofs.shown.push_value_line.Goals as goal

pub returns : goal.returns
unfolding value_line
returns c =
    let old = c.args.text.now.items in
    subst
    (λ (bytes : Option (List ℕ)). OnOk c.push_if_logged.result
    (c.push_if_logged.new.text.items ≡ old ++ logged_text c.args.value c.args.at.now c.args.logged.now bytes))
    c.logged_value-bytes.ensures c.push_if_logged.ensures
