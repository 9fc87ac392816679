use Rattle.std.proofs.Common.{◌≡◌, ◌≤◌, ◌++◌, ℕ, List, [], ◌∷◌, Bor, OnOk, arith, codes, length, map, refl, subst, sym}
use Rattle.noise_compare.specs.Advice.{mistakes_text, sentences}
use Rattle.noise_compare.specs.Finding.{said}
use Rattle.noise_compare.specs.Report.{ended}
use Rattle.noise_compare.specs.declared.mistake.Mistake.{Mistake}
use Rattle.noise_compare.specs.declared.state.Logged.{Logged}
use Rattle.noise_compare.specs.declared.state.Situation.{Situation}
use Rattle.noise_compare.proofs.advice.push_mistakes.Goals as goal

of_several : (at : Situation) (logged : Logged) (rows : List (Mistake × Bor (List ℕ))) → 2 ≤ length rows
    → mistakes_text at logged (map said rows) ≡ ended (codes "each of these mistakes gives your values:") ++ sentences (map said rows)
of_several at logged [] h = absurd (omega arith)
of_several at logged (row ∷ []) h = absurd (omega arith)
of_several at logged (row ∷ (other ∷ more)) h = refl

pub returns-in-len2-up : goal.returns-in-len2-up
returns-in-len2-up c = subst
    (λ (text : List ℕ). OnOk c.push_headed-in-len2-up.result
    (c.push_headed-in-len2-up.new.text.items ≡ c.args.text.now.items ++ text))
    (sym (of_several c.args.at.now c.args.logged.now c.args.found.now (omega (arith, c.in-len2-up.len_at_least))))
    c.push_headed-in-len2-up.ensures
