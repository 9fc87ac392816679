use Rattle.std.proofs.Common.{◌∙◌, ◌++◌, ◌∷◌, [], ap, ap₂, ℕ, List}
use Rattle.std.specs.Prelude.{decimal}
use Rattle.noise_run.proofs.Common.{bytes_of}
use Rattle.noise_run.proofs.PrintedLemmas.{bytes-push}
use Rattle.noise_run.proofs.run.push_window.Goals as goal

pub returns-clause-lines : goal.returns-clause-lines
returns-clause-lines c =
    ap bytes_of c.in_ok-push.ensures.items ∙ bytes-push c.args.lines.now.items c.into_bytes.result
    ∙ ap (λ (t : List ℕ). bytes_of c.args.lines.now.items ++ t ∷ [])
    (c.into_bytes.ensures.text ∙ c.in_ok-line.ensures ∙ ap₂ (λ (t : List ℕ) (n : ℕ). t ++ 32 ∷ decimal n) c.in_ok-new.ensures.text c.width.ensures)
