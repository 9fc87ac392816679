use Rattle.std.proofs.Common.{◌≡◌, ◌∙◌, ap, sym, refl, List, ℕ, [], ◌++◌}
use Rattle.noise_tool.proofs.Common.{lines_text, verdict_text}
use Rattle.noise_lines.specs.declared.verdict.Verdict.TheVariants.{Differs}
use Rattle.noise_lines.specs.Verdicts.{bytes_in}
use Rattle.noise_tool.specs.Testing.{listed}
use Rattle.noise_tool.proofs.TestingLemmas.{differs-text, plain-text, tested-run}
use Rattle.noise_tool.proofs.testing.tested_run.Goals as goal

pub returns-in_default : goal.returns-in_default
returns-in_default c known unreadable comes =
    let verdict = c.in_ok-verdict.verdict in
    let plain = plain-text c.args.traces c.args.name.now verdict c.args.run.traced (λ d is. c.in_default.not-Differs d is) in
    tested-run c.args.traces known unreadable c.args.name.now c.args.run verdict [] _ _ comes
    (rw (c.deref.ensures.value, c.deref-2.ensures.value) at c.in_ok-verdict.ensures) (plain.1 c.args.run.pattern)
    (c.text_of.ensures ∙ c.in_ok-text.ensures ∙ sym plain.0) c.is_met.ensures

pub returns : goal.returns
returns c known unreadable comes =
    let d = c.in-Differs.difference in
    let piece = listed (bytes_in c.in_ok-line.line) in
    let text = c.in_ok-text.ensures ∙ ap (verdict_text c.args.name.now) c.in-Differs.is in
    let head = c.in_ok-head.ensures ∙ ap (λ (t : List ℕ). t ++ lines_text piece) text in
    tested-run c.args.traces known unreadable c.args.name.now c.args.run (Differs d) piece _ _ comes
    (rw (c.deref.ensures.value, c.deref-2.ensures.value, c.in-Differs.is) at c.in_ok-verdict.ensures) c.in_ok-line.ensures
    (differs-text c.args.traces c.args.name.now d piece c.args.run.traced _ _ head c.with_front.ensures) refl
