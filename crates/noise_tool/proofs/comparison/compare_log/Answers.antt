use Rattle.std.proofs.Common.{◌≡◌, ◌∙◌, sym, subst, inl, inr}
use Rattle.noise_tool.specs.Answers.{IsLine, answer_value}
use Rattle.noise_tool.specs.Comparing.{uncompared_line}
use Rattle.noise_tool.specs.declared.comparison.Uncompared.{Uncompared}
use Rattle.noise_tool.specs.declared.comparison.Uncompared.TheVariants.{NamedTwice}
use Rattle.noise_tool.proofs.comparison.compare_log.Goals as goal

pub returns-in-Made-clause-made : goal.returns-in-Made-clause-made
returns-in-Made-clause-made g c = record {
  compared = inl (record {
    report = c.in-Made.report;
    compares = rw c.in-Made.is at c.in_ok-report.ensures.made;
    out = c.output.ensures.out;
    alone = (c.output.ensures.err, c.output.ensures.status ∙ c.finding_status-status.ensures.status);
  });
  twice = λ both. let bad = sym c.in-Made.is ∙ c.in_ok-report.ensures.twice both in absurd (cc bad);
}

pub returns-in-Wrong-clause-made : goal.returns-in-Wrong-clause-made
returns-in-Wrong-clause-made g c =
    let told = answer_value c.refusal.result in
    let why = c.in-Wrong.why in
    let line : IsLine told (uncompared_line c.args.names.now why) 2 =
    (c.refusal.ensures.out, c.refusal.ensures.err ∙ c.in_ok-uncompared_line-in-Wrong.ensures, c.refusal.ensures.status) in
    record {
      compared = inr (inl (why, rw c.in-Wrong.is at c.in_ok-report.ensures.wrong, line));
      twice = λ both.
          let e = sym c.in-Wrong.is ∙ c.in_ok-report.ensures.twice both in
          let same : why ≡ NamedTwice = cc e in
          inl (subst (λ (w : Uncompared). IsLine told (uncompared_line c.args.names.now w) 2) same line);
    }

pub returns-clause-made : goal.returns-clause-made
returns-clause-made g c = record {
  compared = inr (inr (inr (
    c.in-Unread.which,
    rw c.in-Unread.is at c.in_ok-report.ensures.unread,
    (c.refusal-in-Unread.ensures.out, c.refusal-in-Unread.ensures.err ∙ c.in_ok-unread_line-in-Unread.ensures, c.refusal-in-Unread.ensures.status),
  )));
  twice = λ both. let bad = sym c.in-Unread.is ∙ c.in_ok-report.ensures.twice both in absurd (cc bad);
}
