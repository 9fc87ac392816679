use Rattle.std.proofs.Common.{◌≡◌, ◌∙◌, inl, inr}
use Rattle.noise_tool.proofs.compared_document.compared_answer.Goals as goal

pub returns-in_ok-written-in-Made-clause-made : goal.returns-in_ok-written-in-Made-clause-made
returns-in_ok-written-in-Made-clause-made g c = inl (
  c.in_ok-written-in-Made.ensures.alone.0,
  inl (record {
    report = c.in-Made.report;
    facts = c.in-Made.facts;
    compares = rw c.in-Made.is at c.in_ok-report.ensures.made;
    found = rw c.in-Made.is at c.in_ok-report.ensures.facts;
    status_is = c.in_ok-written-in-Made.ensures.alone.1 ∙ c.finding_status-status.ensures.status;
    text_is = rw (c.deref.ensures.value, c.finding_status-status.ensures.status) at c.in_ok-written-in-Made.ensures.out;
  }),
)

pub returns-in_ok-written-in-Wrong-clause-made : goal.returns-in_ok-written-in-Wrong-clause-made
returns-in_ok-written-in-Wrong-clause-made g c = inl (
  c.in_ok-written-in-Wrong.ensures.alone.0,
  inr (record {
    why = c.in-Wrong.why;
    is_why = rw c.in-Wrong.is at c.in_ok-report.ensures.wrong;
    status_is = c.in_ok-written-in-Wrong.ensures.alone.1;
    text_is = rw (c.deref-in-Wrong.ensures.value, c.in_ok-line-in-Wrong.ensures, c.in_ok-refused_facts-in-Wrong.ensures) at c.in_ok-written-in-Wrong.ensures.out;
  }),
)

pub returns-in_ok-unread_line-in-Unread-clause-made : goal.returns-in_ok-unread_line-in-Unread-clause-made
returns-in_ok-unread_line-in-Unread-clause-made g c = inr (inr (
  c.in-Unread.which,
  rw c.in-Unread.is at c.in_ok-report.ensures.unread,
  (c.refusal.ensures.out, c.refusal.ensures.err ∙ c.in_ok-unread_line-in-Unread.ensures, c.refusal.ensures.status),
))
