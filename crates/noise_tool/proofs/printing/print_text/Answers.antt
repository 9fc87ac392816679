use Rattle.std.proofs.Common.{◌≡◌, ◌∙◌, sym, []}
use Rattle.noise_tool.proofs.AnswerLemmas.{kept-appends, nothing-is, ok-any, something-is, whole-prefix}
use Rattle.noise_tool.proofs.Common.{Appends-nil}
use Rattle.noise_tool.specs.Answers.{printed_text}
use Rattle.noise_tool.proofs.printing.print_text.Goals as goal

pub returns-then-is_empty-clause-written : goal.returns-then-is_empty-clause-written
returns-then-is_empty-clause-written g c =
    let none : printed_text c.args.text.now ≡ [] = nothing-is _ _ _ _ (sym c.is_empty.ensures ∙ c.if-is_empty.true) in
    rw none (Appends-nil _)

pub returns-then-is_empty-clause-prefix : goal.returns-then-is_empty-clause-prefix
returns-then-is_empty-clause-prefix g c =
    let none : printed_text c.args.text.now ≡ [] = nothing-is _ _ _ _ (sym c.is_empty.ensures ∙ c.if-is_empty.true) in
    rw none (whole-prefix _ _ [] (Appends-nil _))

pub returns-in_err-write_text-clause-unwritten : goal.returns-in_err-write_text-clause-unwritten
returns-in_err-write_text-clause-unwritten g c none =
    absurd (something-is _ _ _ _ (sym c.is_empty.ensures ∙ c.if-is_empty.false) none)

pub returns-clause-written : goal.returns-clause-written
returns-clause-written g c =
    ok-any c.flush.result _ (kept-appends _ _ _ _ c.in_ok-write_text.ensures.written c.flush.ensures.unchanged)

pub returns-clause-prefix : goal.returns-clause-prefix
returns-clause-prefix g c =
    whole-prefix _ _ _ (kept-appends _ _ _ _ c.in_ok-write_text.ensures.written c.flush.ensures.unchanged)

pub returns-clause-unwritten : goal.returns-clause-unwritten
returns-clause-unwritten g c none = absurd (something-is _ _ _ _ (sym c.is_empty.ensures ∙ c.if-is_empty.false) none)
