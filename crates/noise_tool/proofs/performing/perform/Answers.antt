use Rattle.std.proofs.Common.{rules, inl, inr, refl, ◌≡◌, ◌⊎◌}
use Rattle.noise_tool.proofs.Common.{EndsTest, Fault, status_of}
use Rattle.noise_tool.specs.Comparing.{IsCompareAnswer}
use Rattle.noise_tool.specs.ComparedDocuments.{IsDocumentAnswer}
use Rattle.noise_tool.specs.Explaining.{IsExplainAnswer}
use Rattle.noise_tool.specs.Filling.{IsFillAnswer, IsWordFault}
use Rattle.noise_tool.specs.Performing.{IsCommandAnswer}
use Rattle.std.specs.Prelude.{map, string_bytes}
use Rattle.noise_lines.specs.declared.faults.Fault.TheVariants.{Memory}
use Rattle.noise_tool.proofs.AnswerLemmas.{outcome-by, outcome-told}
use Rattle.noise_tool.proofs.DocumentLemmas.{tells-document}
use Rattle.noise_tool.proofs.performing.perform.Goals as goal

pub returns-in-Command-clause-done : goal.returns-in-Command-clause-done
returns-in-Command-clause-done g c =
    rw c.in-Command.is (outcome-by (g.O.Write.contents) (g.E.Write.contents) (IsCommandAnswer (g.F.FilesByName.bytes_at c.args.files.now)
    (g.F.FilesByName.unreadable c.args.files.now) c.in-Command.chosen) c.command_answer.result _ _ _ _ _ c.command_answer.ensures.made
    c.command_answer.ensures.fault (inl (Memory, refl, refl)) c.print.ensures.told)

pub returns-in-Test-clause-tested : goal.returns-in-Test-clause-tested
returns-in-Test-clause-tested g c = rw c.in-Test.is (record {
  tested = search rules;
  outside = search rules;
  prefix = search rules;
})

pub returns-in-Explain-clause-explained : goal.returns-in-Explain-clause-explained
returns-in-Explain-clause-explained g c =
    rw c.in-Explain.is (outcome-told (g.O.Write.contents) (g.E.Write.contents) (IsExplainAnswer c.in-Explain.asked.fixes
    (g.F.FilesByName.bytes_at c.args.files.now) (g.F.FilesByName.unreadable c.args.files.now) (map string_bytes c.in-Explain.asked.files.items)) EndsTest
    c.explain_files-made.result _ _ _ _ _ (λ told tells. inr (inr tells)) (rw c.deref-in-Explain.ensures.value at c.explain_files-made.ensures.made)
    c.explain_files-made.ensures.fault (inl refl) c.print-in-Explain.ensures.told)

pub returns-in-Compare-clause-compared : goal.returns-in-Compare-clause-compared
returns-in-Compare-clause-compared g c =
    rw c.in-Compare.is (outcome-told (g.O.Write.contents) (g.E.Write.contents) (IsCompareAnswer c.in-Compare.names
    (g.F.FilesByName.bytes_at c.args.files.now) (g.F.FilesByName.unreadable c.args.files.now)) EndsTest c.compare_log.result _ _ _ _ _
    (λ told tells. record { compared = inr (inr (inl tells)); twice = λ both. inr tells }) c.compare_log.ensures.made c.compare_log.ensures.fault
    (inl refl) c.print-in-Compare.ensures.told)

pub returns-in-Document-clause-documented : goal.returns-in-Document-clause-documented
returns-in-Document-clause-documented g c =
    rw c.in-Document.is (outcome-told (g.O.Write.contents) (g.E.Write.contents) (IsDocumentAnswer c.in-Document.asked
    (g.F.FilesByName.bytes_at c.args.files.now) (g.F.FilesByName.unreadable c.args.files.now)) EndsTest c.document_answer.result _ _ _ _ _
    (tells-document c.in-Document.asked _ _) c.document_answer.ensures.made c.document_answer.ensures.fault (inl refl)
    c.print-in-Document.ensures.told)

pub returns-in-Fill-clause-filled : goal.returns-in-Fill-clause-filled
returns-in-Fill-clause-filled g c =
    rw c.in-Fill.is (outcome-told (g.O.Write.contents) (g.E.Write.contents) (IsFillAnswer c.in-Fill.names
    (g.F.FilesByName.bytes_at c.args.files.now) (g.F.FilesByName.unreadable c.args.files.now))
    (λ (why : Fault). (status_of why ≡ 3) ⊎ IsWordFault (string_bytes c.in-Fill.names.pattern) (g.F.FilesByName.bytes_at c.args.files.now)
    (g.F.FilesByName.unreadable c.args.files.now) why) c.fill_template.result _ _ _ _ _ (λ told tells. inr (inr tells))
    c.fill_template.ensures.made c.fill_template.ensures.fault (inl refl) c.print-in-Fill.ensures.told)
