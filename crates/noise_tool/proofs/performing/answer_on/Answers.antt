use Rattle.std.proofs.Common.{◌≡◌, Some}
use Rattle.noise_tool.proofs.Common.{err_from_is_err_and, IsDone}
use Rattle.noise_tool.specs.Performing.{IsUnmet}
use Rattle.noise_words.specs.declared.orders.Chosen.TheVariants.{Check, Convert, List as Listing, Show, Template}
use Rattle.noise_tool.proofs.PerformingLemmas.{gives-done}
use Rattle.noise_tool.proofs.performing.answer_on.Goals as goal

pub returns-in_ok-list-in-List-clause-made : goal.returns-in_ok-list-in-List-clause-made
returns-in_ok-list-in-List-clause-made c =
    let out = c.output.ensures in
    rw c.in-List.is (gives-done (IsDone Listing (Some c.args.text.now)) (IsUnmet Listing (Some c.args.text.now)) _ _ out.out (out.err, out.status) c.in_ok-list-in-List.ensures)

pub returns-in_ok-show_word-in-Show-clause-made : goal.returns-in_ok-show_word-in-Show-clause-made
returns-in_ok-show_word-in-Show-clause-made c =
    let out = c.output-in-Show.ensures in
    rw c.in-Show.is (gives-done (IsDone (Show c.in-Show.word) (Some c.args.text.now)) (IsUnmet (Show c.in-Show.word) (Some c.args.text.now)) _ _ out.out (out.err, out.status)
    (rw c.as_str.ensures.value at c.in_ok-show_word-in-Show.ensures.shown))

pub returns-in_err-show_word-in-Show-clause-fault : goal.returns-in_err-show_word-in-Show-clause-fault
returns-in_err-show_word-in-Show-clause-fault c =
    let p = err_from_is_err_and c.from_residual-in_err-show_word-in-Show.result c.from_residual-in_err-show_word-in-Show.ensures.1 in
    rw (c.in-Show.is, p.1, p.2) (rw c.as_str.ensures.value at c.in_err-show_word-in-Show.ensures.fault)

pub returns-in_ok-check-in-Check-clause-made : goal.returns-in_ok-check-in-Check-clause-made
returns-in_ok-check-in-Check-clause-made c =
    let out = c.output-in-Check.ensures in
    rw c.in-Check.is (gives-done (IsDone (Check c.in-Check.field-0) (Some c.args.text.now)) (IsUnmet (Check c.in-Check.field-0) (Some c.args.text.now)) _ _ out.out (out.err, out.status)
    c.in_ok-check-in-Check.ensures.valid)

pub returns-in_ok-template_text-in-Template-clause-made : goal.returns-in_ok-template_text-in-Template-clause-made
returns-in_ok-template_text-in-Template-clause-made c =
    let out = c.output-in-Template.ensures in
    rw c.in-Template.is (gives-done (IsDone (Template c.in-Template.word) (Some c.args.text.now)) (IsUnmet (Template c.in-Template.word) (Some c.args.text.now)) _ _ out.out (out.err, out.status)
    (rw c.as_str-in-Template.ensures.value at c.in_ok-template_text-in-Template.ensures.made))

pub returns-in_ok-converted_file-in-Convert-clause-made : goal.returns-in_ok-converted_file-in-Convert-clause-made
returns-in_ok-converted_file-in-Convert-clause-made c =
    let out = c.output-in-Convert.ensures in
    rw c.in-Convert.is (gives-done (IsDone (Convert c.in-Convert.field-0) (Some c.args.text.now)) (IsUnmet (Convert c.in-Convert.field-0) (Some c.args.text.now)) _ _ out.out (out.err, out.status)
    c.in_ok-converted_file-in-Convert.ensures.converted)
