use Rattle.std.proofs.Common.{inl, inr, sym, ◌∙◌}
use Rattle.noise_names.proofs.Common.{codes}
use Rattle.noise_names.proofs.Reading.{stripped, not-stripped, pre-both, dots-stripped}
use Rattle.noise_names.proofs.text.read.read_pre_messages.Goals as goal

pub returns-in-Some : goal.returns-in-Some
returns-in-Some c = λ i r ms pi pr sizes e.
    let dots = stripped _ (codes "  ...\n") c.in-Some.messages c.in-Some.ensures.cases in
    let first = c.read_pre_message-initiator.ensures in
    let second = c.read_pre_message-responder.ensures in
    elim (pre-both i r _ _ _ _ _ ms first.some first.none second.some second.none pi pr sizes e) [
      | inl read ↦ (read.first_is, read.second_is, dots-stripped _ _ _ dots read.rest_is)
      | inr none ↦ absurd (none.no_dots _ dots)
    ]

pub returns-in-None : goal.returns-in-None
returns-in-None c = λ i r ms pi pr sizes e.
    let no_dots = not-stripped _ (codes "  ...\n") c.in-None.ensures.cases in
    let first = c.read_pre_message-initiator.ensures in
    let second = c.read_pre_message-responder.ensures in
    elim (pre-both i r _ _ _ _ _ ms first.some first.none second.some second.none pi pr sizes e) [
      | inl read ↦ absurd (no_dots _ read.rest_is)
      | inr none ↦ (c.new.ensures ∙ sym none.no_first, c.new-in-None.ensures ∙ sym none.no_second, none.lines_are)
    ]
