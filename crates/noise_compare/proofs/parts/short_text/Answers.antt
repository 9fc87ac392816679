use Rattle.noise_compare.proofs.parts.short_text.Goals as goal

pub returns-clause-text : goal.returns-clause-text
returns-clause-text c =
    record { whole = c.in_ok-text.text.items; whole_is = c.in_ok-text.ensures; text_is = c.truncate.ensures.items }
