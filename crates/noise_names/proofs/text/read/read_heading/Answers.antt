use Rattle.std.proofs.Common.{rules}
use Rattle.noise_names.proofs.Common.{codes, section_bytes, section_bytes-all}
use Rattle.noise_names.proofs.Reading.{heading-spelled, heading-parts, heading-rest, section-of, stripped, not-stripped, ok-same, ok-not-err}
use Rattle.noise_names.proofs.text.read.read_heading.Goals as goal

pub returns-in_err-after-clause-every : goal.returns-in_err-after-clause-every
returns-in_err-after-clause-every c = λ s after h e.
    let parts = heading-parts c.args.text.now (section_bytes s.base s.places) after _ _ _ (section_bytes-all s h) e c.section_len.ensures
    c.split_at.ensures.front c.split_at.ensures.back in
    absurd (not-stripped _ (codes ":") c.in_err-after.ensures.cases after parts.1)

pub returns-in-Ok-clause-every : goal.returns-in-Ok-clause-every
returns-in-Ok-clause-every c = λ s after h e.
    let parts = heading-parts c.args.text.now (section_bytes s.base s.places) after _ _ _ (section_bytes-all s h) e c.section_len.ensures
    c.split_at.ensures.front c.split_at.ensures.back in (
      ok-same c.parse_section.result c.in-Ok.name s c.in-Ok.is (section-of s _ _ h parts.0 c.parse_section.ensures),
      heading-rest _ _ _ parts.1 (stripped _ (codes ":") c.in_ok-after.after c.in_ok-after.ensures.cases),
    )

pub returns-in-Err-clause-every : goal.returns-in-Err-clause-every
returns-in-Err-clause-every c = λ s after h e.
    let parts = heading-parts c.args.text.now (section_bytes s.base s.places) after _ _ _ (section_bytes-all s h) e c.section_len.ensures
    c.split_at.ensures.front c.split_at.ensures.back in
    absurd (ok-not-err c.parse_section.result c.in-Err.field-0 s c.in-Err.is (section-of s _ _ h parts.0 c.parse_section.ensures))

pub returns-in-Ok-clause-some : goal.returns-in-Ok-clause-some
returns-in-Ok-clause-some c = search (rules, heading-spelled, stripped)
