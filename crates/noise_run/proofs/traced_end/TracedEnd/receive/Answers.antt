use Rattle.std.proofs.Common.{◌++◌, ◌∙◌, ap}
use Rattle.noise_run.proofs.traced_end.TracedEnd.receive.Goals as goal

pub returns-clause-lines : goal.returns-clause-lines
returns-clause-lines c = λ s reader role notes x matches reported.
    let came = c.deref-2.ensures.value ∙ c.in_ok-extend_from_slice.ensures.items
    ∙ ap (λ xs. xs ++ c.args.bytes.now) (c.in_ok-came.ensures.items ∙ c.deref.ensures.value ∙ matches.partial) in
    let done = c.in_ok-left.ensures.lines s reader role c.args.bytes.now notes x matches.shows came reported in (
      done.1,
      record { shows = record { psks = done.2.psks; follows = done.2.follows }; partial = done.0 },
    )
