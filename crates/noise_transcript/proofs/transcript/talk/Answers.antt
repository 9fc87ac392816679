use Rattle.noise_transcript.proofs.Printed.{Once, long-at, met-at, prefix-at, printed-at}
use Rattle.noise_transcript.proofs.Asked.{told-of}
use Rattle.noise_transcript.proofs.transcript.talk.Goals as goal

pub returns-clause-printed : goal.returns-clause-printed
returns-clause-printed g c f p lines fits is =
    let laws : Once = record {
      runs = c.fitting_messages_run.ensures;
      once = c.file_run_once.ensures;
      unique = c.vector_texts_are_unique.ensures;
    } in
    let done = c.perform.ensures.done in
    let told = told-of (g.F.FilesByName.bytes_at c.args.files.now) (g.F.FilesByName.unreadable c.args.files.now) c.args.name laws f p lines fits
    done.told is done.is in
    printed-at laws f p lines fits (g.O.Write.contents) (g.E.Write.contents) done.told told _ _ _ _ _ done.ends

pub returns-clause-met : goal.returns-clause-met
returns-clause-met g c f p lines fits is =
    let laws : Once = record {
      runs = c.fitting_messages_run.ensures;
      once = c.file_run_once.ensures;
      unique = c.vector_texts_are_unique.ensures;
    } in
    let done = c.perform.ensures.done in
    let told = told-of (g.F.FilesByName.bytes_at c.args.files.now) (g.F.FilesByName.unreadable c.args.files.now) c.args.name laws f p lines fits
    done.told is done.is in
    met-at laws f p lines fits (g.O.Write.contents) (g.E.Write.contents) done.told told _ _ _ _ _ done.ends

pub returns-clause-taken : goal.returns-clause-taken
returns-clause-taken g c f p lines fits is =
    let laws : Once = record {
      runs = c.fitting_messages_run.ensures;
      once = c.file_run_once.ensures;
      unique = c.vector_texts_are_unique.ensures;
    } in
    let done = c.perform.ensures.done in
    let told = told-of (g.F.FilesByName.bytes_at c.args.files.now) (g.F.FilesByName.unreadable c.args.files.now) c.args.name laws f p lines fits
    done.told is done.is in
    long-at laws f p lines fits (g.O.Write.contents) (g.E.Write.contents) done.told told _ _ _ _ _ done.ends

pub returns-clause-prefix : goal.returns-clause-prefix
returns-clause-prefix g c f p lines fits is =
    let laws : Once = record {
      runs = c.fitting_messages_run.ensures;
      once = c.file_run_once.ensures;
      unique = c.vector_texts_are_unique.ensures;
    } in
    let done = c.perform.ensures.done in
    let told = told-of (g.F.FilesByName.bytes_at c.args.files.now) (g.F.FilesByName.unreadable c.args.files.now) c.args.name laws f p lines fits
    done.told is done.is in
    prefix-at laws f p lines fits (g.O.Write.contents) (g.E.Write.contents) done.told told _ _ _ _ _ done.ends
