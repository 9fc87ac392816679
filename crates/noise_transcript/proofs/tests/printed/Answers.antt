use Rattle.std.proofs.Common.{◌∙◌, ◌++◌, ◌≤◌, ap, arith, ℕ, List, Some}
use Rattle.noise_lines.specs.Lines.{lines_text}
use Rattle.noise_transcript.specs.Talked.{talked_lines}
use Rattle.noise_transcript.proofs.tests.printed.Goals as goal

pub returns : goal.returns
returns g c =
    let f = c.read-read.result in
    let fits = c.fits.ensures.fits in
    let low : c.talk-status.result ≤ 1 = grind arith in
    let grown = c.talk-status.ensures.printed f fits.0 fits.1 fits.2 (ap Some c.read-read.ensures.text) low in (
      f,
      fits.0,
      fits.1,
      c.read-read.ensures.text,
      grown ∙ ap (λ (xs : List ℕ). xs ++ lines_text (talked_lines f fits.0 fits.1)) c.new-out.ensures.items,
    )
