use Rattle.noise_json.proofs.ValueLemmas.{lines_data-pieces}
use Rattle.noise_json.proofs.json.Json.lines.Goals as goal

pub returns : goal.returns
returns c =
    rw (c.into_json.ensures, c.in_ok-texts.ensures, c.saturating_sub-count.ensures, c.deref.ensures.value, c.len.ensures, c.in_ok-pieces.pieces.ok.0)
    (lines_data-pieces c.args.text.now c.in_ok-pieces.pieces.items c.in_ok-pieces.ensures)
