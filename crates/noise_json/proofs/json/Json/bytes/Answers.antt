use Rattle.std.proofs.Common.{◌∙◌, sym, ap}
use Rattle.std.proofs.lemmas.Result.{IfOk-weaker}
use Rattle.serde_json.specs.Data.{string}
use Rattle.noise_json.proofs.ValueLemmas.{bytes_data-text, bytes_data-other}
use Rattle.noise_json.proofs.json.Json.bytes.Goals as goal

pub returns-in-Ok : goal.returns-in-Ok
returns-in-Ok c = IfOk-weaker c.string.result _ _
    (λ json is. is ∙ ap string c.in-Ok.ensures.cases.0 ∙ sym (bytes_data-text c.args.bytes.now c.in-Ok.ensures.cases.1)) c.string.ensures

pub returns-in-Err : goal.returns-in-Err
returns-in-Err c = IfOk-weaker c.hex.result _ _ (λ json is. is ∙ sym (bytes_data-other c.args.bytes.now c.in-Err.ensures.cases.0)) c.hex.ensures
