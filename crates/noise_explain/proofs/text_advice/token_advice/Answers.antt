use Rattle.noise_explain.proofs.AdviceLemmas.{no-token}
use Rattle.noise_explain.proofs.text_advice.token_advice.Goals as goal

pub returns-then-starts_with : goal.returns-then-starts_with
returns-then-starts_with c = no-token c.args.line.now c.args.column

pub returns-in_default-2 : goal.returns-in_default-2
returns-in_default-2 c = no-token c.args.line.now c.args.column
