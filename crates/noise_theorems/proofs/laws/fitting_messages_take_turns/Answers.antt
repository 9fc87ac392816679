use Rattle.noise_theorems.proofs.Fit.{in-turn}
use Rattle.noise_theorems.proofs.laws.fitting_messages_take_turns.Goals as goal

pub returns : goal.returns
returns c p lines fit = in-turn p 0 lines fit
