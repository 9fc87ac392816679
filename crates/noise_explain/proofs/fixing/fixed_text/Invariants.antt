use Rattle.noise_explain.specs.Fixed.{IsFixedText}
use Rattle.noise_explain.proofs.fixing.fixed_text.Given as goal

-- the text so far
abbrev pub invariant-loop-step : goal.invariant-loop-step
invariant-loop-step l = IsFixedText l.text l.made.items
