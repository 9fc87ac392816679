-- The list in which the steps of a message are collected.
use Rattle.std.specs.Prelude.{ℕ, [], ◌∷◌, ◌++◌, length, nat_lt, if◌then◌else◌}
use Rattle.noise_names.specs.declared.token.Token.{Token}
use Rattle.noise_state.specs.declared.symmetric.SymmetricState.{SymmetricState}
use Rattle.noise_trace.specs.declared.step.Part.TheVariants as part
use Rattle.noise_trace.specs.declared.step.Step.{Step}
use Rattle.noise_trace.specs.declared.step_list.StepList.{StepList}
use Rattle.noise_trace.specs.Values.{values_of}

-- with one step more, where there is room
abbrev pub with_step : StepList → Step → StepList
with_step list step =
    if nat_lt (length list.steps.items) 11 then record { steps = record { items = list.steps.items ++ step ∷ [] } }
    else list

-- with that of a token
abbrev pub with_token : StepList → Token → ℕ → ℕ → SymmetricState → StepList
with_token list t from to state =
    with_step list (record { part = part.Token t; from = from; to = to; state = values_of state })
