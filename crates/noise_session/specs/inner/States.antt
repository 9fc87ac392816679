-- The state of an end, as the contracts of its calls see it.
use Rattle.std.specs.Prelude.{ℕ, List, drop}
use Rattle.noise_keys.specs.declared.keys.Keys.{Ghosts}
use Rattle.noise_session.specs.declared.state.State.{State}
use Rattle.noise_session.specs.Ends.{EndValue}
use Rattle.noise_session.specs.inner.Partial.{partial_of}

-- what the end holds
abbrev pub end_in : {K : Type 0} {ghosts : Ghosts K} → State K ghosts → EndValue K
end_in s = record { phase = s.phase; partial = partial_of s.incoming }

-- the message of the last frame, with what the buffer holds after it
abbrev pub message_in : {K : Type 0} {ghosts : Ghosts K} → State K ghosts → List ℕ
message_in s = drop 2 s.incoming.buffer.items
