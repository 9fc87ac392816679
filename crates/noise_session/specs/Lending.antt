-- What holds of an end once the step that it lent is gone.
use Rattle.std.specs.Borrow.{Fml, MutBor, RattleType}
use Rattle.std.specs.Io.BufRead.{Rests}
use Rattle.noise_keys.specs.declared.keys.Keys.{Ghosts}
use Rattle.noise_session.specs.contracts.end.End.{the_row}
use Rattle.noise_session.specs.Ends.{EndValue}

-- an end of these keys lends a step, and P holds of the end after it
abbrev pub Lends : (K : RattleType) → Ghosts K.Denot → MutBor (EndValue K.Denot) → (EndValue K.Denot → Type 0) → Fml
Lends K keys end P = Rests (the_row K keys) end P
