-- Lines that fit are in turn.
use Rattle.std.specs.Prelude.{◌≡◌, ℕ, List, true}
use Rattle.noise_names.specs.declared.token.Role.{Role}
use Rattle.noise_names.specs.Plan.{Plan}
use Rattle.noise_duel.specs.Conversation.{InTurn}
use Rattle.noise_theorems.specs.FittingMessages.{messages_fit_from}

-- as `Duel::converse` asks of them
abbrev pub MessagesTakeTurns : Type 0
MessagesTakeTurns = (p : Plan) (lines : List (Role × List ℕ)) → messages_fit_from p 0 lines ≡ true → InTurn p 0 lines
