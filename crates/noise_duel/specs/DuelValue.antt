-- What the two ends of a session hold, and which states they match.
use Rattle.std.specs.Prelude.{◌≡◌, ℕ, List, Option}
use Rattle.noise_keys.specs.declared.keys.Own.{Own}
use Rattle.noise_session.specs.Ends.{EndState, EndValue, EndMatches}
use Rattle.noise_duel.specs.declared.report.Report.{Report}
use Rattle.noise_names.specs.Lists.{bytes_of}
use Rattle.noise_duel.specs.Sides.{Sides, new_side}
use Rattle.noise_keys.specs.Keys.{KeyPairs}

-- two ends as contracts see them
pub record DuelValue (A B : Type 0) : Type 0 where
  pub initiator : EndValue A
  pub responder : EndValue B

-- two ends with these states, before a run
abbrev pub both_sides : EndState → EndState → Sides
both_sides v w = record { initiator = new_side v; responder = new_side w }

-- each end matches its state, by the meaning of its keys
module _ {A B : Type 0} (pairs_a : A → KeyPairs)
    (pairs_b : B → KeyPairs) where
  pub record DuelMatches (duel : DuelValue A B) (d : Sides) : Type 0 where
    pub initiator : EndMatches pairs_a duel.initiator d.initiator.state
    pub responder : EndMatches pairs_b duel.responder d.responder.state

-- the frames of a report are those that the ends wrote
pub record HasFrames (report : Report) (d : Sides) : Type 0 where
  pub initiator : bytes_of report.initiator.items ≡ d.initiator.frames
  pub responder : bytes_of report.responder.items ≡ d.responder.frames
