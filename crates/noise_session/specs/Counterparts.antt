-- Two ends of one session that have come equally far.
use Rattle.std.specs.Prelude.{◌≡◌, []}
use Rattle.noise_handshake.specs.Counterparts.{Counterparts}
use Rattle.noise_session.specs.Ends.{EndState}

-- Their parties are counterparts, with one interval; each has received as many transport messages as the other one
-- sent, and nothing of a frame is on its way.
pub record EndCounterparts (v w : EndState) : Type 0 where
  pub parties : Counterparts v.party w.party
  pub interval : w.interval ≡ v.interval
  pub there : w.received ≡ v.sent
  pub back : v.received ≡ w.sent
  pub partial : v.partial ≡ []
  pub partial_there : w.partial ≡ []
