use Rattle.noise_handshake.proofs.Owned.{before-matches, matches-place}
use Rattle.noise_handshake.proofs.Counterparts.{occurs-of}
use Rattle.noise_handshake.proofs.Meeting.{dh-matches}
use Rattle.noise_handshake.proofs.laws.tokens_match.Goals as goal

pub returns-clause-before : goal.returns-clause-before
returns-clause-before c = before-matches

pub returns-clause-sent : goal.returns-clause-sent
returns-clause-sent c p n t = matches-place p t n

pub returns-clause-occurs : goal.returns-clause-occurs
returns-clause-occurs c = occurs-of

pub returns-clause-keys : goal.returns-clause-keys
returns-clause-keys c = dh-matches
