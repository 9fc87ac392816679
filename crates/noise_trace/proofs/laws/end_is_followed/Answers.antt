use Rattle.noise_trace.proofs.laws.end_is_followed.Goals as goal

pub returns-clause-ended : goal.returns-clause-ended
returns-clause-ended g c t v s = record {
  party = record { handshake = s.party.handshake; there = s.party.there; matches = s.party.matches };
  interval = s.interval;
  directions = s.directions;
  first = s.first;
}
