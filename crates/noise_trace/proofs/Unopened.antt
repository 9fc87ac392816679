-- An end before the last handshake message.
use Rattle.std.proofs.Common.{◌≡◌, ◌≢◌, length, None}
use Rattle.noise_trace.proofs.Common.{EndState}
use Rattle.noise_trace.specs.EndFollowing.{directions_in}
use Rattle.std.proofs.lemmas.Bool.{ne_eqb}

pub unopened : (v : EndState) → v.party.passed ≢ length v.party.pattern.messages → directions_in v ≡ None
unopened v more = search ne_eqb
