use Rattle.noise_handshake.proofs.Wanted.{token-placed}
use Rattle.noise_handshake.proofs.reader.token_at.Goals as goal

pub returns : goal.returns
returns c = record { token = token-placed c.args.placed.now c.args.k _ c.requires.within }
