use Rattle.std.proofs.Common.{rules}
use Rattle.noise_handshake.proofs.Parties.{tokens_at-index}
use Rattle.noise_handshake.proofs.layout.lay_next.Goals as goal

pub returns-in-Some-clause-laid : goal.returns-in-Some-clause-laid
returns-in-Some-clause-laid c less = search (rules, tokens_at-index)
