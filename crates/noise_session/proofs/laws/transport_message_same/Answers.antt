use Rattle.std.proofs.Common.{[]}
use Rattle.noise_session.proofs.Common.{nonce_of, transport_key}
use Rattle.noise_session.proofs.laws.transport_message_same.Goals as goal

pub returns : goal.returns
returns c r writer interval n payload other same =
    c.sealed_same.ensures (transport_key r writer interval n) (nonce_of n) [] payload other same
