use Rattle.std.proofs.Common.{◌∙◌, drop, refl}
use Rattle.noise_session.proofs.DatagramStates.{sealed-front}
use Rattle.noise_session.proofs.datagram_sender.put_nonce.Goals as goal

pub returns-clause-front : goal.returns-clause-front
returns-clause-front c =
    sealed-front c.copy_from_slice.new.self (drop 8 c.args.out.now) _ c.args.len c.args.nonce (c.copy_from_slice.ensures.after ∙ c.to_be_bytes.ensures) refl
