use Rattle.noise_session.proofs.Splitting.{seals-copied}
use Rattle.noise_session.proofs.sender.Sender.seal.Goals as goal

pub returns : goal.returns
returns c = record {
  seals = seals-copied _ _ c.args.payload.now c.copy_from_slice.new.self c.args.out.now _ _ c.copy_from_slice.ensures.after c.seal_due.ensures.seals;
}
