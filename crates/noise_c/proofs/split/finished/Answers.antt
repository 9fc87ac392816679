use Rattle.noise_c.proofs.Finished.{uses-up}
use Rattle.noise_c.proofs.split.finished.Goals as goal

pub returns-clause-uses : goal.returns-clause-uses
returns-clause-uses c =
    let opened = c.in_ok-opened.ensures in
    uses-up c.args.handshake.now _ opened.code opened.usable c.use_up.ensures
