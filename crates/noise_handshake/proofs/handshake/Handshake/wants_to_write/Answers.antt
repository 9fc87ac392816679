use Rattle.noise_handshake.proofs.LateParties.{write-none, write-dh-result, write-before, write-before-not, write-psk}
use Rattle.noise_handshake.proofs.handshake.Handshake.wants_to_write.Goals as goal

pub returns-in-Some-write_lacking-clause-wants : goal.returns-in-Some-write_lacking-clause-wants
returns-in-Some-write_lacking-clause-wants g c later =
    write-dh-result g.K.Keys.pairs c.args.self.now later _ _
    c.in-None.ensures.lacks c.in-Some-write_lacking.ensures.wants

pub returns-in-None-write_lacking-clause-wants : goal.returns-in-None-write_lacking-clause-wants
returns-in-None-write_lacking-clause-wants g c later =
    write-none g.K.Keys.pairs c.args.self.now later
    c.in-None.ensures.lacks c.in-None-write_lacking.ensures.wants

pub returns-in-Some-wants_before-clause-wants : goal.returns-in-Some-wants_before-clause-wants
returns-in-Some-wants_before-clause-wants g c later =
    let q = c.in-Some-wants_before.ensures.wants in
    write-before g.K.Keys.pairs c.args.self.now later c.in-Some.k c.in-Some.ensures.lacks _ _ q.0 q.1

pub returns-in-Some-wants_before-clause-asked : goal.returns-in-Some-wants_before-clause-asked
returns-in-Some-wants_before-clause-asked g c later x =
    let q = c.in-Some-wants_before.ensures.wants in
    absurd (write-before-not g.K.Keys.pairs c.args.self.now later c.in-Some.k c.in-Some.ensures.lacks _ _ q.1 x)

pub returns-in-None-wants_before-clause-wants : goal.returns-in-None-wants_before-clause-wants
returns-in-None-wants_before-clause-wants g c later =
    let q = c.in-None-wants_before.ensures.wants in
    (write-psk g.K.Keys.pairs c.args.self.now later c.in-Some.k c.in-Some.ensures.lacks q.0 q.1, c.remote_static.ensures)
