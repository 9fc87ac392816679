use Rattle.noise_handshake.proofs.Common.{Agreement, party_with}
use Rattle.noise_handshake.proofs.LateParties.{read-dh-result, read-lacks}
use Rattle.noise_handshake.proofs.Once.{refuses-one}
use Rattle.noise_handshake.proofs.handshake.Handshake.wants_to_read.Goals as goal

pub returns-in-Some-read_lacking-clause-wants : goal.returns-in-Some-read_lacking-clause-wants
returns-in-Some-read_lacking-clause-wants g c later =
    read-dh-result g.K.Keys.pairs c.args.self.now later c.args.message.now
    c.in-None.ensures.lacks _ _ c.in-Some-read_lacking.ensures.wants

pub returns-in-None-read_lacking-clause-wants : goal.returns-in-None-read_lacking-clause-wants
returns-in-None-read_lacking-clause-wants g c later =
    read-lacks g.K.Keys.pairs c.args.self.now later c.args.message.now
    c.in-None.ensures.lacks c.in-None-read_lacking.ensures.wants

pub returns-in-Ok-clause-asked : goal.returns-in-Ok-clause-asked
returns-in-Ok-clause-asked g c later remote x = let e = c.in-Ok.ensures.asked later remote x in cc

pub returns-in-Err-clause-wants : goal.returns-in-Err-clause-wants
returns-in-Err-clause-wants g c later token r =
    let w = c.in-Err.ensures.wants later in
    w.1 (refuses-one (party_with g.K.Keys.pairs later c.args.self.now) c.args.message.now c.in-Err.field-0.token token c.in-Err.field-0.cause Agreement w.0 r).1

pub returns-in-Err-clause-asked : goal.returns-in-Err-clause-asked
returns-in-Err-clause-asked g c later remote x = let e = c.in-Err.ensures.asked later remote x in absurd (cc)
