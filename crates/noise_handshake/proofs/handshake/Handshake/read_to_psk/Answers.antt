use Rattle.std.proofs.Common.{List, ℕ, ap}
use Rattle.noise_handshake.proofs.Common.{Ok, Option}
use Rattle.noise_handshake.specs.declared.faults.Want.TheVariants.{Psk}
use Rattle.noise_handshake.proofs.LateParties.{before-psk, before-one, before-refused, before-not, before-declined, before-dh-result}
use Rattle.noise_handshake.proofs.handshake.Handshake.read_to_psk.Goals as goal

pub returns-in-Ok-clause-wants : goal.returns-in-Ok-clause-wants
returns-in-Ok-clause-wants g c later =
    before-psk g.K.Keys.pairs c.args.self.now later c.args.message.now c.args.k c.requires.psk
    c.in-Ok.remote c.requires.within c.requires.due c.in-Ok.ensures.reads

pub returns-in-Ok-clause-asked : goal.returns-in-Ok-clause-asked
returns-in-Ok-clause-asked g c later remote x =
    ap (λ (z : Option (List ℕ)). Ok (Psk z))
    (before-one g.K.Keys.pairs c.args.self.now later c.args.message.now c.args.k c.requires.psk
    c.in-Ok.remote remote c.in-Ok.ensures.reads x)

pub returns-in-Some-clause-wants : goal.returns-in-Some-clause-wants
returns-in-Some-clause-wants g c later =
    before-dh-result g.K.Keys.pairs c.args.self.now later c.args.message.now c.args.k c.requires.psk
    c.in-Err.stop c.in-Err.ensures.reads c.in-Some.want c.in-Some.is

pub returns-in-Some-clause-asked : goal.returns-in-Some-clause-asked
returns-in-Some-clause-asked g c later remote x =
    absurd (before-not g.K.Keys.pairs c.args.self.now later c.args.message.now c.args.k c.requires.psk
    c.in-Err.stop c.in-Err.ensures.reads remote x)

pub returns-in-None-clause-wants : goal.returns-in-None-clause-wants
returns-in-None-clause-wants g c later =
    let stops = c.in-Err.ensures.reads in (
      before-refused g.K.Keys.pairs c.args.self.now later c.args.message.now c.args.k c.requires.psk
          c.in-Err.stop stops,
      before-declined g.K.Keys.pairs c.args.self.now later c.args.message.now c.args.k c.requires.psk
          c.in-Err.stop stops c.in-None.is,
    )

pub returns-in-None-clause-asked : goal.returns-in-None-clause-asked
returns-in-None-clause-asked g c later remote x =
    absurd (before-not g.K.Keys.pairs c.args.self.now later c.args.message.now c.args.k c.requires.psk
    c.in-Err.stop c.in-Err.ensures.reads remote x)
