use Rattle.std.proofs.Common.{[], get_or}
use Rattle.noise_handshake.proofs.Common.{reader_of, E, S}
use Rattle.noise_handshake.proofs.Psks.{first_psk-read, psk-read, read-as}
use Rattle.noise_handshake.proofs.reader.read_token.Goals as goal

pub returns-in-E-clause-read : goal.returns-in-E-clause-read
returns-in-E-clause-read g c =
    read-as c.read_e.new.state
    (reader_of g.K.Keys.pairs c.args.means.now)
    c.args.known.now c.read_e.new.known c.args.psks.now c.args.state.now c.args.message.now c.read_e.result E c.args.placed.token c.in-E.is c.read_e.ensures.read

pub returns-in-Psk-clause-read : goal.returns-in-Psk-clause-read
returns-in-Psk-clause-read g c =
    psk-read c.mix_key_and_hash.new.self
    (reader_of g.K.Keys.pairs c.args.means.now)
    c.args.known.now c.args.psks.now c.args.state.now c.args.placed.token c.args.message.now (get_or c.args.psks.now 0 [])
    c.in-Psk.is (first_psk-read c.args.psks.now) c.mix_key_and_hash.ensures

pub returns-in-S-clause-read : goal.returns-in-S-clause-read
returns-in-S-clause-read g c =
    read-as c.read_s.new.state
    (reader_of g.K.Keys.pairs c.args.means.now)
    c.args.known.now c.read_s.new.known c.args.psks.now c.args.state.now c.args.message.now c.read_s.result S c.args.placed.token c.in-S.is c.read_s.ensures.read
