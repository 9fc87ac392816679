use Rattle.std.proofs.Common.{length, refl}
use Rattle.noise_c.proofs.Common.{max, psks_of, role_in, table_of, remote_of, psks_in, key_from_c}
use Rattle.noise_c.proofs.Starts.{fault-moved, matches-moved, remote-of}
use Rattle.noise_c.proofs.start.begin.Goals as goal

pub returns-clause-fault : goal.returns-clause-fault
returns-clause-fault c =
    let t = c.args.setup.now in
    fault-moved c.args.pattern c.role_of-role.result (role_in t.responder) (table_of t) (table_of t)
    (record { e = c.key_of.result; s = c.key_of-2.result }) (remote_of t) (max (length (psks_in t)) (psks_of c.args.pattern.messages)) c.with_fewer_psks.result c.role_of-role.ensures
    refl
    (remote-of c.key_of.result (key_from_c t.remote_e) c.key_of-2.result (key_from_c t.remote_s) c.key_of.ensures c.key_of-2.ensures)
    c.with_fewer_psks.ensures.fault

pub returns-clause-matches : goal.returns-clause-matches
returns-clause-matches c =
    let t = c.args.setup.now in
    matches-moved c.args.pattern c.args.prologue.now (table_of t) (psks_in t) c.role_of-role.result (role_in t.responder)
    (record { e = c.key_of.result; s = c.key_of-2.result }) (remote_of t) c.with_fewer_psks.result c.role_of-role.ensures
    (remote-of c.key_of.result (key_from_c t.remote_e) c.key_of-2.result (key_from_c t.remote_s) c.key_of.ensures c.key_of-2.ensures)
    c.with_fewer_psks.ensures.matches
