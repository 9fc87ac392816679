use Rattle.std.proofs.Common.{arith, rules, ◌≡◌, length}
use Rattle.noise_c.proofs.Unset.{takes-last, takes-none}
use Rattle.noise_c.proofs.late.take_psk_back.Goals as goal

pub returns-then-handshake-gt0 : goal.returns-then-handshake-gt0
returns-then-handshake-gt0 c =
    record { takes = takes-last c.args.handshake.now c.put_zeros_first.new.psks (omega (arith, c.if-handshake-gt0.true)) c.requires.psks c.put_zeros_first.ensures }

pub returns-else-handshake-gt0 : goal.returns-else-handshake-gt0
returns-else-handshake-gt0 c =
    let nine : length c.args.handshake.now.psks ≡ 9 = search rules in
    record { takes = takes-none c.args.handshake.now nine (omega (arith, c.if-handshake-gt0.false)) }
