use Rattle.std.proofs.Common.{arith, rules, ◌≡◌, ◌+◌, ◌-◌, ◌∙◌, ℕ, List, length, drop, ap, refl}
use Rattle.noise_c.proofs.Common.{handshake_from_c}
use Rattle.noise_c.proofs.Moved.{moved-last}
use Rattle.noise_c.proofs.late.store_psk.Goals as goal

pub returns : goal.returns
returns c =
    let nine : length c.args.handshake.now.psks ≡ 9 = search rules in
    record {
      stores = record {
        given = record {
          text = refl;
          handshake = λ p. ap (λ (z : List (List ℕ)). record (handshake_from_c p c.args.handshake.now) { psks = z })
              (ap (drop (9 - (c.args.handshake.now.psk_count + 1))) c.put_last.ensures
              ∙ moved-last c.args.handshake.now.psks c.args.psk.now c.args.handshake.now.psk_count nine c.requires.room);
        };
        mark = refl;
        text_len = refl;
        answers = refl;
        few = omega arith;
      };
    }
