use Rattle.std.proofs.Common.{◌≡◌, length, rules}
use Rattle.noise_session.proofs.Ringing.{Ready, ready-unchanged, ready-moved, recalls-marked}
use Rattle.noise_session.proofs.Rings.{IsOpen, ring-says, open-unchanged, open-moved, ring-marked}
use Rattle.noise_session.proofs.window.Ring.insert.Goals.{then-nonce-self, else-nonce-self}
use Rattle.noise_session.proofs.window.Ring.insert.Goals as goal

pub returns-clause-more : goal.returns-clause-more
returns-clause-more c accepted h young =
    let room : length c.if-nonce-self.self.words ≡ 17 = search rules in
    let ready : Ready c.if-nonce-self.self accepted c.args.nonce = elim c.if-nonce-self.branch [
      | then-nonce-self w ↦
          rw w.self-is (ready-moved c.args.self.now accepted c.args.nonce w.clear.new.words h w.if-nonce-self.true w.clear.ensures.fresh w.clear.ensures.unchanged)
      | else-nonce-self w ↦ rw w.self-is (ready-unchanged c.args.self.now accepted c.args.nonce h young w.if-nonce-self.false)
    ] in
    rw c.place.ensures.value (recalls-marked c.if-nonce-self.self accepted c.args.nonce room ready)

pub returns-clause-ring : goal.returns-clause-ring
returns-clause-ring c is near small =
    let room : length c.if-nonce-self.self.words ≡ 17 = search rules in
    let h = ring-says c.args.self.now is in
    let ready : IsOpen c.if-nonce-self.self c.args.nonce = elim c.if-nonce-self.branch [
      | then-nonce-self w ↦
          rw w.self-is (open-moved c.args.self.now c.args.nonce w.clear.new.words h w.if-nonce-self.true small w.clear.ensures.fresh w.clear.ensures.unchanged
          w.clear.ensures.beyond)
      | else-nonce-self w ↦ rw w.self-is (open-unchanged c.args.self.now c.args.nonce h near w.if-nonce-self.false)
    ] in
    rw c.place.ensures.value (ring-marked c.if-nonce-self.self c.args.nonce room ready)
