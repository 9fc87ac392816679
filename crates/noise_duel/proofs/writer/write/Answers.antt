use Rattle.std.proofs.Common.{◌≡◌, ◌≤◌, ℕ, take, length, sym, subst, ap, ◌∙◌, arith, Vec, Global}
use Rattle.noise_duel.proofs.Common.{EndState, EndMatches, Wrote, with_state, SideWrites, writes_nothing, length-map}
use Rattle.noise_duel.proofs.Linking.{sends-writes, front-of, frames-unchanged}
use Rattle.noise_duel.proofs.writer.write.Goals as goal

pub returns-in_ok-push-in-Ok : goal.returns-in_ok-push-in-Ok
returns-in_ok-push-in-Ok g c s matches frames =
    let sent = c.in-Ok.ensures.writes.sends s.state matches in
    let bytes = take c.in-Ok.len c.write_into.new.out in
    let wrote = sends-writes s c.args.payload.now bytes sent.0 sent.1 in
    let number : length s.frames ≡ c.len-number.result =
    ap length (sym frames) ∙ length-map c.args.frames.now.items (λ (v : Vec ℕ Global). v.items) ∙ sym (c.len-number.ensures ∙ c.args.frames.now.ok.0) in
    let room : c.in-Ok.len ≤ c.in_ok-frame.frame.len =
    omega (arith, c.in-Ok.ensures.writes.len.1, c.as_mut_slice.ensures.len, c.in_ok-frame.ensures.len, c.write_into.auto.out) in
    let written = c.truncate.ensures.items ∙ front-of c.write_into.new.out _ c.in-Ok.len c.in_ok-frame.frame.len room c.in-Ok.ensures.writes.len.1 in
    record {
      next = wrote.after;
      writes = subst (λ (n : ℕ). SideWrites s c.args.payload.now (Wrote n) wrote.after) number wrote.writes;
      matches = subst (λ (v : EndState). EndMatches g.K.Keys.pairs c.write_into.new.self v) (sym wrote.state) sent.2;
      frames_are = frames-unchanged c.args.frames.now.items c.push.new.self.items c.truncate.new.self bytes s.frames wrote.after.frames
          c.in_ok-push-in-Ok.ensures.items written frames wrote.frames;
    }

pub returns-in-Err : goal.returns-in-Err
returns-in-Err g c s matches frames =
    let sent = c.in-Err.ensures.writes.sends s.state matches in
    record {
      next = with_state s _;
      writes = writes_nothing s c.args.payload.now c.in-Err.fault _ sent.0;
      matches = sent.1;
      frames_are = frames;
    }
