use Rattle.std.proofs.Common.{◌≡◌, false, refl, sym, ap, subst, ◌∙◌}
use Rattle.std.specs.Prelude.{Some}
use Rattle.noise_trace.proofs.Followed.{beside, beside-is, beside-matches, beside-whole, some-is}
use Rattle.noise_handshake.specs.HandshakeValue.{HandshakeValue}
use Rattle.noise_handshake.specs.Late.{IsLateWhole}
use Rattle.noise_handshake.specs.Parts.{held_of}
use Rattle.noise_trace.proofs.schedule.Following.new.Goals as goal

pub returns : goal.returns
returns g c = record {
  matches = λ v s own agree.
      let P = g.K.Keys.pairs in
      let h = c.args.handshake.now in
      let keys = c.args.keys in
      let came = c.progress-progress.ensures.value in
      let made : HandshakeValue g.row.K.Denot = held_of (record {
        pattern = c.copy.result;
        role = c.role.result;
        keys = keys;
        progress = record c.progress-progress.result { ended = false };
      }) c.psks.result.now in
      let same : made ≡ beside P h keys =
      beside-is P h keys made (c.copy.ensures ∙ c.pattern.ensures.value) c.role.ensures refl came.remote c.psks.ensures.value came.passed refl came.state in
      let whole : IsLateWhole P made =
      subst (λ (z : HandshakeValue g.row.K.Denot). IsLateWhole P z) (sym same) (beside-whole P h keys v s own c.progress-progress.ensures.whole) in
      record {
        handshake = beside P h keys;
        there = some-is c.from_parts.result made (c.from_parts.ensures.whole.1 whole) c.from_parts.ensures.value ∙ ap Some same;
        matches = beside-matches P h keys v s own agree;
      };
}
