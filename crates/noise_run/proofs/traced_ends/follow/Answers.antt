use Rattle.std.proofs.Common.{rules, ◌≡◌, ap}
use Rattle.noise_handshake.specs.Party.{Party}
use Rattle.noise_run.proofs.traced_ends.follow.Goals as goal

pub returns : goal.returns
returns c = record {
  traced = λ v s own agree.
      let role : c.args.handshake.now.role ≡ v.role = ap (λ (z : Party). z.role) s.is in
      let pattern : c.args.handshake.now.pattern ≡ v.pattern = ap (λ (z : Party). z.pattern) s.is in
      search rules;
}
