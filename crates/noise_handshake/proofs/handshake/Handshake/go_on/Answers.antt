use Rattle.std.proofs.Common.{◌≡◌, ℕ, ◌+◌, ◌-◌, ◌<◌, List, length, take, drop, refl, ap, sym, subst, ◌∙◌, arith, length-drop, length-take}
use Rattle.noise_handshake.proofs.Common.{HandshakeValue}
use Rattle.noise_handshake.proofs.Followed.{kept-left, lays-left}
use Rattle.noise_handshake.proofs.Next.{used-within}
use Rattle.noise_handshake.proofs.handshake.Handshake.go_on.Goals as goal

pub lay_next-self-inside-requires-clause-key : goal.lay_next-self-inside-requires-clause-key
lay_next-self-inside-requires-clause-key g c =
    let a = c.self.inside in
    let less : a.passed < length a.pattern.messages =
    subst (λ (z : HandshakeValue g.row.K.Denot). z.passed < length z.pattern.messages) (sym c.self.view_is) c.requires.more in
    c.has_key.ensures
    ∙ lays-left g.K.Keys.pairs a c.self.invariant less c.args.self.now c.self.view_is c.args.state c.args.remote c.requires.leaves c.requires.psks
    c.pattern-plan.result.now c.pattern-plan.ensures.value

pub invariant_of-self : goal.invariant_of-self
invariant_of-self g c =
    let P = g.K.Keys.pairs in
    let a = c.self.inside in
    let less : a.passed < length a.pattern.messages =
    subst (λ (z : HandshakeValue g.row.K.Denot). z.passed < length z.pattern.messages) (sym c.self.view_is) c.requires.more in
    let ds : List (List ℕ) = c.deref.result.now in
    let taken : ℕ = a.used + a.next.psks in
    let left : List (List ℕ) = take (length ds - taken) (drop taken ds) in
    let used : c.len.result - length left ≡ taken =
    omega (
      arith,
      c.len.ensures.value,
      ap length c.deref.ensures.0,
      used-within P a c.self.invariant less a.next.tokens.items refl c.args.self.now c.self.view_is c.requires.psks,
      length-take (length ds - taken) (drop taken ds),
      length-drop taken ds,
    ) in
    kept-left P a c.self.invariant less c.args.self.now c.self.view_is c.args.state c.args.remote c.requires.leaves c.requires.psks
    c.pattern-plan.result.now c.pattern-plan.ensures.value c.lay_next-self-inside.result c.lay_next-self-inside.ensures.laid (c.len.result - length left) used
