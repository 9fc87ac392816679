use Rattle.std.proofs.Common.{◌≡◌, List, ℕ, sym, ap, ◌∙◌, subst, arith}
use Rattle.noise_c.proofs.Common.{Option, Some, None, IfSome, Plan, HandshakeValue, IsLateWhole, NoiseHandshake, Table, pairs_in, text_from_c, handshake_from_c, IsPatternOf}
use Rattle.noise_c.proofs.from_c.handshake_from_c.Goals as goal

one-of : (o : Option (HandshakeValue Table)) (name : List ℕ) (k : NoiseHandshake) (p : Plan) → ((q : Plan) → IsPatternOf name q → q ≡ p)
    → IfSome o (λ z. z ≡ handshake_from_c p k) → IfSome o (λ z. (q : Plan) → IsPatternOf name q → q ≡ z.pattern)
one-of None name k p one s = tt
one-of (Some z) name k p one s = λ q i. one q i ∙ sym (ap (λ (y : HandshakeValue Table). y.pattern) s)

same-in : (o : Option (HandshakeValue Table)) (k : NoiseHandshake) (p : Plan) → IfSome o (λ z. z ≡ handshake_from_c p k) → IfSome o (λ z. z ≡ handshake_from_c z.pattern k)
same-in None k p s = tt
same-in (Some z) k p s = s ∙ ap (λ (q : Plan). handshake_from_c q k) (sym (ap (λ (y : HandshakeValue Table). y.pattern) s))

pub returns-clause-value : goal.returns-clause-value
returns-clause-value c = same-in c.restored.result c.args.handshake.now c.in-Ok.pattern c.restored.ensures.value

pub returns-in_default-clause-usable : goal.returns-in_default-clause-usable
returns-in_default-clause-usable c = (λ e. absurd (cc), λ u. c.in_default.ensures.found u.pattern u.named u.valid)

pub returns-clause-usable : goal.returns-clause-usable
returns-clause-usable c = (
  λ some. record {
    mark = c.if-handshake-ne-HANDSHAKE.false;
    text = omega (arith, c.if-handshake-gt416.false);
    answers = omega (arith, c.if-handshake-gt8.false);
    psks = omega (arith, c.if-handshake-gt9.false);
    pattern = c.in-Ok.pattern;
    named = c.in-Ok.ensures.named;
    valid = c.in-Ok.ensures.valid;
    whole = c.restored.ensures.whole.0 some;
  },
  λ u. c.restored.ensures.whole.1 (subst (λ (q : Plan). IsLateWhole pairs_in (handshake_from_c q c.args.handshake.now)) (c.in-Ok.ensures.one u.pattern u.named) u.whole),
)

pub returns-clause-one : goal.returns-clause-one
returns-clause-one c = one-of c.restored.result (text_from_c c.args.handshake.now) c.args.handshake.now c.in-Ok.pattern c.in-Ok.ensures.one c.restored.ensures.value
