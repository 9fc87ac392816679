use Rattle.std.proofs.Common.{◌≡◌, ℕ, ◌+◌, ◌++◌, List, length, take, drop, None, sym, ◌∙◌, ap, subst, arith, rules, append_assoc, length-drop}
use Rattle.noise_session.proofs.Common.{take-append-drop, frame, IsPartial, EndState, idles, waits, judges, partial_of, step_value}
use Rattle.noise_session.proofs.Parties.{phase-idle, phase-partial}
use Rattle.noise_session.proofs.state.State.take.Goals as goal

pub returns-in-Some-clause-takes : goal.returns-in-Some-clause-takes
returns-in-Some-clause-takes g c v s = (
  v,
  idles v c.args.piece.now (step_value c.in-Some.step)
      (phase-idle g.K.Keys.pairs c.args.self.now.phase v _ s.phase c.in-Some.ensures),
  s,
)

pub returns-in-None-clause-takes : goal.returns-in-None-clause-takes
returns-in-None-clause-takes g c v s =
    let none = phase-idle g.K.Keys.pairs c.args.self.now.phase v None s.phase (search rules) in
    let piece = c.args.piece.now in
    let part = c.in-None.ensures.part in
    let bytes : partial_of c.fill.new.self ≡ v.partial ++ piece = part.0 ∙ ap (λ (xs : List ℕ). xs ++ piece) s.partial in
    let partial : IsPartial (v.partial ++ piece) = subst (λ (xs : List ℕ). IsPartial xs) bytes part.1 in
    let next : EndState = record v { partial = v.partial ++ piece } in (
      next,
      waits v piece none partial,
      record { phase = phase-partial g.K.Keys.pairs c.args.self.now.phase v (v.partial ++ piece) s.phase; partial = bytes },
    )

pub returns-in-Some-fill-clause-takes : goal.returns-in-Some-fill-clause-takes
returns-in-Some-fill-clause-takes g c v s =
    let none = phase-idle g.K.Keys.pairs c.args.self.now.phase v None s.phase (search rules) in
    let piece = c.args.piece.now in
    let count = c.in-Some-fill.count in
    let whole = c.in-Some-fill.ensures.whole in
    let judged = c.read.ensures.judges v s.phase in
    let next = judged.0 in
    let message = drop 2 (partial_of c.fill.new.self) in
    let front : v.partial ++ take count piece ≡ frame message = sym (ap (λ (xs : List ℕ). xs ++ take count piece) s.partial)
    ∙ (sym whole.1 ∙ c.read.ensures.spelled) in
    let joined : v.partial ++ piece ≡ frame message ++ drop count piece =
    ap (λ (xs : List ℕ). v.partial ++ xs) (sym (take-append-drop count piece))
    ∙ (sym (append_assoc v.partial (take count piece) (drop count piece)) ∙ ap (λ (xs : List ℕ). xs ++ drop count piece) front) in
    let taken : count + length (drop count piece) ≡ length piece = omega (arith, length-drop count piece, whole.0) in (
      next,
      judges v next piece message (drop count piece) count _ none joined c.read.ensures.short taken judged.1,
      record { phase = judged.2; partial = c.read.ensures.empty ∙ sym judged.3 },
    )
