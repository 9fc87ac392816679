use Rattle.std.proofs.Common.{◌≡◌, ◌≢◌, ℕ, ◌+◌, ◌++◌, List, [], length, drop, None, Some, sym, ◌∙◌, ap, subst, arith, append-nil, length-append}
use Rattle.noise_session.proofs.Common.{nil_from_length, Consumes, frame, IsPartial, EndState, progress_of, idles, judges, partial_of, reported_in, StepValue, step_value}
use Rattle.noise_session.specs.Inputs.Receives.{takes, pauses, is_cut, fails}
use Rattle.noise_session.proofs.Streaming.{consumed_none}
use Rattle.noise_session.proofs.Cutting.{idles-not, judged-not}
use Rattle.noise_session.proofs.Parties.{phase-idle, phase-partial}
use Rattle.noise_session.proofs.state.State.receive.Goals as goal

pub returns-in-Some-clause-receives : goal.returns-in-Some-clause-receives
returns-in-Some-clause-receives g c v s =
    let step = step_value c.in-Some.step in
    let idle = phase-idle g.K.Keys.pairs c.args.self.now.phase v (Some step) s.phase c.in-Some.ensures in
    ([], v, takes v v [] step (λ same. idles-not (progress_of v) (idle ∙ ap (λ (t : StepValue). Some t) same)) (idles v [] step idle), consumed_none _, s)

pub returns-in-Filled-clause-receives : goal.returns-in-Filled-clause-receives
returns-in-Filled-clause-receives g c v s =
    let none = phase-idle g.K.Keys.pairs c.args.self.now.phase v None s.phase c.in_default.ensures in
    let r = c.in-Filled.ensures.bytes in
    let piece = r.0 in
    let judged = c.read.ensures.judges v s.phase in
    let next = judged.0 in
    let message = drop 2 (partial_of c.fill_from.new.self) in
    let whole : v.partial ++ piece ≡ frame message ++ [] =
    ap (λ (xs : List ℕ). xs ++ piece) (sym s.partial) ∙ (sym r.2 ∙ (c.read.ensures.spelled ∙ sym (append-nil (frame message)))) in
    let taken : length piece + length {A = ℕ} [] ≡ length piece = omega arith in
    let step = reported_in (drop 2 c.read.new.incoming.buffer.items) c.read.result in (
      piece,
      next,
      takes v next piece step (λ same. judged-not v next message step same judged.1) (judges v next piece message []
          (length piece) step none whole c.read.ensures.short taken judged.1),
      r.1,
      record { phase = judged.2; partial = c.read.ensures.empty ∙ sym judged.3 },
    )

pub returns-in-Failed-clause-receives : goal.returns-in-Failed-clause-receives
returns-in-Failed-clause-receives g c v s =
    let none = phase-idle g.K.Keys.pairs c.args.self.now.phase v None s.phase c.in_default.ensures in
    let r = c.in-Failed.ensures.bytes in
    let bytes : partial_of c.fill_from.new.self ≡ v.partial ++ r.0 = r.2 ∙ ap (λ (xs : List ℕ). xs ++ r.0) s.partial in
    let partial : IsPartial (v.partial ++ r.0) = subst (λ (xs : List ℕ). IsPartial xs) bytes c.in-Failed.ensures.leaves in
    let next : EndState = record v { partial = v.partial ++ r.0 } in (
      r.0,
      next,
      fails v r.0 none partial,
      r.1,
      record { phase = phase-partial g.K.Keys.pairs c.args.self.now.phase v (v.partial ++ r.0) s.phase; partial = bytes },
    )

pub returns-then-held-eq0-clause-receives : goal.returns-then-held-eq0-clause-receives
returns-then-held-eq0-clause-receives g c v s =
    let none = phase-idle g.K.Keys.pairs c.args.self.now.phase v None s.phase c.in_default.ensures in
    let r = c.in-End.ensures.bytes in
    let old = partial_of c.args.self.now.incoming in
    let count = c.held.ensures.count in
    let zero = c.if-held-eq0.true in
    let sum : length (partial_of c.fill_from.new.self) ≡ length old + length r.0 = ap (λ (xs : List ℕ). length xs) r.2 ∙ length-append old r.0 in
    let no_new : partial_of c.fill_from.new.self ≡ [] = nil_from_length _ (omega arith) in
    let no_old : old ≡ [] = nil_from_length _ (omega arith) in
    let no_piece : r.0 ≡ [] = nil_from_length _ (omega arith) in
    ([], v, pauses v none (sym s.partial ∙ no_old), subst (Consumes _ _) no_piece r.1, record { phase = s.phase; partial = no_new ∙ (sym no_old ∙ s.partial) })

pub returns-else-held-eq0-clause-receives : goal.returns-else-held-eq0-clause-receives
returns-else-held-eq0-clause-receives g c v s =
    let none = phase-idle g.K.Keys.pairs c.args.self.now.phase v None s.phase c.in_default.ensures in
    let r = c.in-End.ensures.bytes in
    let count = c.held.ensures.count in
    let some = c.if-held-eq0.false in
    let bytes : partial_of c.fill_from.new.self ≡ v.partial ++ r.0 = r.2 ∙ ap (λ (xs : List ℕ). xs ++ r.0) s.partial in
    let partial : IsPartial (v.partial ++ r.0) = subst (λ (xs : List ℕ). IsPartial xs) bytes c.in-End.ensures.leaves in
    let next : EndState = record v { partial = v.partial ++ r.0 } in
    let begun : v.partial ++ r.0 ≢ [] = λ e. let empty : length (partial_of c.fill_from.new.self) ≡ 0 = ap (λ (xs : List ℕ). length xs) (bytes ∙ e) in
    absurd (omega arith) in (
      r.0,
      next,
      is_cut v r.0 none partial begun,
      r.1,
      record { phase = phase-partial g.K.Keys.pairs c.args.self.now.phase v (v.partial ++ r.0) s.phase; partial = bytes },
    )
