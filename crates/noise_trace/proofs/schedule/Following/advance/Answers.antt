use Rattle.std.proofs.Common.{◌≡◌, ◌≤◌, ℕ, List, length, refl, ap, subst, ◌∙◌}
use Rattle.noise_trace.proofs.Common.{same_Some, Bool, Party, Token, Plan, has_psk, with_token, before_payload, tokens_at, tokens_now, after_message, after_own}
use Rattle.std.specs.Prelude.{Some}
use Rattle.noise_handshake.specs.Party.{Accepts}
use Rattle.noise_handshake.specs.Past.{GoesPast}
use Rattle.noise_handshake.specs.Writing.{Writes}
use Rattle.noise_trace.proofs.Followed.{followed, gone-on}
use Rattle.noise_trace.proofs.StepLists.{told-message}
use Rattle.noise_trace.specs.Values.{values_of}
use Rattle.noise_trace.proofs.schedule.Following.advance.Goals as goal

pub returns-clause-accepted : goal.returns-clause-accepted
returns-clause-accepted g c v xs payload f a =
    let P = g.K.Keys.pairs in
    let ts : List Token = tokens_now v in
    let b : Bool = has_psk v.pattern in
    let m = followed P c.args.self.now c.in-Some.handshake v c.in-Some.is a.listens.going f in
    let q = subst (λ (w : Party). Accepts w c.args.message.now xs payload → GoesPast with_token P w xs (Some c.in-Some-follow.from) c.list_for-list.result c.follow.new.steps
    c.follow.new.self (after_message w xs payload)) m.is (c.in-Some-follow.ensures.accepted xs payload m.supplied) a in
    let few : length ts ≤ 10 =
    subst (λ (p : Plan). length (tokens_at p.messages v.passed) ≤ 10) (ap (λ (w : Party). w.pattern) m.is) (c.list_for-list.ensures.few v.passed) in
    let from : c.in-Some-follow.from ≡ length (before_payload b v.state ts xs) =
    same_Some {A = ℕ} c.in-Some-follow.from (length (before_payload b v.state ts xs)) q.0 in
    let values = c.values_in.ensures ∙ ap values_of c.progress.ensures.value.state ∙ ap (λ (w : Party). values_of w.state) q.2.is in (
      told-message b v.state ts xs payload c.args.message.now c.list_for-list.result c.follow.new.steps c.add.new.self c.in-Some-follow.from
          c.values_in.result c.list_for-list.ensures.empty few q.1 from a.reads.spelled values c.add.ensures.value,
      record { handshake = c.follow.new.self; there = refl; matches = gone-on P c.follow.new.self (after_message v xs payload) a.listens.going q.2 },
    )

pub returns-clause-written : goal.returns-clause-written
returns-clause-written g c v xs payload f a =
    let P = g.K.Keys.pairs in
    let ts : List Token = tokens_now v in
    let b : Bool = has_psk v.pattern in
    let m = followed P c.args.self.now c.in-Some.handshake v c.in-Some.is a.speaks.going f in
    let q = subst (λ (w : Party). Writes w payload xs c.args.message.now → GoesPast with_token P w xs (Some c.in-Some-follow.from) c.list_for-list.result c.follow.new.steps
    c.follow.new.self (after_own w xs payload)) m.is (c.in-Some-follow.ensures.written xs payload m.supplied) a in
    let few : length ts ≤ 10 =
    subst (λ (p : Plan). length (tokens_at p.messages v.passed) ≤ 10) (ap (λ (w : Party). w.pattern) m.is) (c.list_for-list.ensures.few v.passed) in
    let from : c.in-Some-follow.from ≡ length (before_payload b v.state ts xs) =
    same_Some {A = ℕ} c.in-Some-follow.from (length (before_payload b v.state ts xs)) q.0 in
    let values = c.values_in.ensures ∙ ap values_of c.progress.ensures.value.state ∙ ap (λ (w : Party). values_of w.state) q.2.is in (
      told-message b v.state ts xs payload c.args.message.now c.list_for-list.result c.follow.new.steps c.add.new.self c.in-Some-follow.from
          c.values_in.result c.list_for-list.ensures.empty few q.1 from a.spelled values c.add.ensures.value,
      record { handshake = c.follow.new.self; there = refl; matches = gone-on P c.follow.new.self (after_own v xs payload) a.speaks.going q.2 },
    )
