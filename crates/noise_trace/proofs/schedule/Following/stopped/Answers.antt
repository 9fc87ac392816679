use Rattle.std.proofs.Common.{◌≡◌, ◌≤◌, List, length, take, ap, subst, arith, length-take}
use Rattle.noise_trace.proofs.Common.{Party, Token, Plan, has_psk, with_token, tokens_at, tokens_now}
use Rattle.noise_handshake.specs.Party.{Refuses}
use Rattle.noise_handshake.specs.Steps.{after_steps}
use Rattle.noise_handshake.specs.Writing.{LacksDhResult}
use Rattle.noise_trace.proofs.Followed.{followed}
use Rattle.noise_trace.proofs.StepLists.{told-tokens}
use Rattle.noise_trace.proofs.schedule.Following.stopped.Goals as goal

pub returns-clause-refused : goal.returns-clause-refused
returns-clause-refused g c v cause f r =
    let m = followed g.K.Keys.pairs c.args.self.now c.in-Some.handshake v c.in-Some.is r.listens.going f in
    let ts : List Token = take c.args.token (tokens_now v) in
    let all : length (tokens_now v) ≤ 10 =
    subst (λ (p : Plan). length (tokens_at p.messages v.passed) ≤ 10) (ap (λ (w : Party). w.pattern) m.is) (c.list_for-list.ensures.few v.passed) in
    let few : length ts ≤ 10 = omega (arith, all, length-take c.args.token (tokens_now v)) in
    told-tokens (has_psk v.pattern) v.state ts r.stops.carried c.list_for-list.result c.follow_before.new.steps c.list_for-list.ensures.empty few
    (subst (λ (w : Party). (r : Refuses w c.args.message.now c.args.token cause) → c.follow_before.new.steps ≡ after_steps with_token (has_psk w.pattern) w.state 0 (take c.args.token (tokens_now w)) r.stops.carried c.list_for-list.result) m.is (c.follow_before.ensures.refused cause m.supplied) r)

pub returns-clause-withheld : goal.returns-clause-withheld
returns-clause-withheld g c v f l =
    let m = followed g.K.Keys.pairs c.args.self.now c.in-Some.handshake v c.in-Some.is l.speaks.going f in
    let ts : List Token = take c.args.token (tokens_now v) in
    let all : length (tokens_now v) ≤ 10 =
    subst (λ (p : Plan). length (tokens_at p.messages v.passed) ≤ 10) (ap (λ (w : Party). w.pattern) m.is) (c.list_for-list.ensures.few v.passed) in
    let few : length ts ≤ 10 = omega (arith, all, length-take c.args.token (tokens_now v)) in
    told-tokens (has_psk v.pattern) v.state ts l.lacks.before c.list_for-list.result c.follow_before.new.steps c.list_for-list.ensures.empty few
    (subst (λ (w : Party). (l : LacksDhResult w c.args.token) → c.follow_before.new.steps ≡ after_steps with_token (has_psk w.pattern) w.state 0 (take c.args.token (tokens_now w)) l.lacks.before c.list_for-list.result) m.is (c.follow_before.ensures.lacks m.supplied) l)
