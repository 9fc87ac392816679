use Rattle.std.proofs.Common.{◌≡◌, List, true, is_some, arith, sym, subst}
use Rattle.noise_handshake.proofs.Common.{MatchOption, None, Some, Token, Role, Cause, Agreement, own_at, remote_at, are_known, tokens_of, StopsKnowing}
use Rattle.noise_handshake.proofs.Layouts.{length-tokens_of}
use Rattle.noise_handshake.proofs.Once.{stops-one}
use Rattle.noise_handshake.proofs.Wanted.{asked, stops-within}
use Rattle.noise_handshake.proofs.reader.lacked.Goals as goal

pub returns-then-k-placed : goal.returns-then-k-placed
returns-then-k-placed c v before psks r message same knows stops =
    let ts : List Token = tokens_of c.args.placed.now in
    let here = subst (λ (z : Cause). StopsKnowing v before psks r ts message c.args.k z c.args.known.now) c.in-Agreement.is stops in
    asked v before c.args.known.now psks r ts message c.args.k c.token_at.result
    (omega (arith, c.if-k-placed.true, length-tokens_of c.args.placed.now)) c.token_at.ensures.token
    (subst (λ (z : Role). are_known z (is_some before.e) (is_some before.s) ts ≡ true) (sym same) knows) here c.asked_at.result
    (subst (λ (z : Role). MatchOption c.asked_at.result (remote_at z c.args.known.now c.token_at.result ≡ None)
    (λ want. (want.0 ≡ own_at z c.token_at.result) × (remote_at z c.args.known.now c.token_at.result ≡ Some want.1))) (sym same) c.asked_at.ensures)

pub returns-else-k-placed : goal.returns-else-k-placed
returns-else-k-placed c v before psks r message same knows stops j other =
    let ts : List Token = tokens_of c.args.placed.now in
    let here = subst (λ (z : Cause). StopsKnowing v before psks r ts message c.args.k z c.args.known.now) c.in-Agreement.is stops in
    omega (arith, stops-within v before psks r ts message c.args.k here.0, c.if-k-placed.false, length-tokens_of c.args.placed.now)

pub returns-in-Short : goal.returns-in-Short
returns-in-Short c v before psks r message same knows stops j other =
    let one = stops-one v before psks r (tokens_of c.args.placed.now) message j c.args.k Agreement c.args.cause other stops.0 in
    let e : Agreement ≡ c.args.cause = one.1 in
    let f = c.in-Short.is in
    cc

pub returns-in-Tag : goal.returns-in-Tag
returns-in-Tag c v before psks r message same knows stops j other =
    let one = stops-one v before psks r (tokens_of c.args.placed.now) message j c.args.k Agreement c.args.cause other stops.0 in
    let e : Agreement ≡ c.args.cause = one.1 in
    let f = c.in-Tag.is in
    cc
