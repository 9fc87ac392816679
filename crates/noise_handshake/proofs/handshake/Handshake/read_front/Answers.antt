use Rattle.std.proofs.Common.{◌≡◌, ◌+◌, ◌-◌, ◌<◌, ◌≤◌, ◌^◌, ℕ, Bool, List, length, take, ap, ◌∙◌, arith, length-take, subst, drop}
use Rattle.noise_handshake.proofs.Common.{Party, party_of, after_ciphertext, reader_of, count_by, is_psk, Some, Token, SymmetricState, keyed, nonce_now, Reader, BeginsAs, remote_after, ArePlaced, PlacedToken, tokens_of, tokens_at, after_tokens, Ok, StopsKnowing}
use Rattle.noise_handshake.specs.inner.Reading.{ReadsTokens}
use Rattle.noise_handshake.specs.inner.Stepping.{TellsFront}
use Rattle.noise_handshake.specs.declared.following.Front.{Front}
use Rattle.noise_handshake.specs.inner.Following.{Fronts}
use Rattle.noise_handshake.proofs.Counting.{after_tokens-most}
use Rattle.noise_handshake.proofs.Followed.{count-due, front-read, front-unread, leaves-read, whole-due}
use Rattle.noise_handshake.proofs.Fronts.{tokens-take, placed-take}
use Rattle.noise_handshake.proofs.Later.{count-take}
use Rattle.noise_handshake.proofs.Layouts.{length-tokens_of}
use Rattle.noise_handshake.proofs.LateParties.{supplied-not}
use Rattle.noise_handshake.proofs.Next.{reads-next, reads-theirs, places-next, psks-before, nonces-next, trial-next, listening-next}
use Rattle.noise_handshake.proofs.Standing.{for-view}
use Rattle.noise_handshake.proofs.Widths.{fit-carry}
use Rattle.noise_handshake.proofs.handshake.Handshake.read_front.Goals as goal

pub returns-in-Some-clause-front : goal.returns-in-Some-clause-front
returns-in-Some-clause-front g c xs rest all within begins = absurd (supplied-not c.args.self.now all _ c.in-Some.ensures.lacks)

pub returns-then-count-len-clause-front : goal.returns-then-count-len-clause-front
returns-then-count-len-clause-front g c xs rest all within begins =
    let P = g.K.Keys.pairs in
    let a = c.self.inside in
    let less = reads-next P a c.self.invariant c.args.self.now c.self.view_is c.requires.due in
    let n = count-due P a c.self.invariant less c.args.self.now c.self.view_is in
    absurd (omega (arith, c.if-count-len.true, c.len.ensures.value, n, within))

pub read_tokens-requires-clause-placed : goal.read_tokens-requires-clause-placed
read_tokens-requires-clause-placed g c =
    let P = g.K.Keys.pairs in
    let a = c.self.inside in
    let less = reads-next P a c.self.invariant c.args.self.now c.self.view_is c.requires.due in
    let ds : List PlacedToken = c.deref-2.result.now in
    let d = c.deref-2.ensures.0 in
    let count : ℕ = c.args.count in
    let cut : tokens_of (take count ds) ≡ take count (tokens_of ds) = tokens-take ds count in
    let placed : ArePlaced a.means.has_psks (keyed c.for_trial-state.result) 0 (take count ds) =
    placed-take a.means.has_psks (keyed c.for_trial-state.result) 0 ds count
    (places-next P a c.self.invariant less ds d c.for_trial-state.result c.for_trial-state.ensures) in
    (0, omega arith, placed)

pub read_tokens-requires-clause-psks : goal.read_tokens-requires-clause-psks
read_tokens-requires-clause-psks g c =
    let P = g.K.Keys.pairs in
    let a = c.self.inside in
    let less = reads-next P a c.self.invariant c.args.self.now c.self.view_is c.requires.due in
    let ds : List PlacedToken = c.deref-2.result.now in
    let d = c.deref-2.ensures.0 in
    let count : ℕ = c.args.count in
    let cut : tokens_of (take count ds) ≡ take count (tokens_of ds) = tokens-take ds count in
    let h = c.args.self.now in
    let has : count_by is_psk (take count (tokens_at h.pattern.messages h.passed)) ≤ length h.psks =
    omega (arith, count-take (tokens_at h.pattern.messages h.passed) count, c.in_default.ensures.lacks) in
    omega (
      arith,
      psks-before P a c.self.invariant less ds d h c.self.view_is count has c.deref.result.now c.deref.ensures.0,
      ap (count_by is_psk) cut,
    )

pub read_tokens-requires-clause-nonces : goal.read_tokens-requires-clause-nonces
read_tokens-requires-clause-nonces g c =
    let P = g.K.Keys.pairs in
    let a = c.self.inside in
    let less = reads-next P a c.self.invariant c.args.self.now c.self.view_is c.requires.due in
    let ds : List PlacedToken = c.deref-2.result.now in
    let d = c.deref-2.ensures.0 in
    let count : ℕ = c.args.count in
    let cut : tokens_of (take count ds) ≡ take count (tokens_of ds) = tokens-take ds count in
    let bound : nonce_now c.for_trial-state.result + length (tokens_of ds) < 2 ^ 64 - 1 =
    nonces-next P a c.self.invariant less ds d c.for_trial-state.result c.for_trial-state.ensures (omega (arith, c.deref-2.ensures.1)) in
    omega (arith, bound, ap length cut, length-take count (tokens_of ds))

pub returns-in-Ok-clause-nonces : goal.returns-in-Ok-clause-nonces
returns-in-Ok-clause-nonces g c =
    let P = g.K.Keys.pairs in
    let a = c.self.inside in
    let less = reads-next P a c.self.invariant c.args.self.now c.self.view_is c.requires.due in
    let ds : List PlacedToken = c.deref-2.result.now in
    let d = c.deref-2.ensures.0 in
    let count : ℕ = c.args.count in
    let cut : tokens_of (take count ds) ≡ take count (tokens_of ds) = tokens-take ds count in
    let bound : nonce_now c.for_trial-state.result + length (tokens_of ds) < 2 ^ 64 - 1 =
    nonces-next P a c.self.invariant less ds d c.for_trial-state.result c.for_trial-state.ensures (omega (arith, c.deref-2.ensures.1)) in
    let r : SymmetricState = c.for_trial-state.result in
    let us : List Token = tokens_of (take count ds) in
    let placed : ArePlaced a.means.has_psks (keyed r) 0 (take count ds) =
    placed-take a.means.has_psks (keyed r) 0 ds count (places-next P a c.self.invariant less ds d r c.for_trial-state.ensures) in
    let q = c.in-Ok.ensures.read 0 (omega arith) placed in
    let most = after_tokens-most a.means.has_psks r c.read_tokens.new.state us q.0 (fit-carry (reader_of P a.means) a.remote _ us q.0 q.1.fit) q.2 in
    omega (arith, bound, most, ap length cut, length-take count (tokens_of ds))

pub returns-in-Ok-clause-leaves : goal.returns-in-Ok-clause-leaves
returns-in-Ok-clause-leaves g c all =
    let P = g.K.Keys.pairs in
    let a = c.self.inside in
    let less = reads-next P a c.self.invariant c.args.self.now c.self.view_is c.requires.due in
    let ds : List PlacedToken = c.deref-2.result.now in
    let d = c.deref-2.ensures.0 in
    let count : ℕ = c.args.count in
    let cut : tokens_of (take count ds) ≡ take count (tokens_of ds) = tokens-take ds count in
    let b : Bool = a.means.has_psks in
    let f : Front = record { from = c.in-Ok.from; state = c.read_tokens.new.state; remote = c.read_tokens.new.known } in
    let us : List Token = tokens_of (take count ds) in
    let e = whole-due P a c.self.invariant less c.args.self.now c.self.view_is ds d count all in
    let short : length us ≤ 10 = omega (arith, ap length cut, length-take count (tokens_of ds), length-tokens_of ds, c.deref-2.ensures.1) in
    let r : SymmetricState = c.for_trial-state.result in
    let placed : ArePlaced b (keyed r) 0 (take count ds) =
    placed-take b (keyed r) 0 ds count (places-next P a c.self.invariant less ds d r c.for_trial-state.ensures) in
    let q = c.in-Ok.ensures.read 0 (omega arith) placed in
    let state : f.state ≡ after_tokens b a.state us q.0 = q.2 ∙ ap (λ (z : SymmetricState). after_tokens b z us q.0) c.for_trial-state.ensures in
    λ bytes. leaves-read P a c.self.invariant less c.args.self.now c.self.view_is us e short q.0 (fit-carry (reader_of P a.means) a.remote _ us q.0 q.1.fit) bytes
    (after_ciphertext f.state bytes) (ap (λ (z : SymmetricState). after_ciphertext z bytes) state)
    (reads-theirs P a c.self.invariant c.args.self.now c.self.view_is c.requires.due) f.remote q.3

pub returns-in-Ok-clause-front : goal.returns-in-Ok-clause-front
returns-in-Ok-clause-front g c xs rest all within begins =
    let P = g.K.Keys.pairs in
    let a = c.self.inside in
    let less = reads-next P a c.self.invariant c.args.self.now c.self.view_is c.requires.due in
    let ds : List PlacedToken = c.deref-2.result.now in
    let d = c.deref-2.ensures.0 in
    let count : ℕ = c.args.count in
    let cut : tokens_of (take count ds) ≡ take count (tokens_of ds) = tokens-take ds count in
    let placed : ArePlaced a.means.has_psks (keyed c.for_trial-state.result) 0 (take count ds) =
    placed-take a.means.has_psks (keyed c.for_trial-state.result) 0 ds count
    (places-next P a c.self.invariant less ds d c.for_trial-state.result c.for_trial-state.ensures) in
    let v : Party = party_of P c.args.self.now in
    let trial : c.for_trial-state.result ≡ v.state =
    trial-next P a c.self.invariant less ds d c.args.self.now c.self.view_is c.for_trial-state.result c.for_trial-state.ensures in
    let l = listening-next P a c.self.invariant less ds d c.args.self.now c.self.view_is c.deref.result.now c.deref.ensures.0 c.requires.due in
    let w : Reader = reader_of P a.means in
    let m : List ℕ = c.args.message.now in
    let f : Front = record { from = c.in-Ok.from; state = c.read_tokens.new.state; remote = c.read_tokens.new.known } in
    for-view v a.means.role a.means.has_psks (P a.means.keys).agree _ a.remote _ l
    (λ w z s us. (ys : List (List ℕ)) (q : List ℕ) → BeginsAs w z s v.state (take count us) ys m q
    → Fronts g.S.Steps.after (Some f) w.has_psks v.state (take count us) ys (remote_after z (take count us) ys) c.args.steps.now c.read_tokens.new.steps)
    (front-read g.S.Steps.after v.state (tokens_of (take count ds)) (take count (tokens_of ds)) cut c.args.steps.now c.read_tokens.new.steps
    w a.remote c.read_tokens.new.known _ m c.read_tokens.new.state c.in-Ok.from c.in-Ok.ensures.within
    (subst (λ (z : SymmetricState). ReadsTokens w z c.read_tokens.new.state a.remote c.read_tokens.new.known (take (length c.deref.result.now - c.self.inside.used) (drop c.self.inside.used c.deref.result.now)) (tokens_of (take count ds)) m 0
    (Ok c.in-Ok.from)) trial (c.in-Ok.ensures.read 0 (omega arith) placed))
    (subst (λ (z : SymmetricState). TellsFront g.S.Steps.after w z a.remote (take (length c.deref.result.now - c.self.inside.used) (drop c.self.inside.used c.deref.result.now)) (tokens_of (take count ds)) m 0 c.args.steps.now
    c.read_tokens.new.steps) trial (c.in-Ok.ensures.told 0 (omega arith) placed))) xs rest begins

pub returns-in-Err-clause-front : goal.returns-in-Err-clause-front
returns-in-Err-clause-front g c xs rest all within begins =
    let P = g.K.Keys.pairs in
    let a = c.self.inside in
    let less = reads-next P a c.self.invariant c.args.self.now c.self.view_is c.requires.due in
    let ds : List PlacedToken = c.deref-2.result.now in
    let d = c.deref-2.ensures.0 in
    let count : ℕ = c.args.count in
    let cut : tokens_of (take count ds) ≡ take count (tokens_of ds) = tokens-take ds count in
    let placed : ArePlaced a.means.has_psks (keyed c.for_trial-state.result) 0 (take count ds) =
    placed-take a.means.has_psks (keyed c.for_trial-state.result) 0 ds count
    (places-next P a c.self.invariant less ds d c.for_trial-state.result c.for_trial-state.ensures) in
    let v : Party = party_of P c.args.self.now in
    let trial : c.for_trial-state.result ≡ v.state =
    trial-next P a c.self.invariant less ds d c.args.self.now c.self.view_is c.for_trial-state.result c.for_trial-state.ensures in
    let l = listening-next P a c.self.invariant less ds d c.args.self.now c.self.view_is c.deref.result.now c.deref.ensures.0 c.requires.due in
    let w : Reader = reader_of P a.means in
    let m : List ℕ = c.args.message.now in
    absurd (for-view v a.means.role a.means.has_psks (P a.means.keys).agree _ a.remote _ l
    (λ w z s us. (ys : List (List ℕ)) (q : List ℕ) → BeginsAs w z s v.state (take count us) ys m q → ⊥)
    (front-unread g.S.Steps.after v.state (tokens_of (take count ds)) (take count (tokens_of ds)) cut c.args.steps.now c.read_tokens.new.steps
    w a.remote c.read_tokens.new.known _ m c.read_tokens.new.state _ c.in-Err.ensures.stop
    (subst (λ (z : SymmetricState). StopsKnowing w a.remote (take (length c.deref.result.now - c.self.inside.used) (drop c.self.inside.used c.deref.result.now)) z (tokens_of (take count ds)) m c.in-Err.field-0.0 c.in-Err.field-0.1
    c.read_tokens.new.known) trial (c.in-Err.ensures.read 0 (omega arith) placed))) xs rest begins)
