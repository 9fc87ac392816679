use Rattle.std.proofs.Common.{◌≡◌, ◌+◌, ◌-◌, ◌<◌, ◌≤◌, ◌^◌, ℕ, Bool, List, length, take, ap, sym, subst, ◌∙◌, arith, length-take, drop}
use Rattle.noise_handshake.proofs.Common.{Party, party_of, after_ciphertext, writer_of, count_by, is_psk, IsTrue, list_all, Some, Token, SymmetricState, keyed, nonce_now, Writer, Given, after_tokens, has_own, ArePlaced, PlacedToken, tokens_of, tokens_at, Ok}
use Rattle.noise_handshake.specs.inner.Writing.{WritesTokens}
use Rattle.noise_handshake.specs.inner.Stepping.{TellsGiven}
use Rattle.noise_handshake.specs.inner.Following.{Fronts}
use Rattle.noise_handshake.proofs.Counting.{after_tokens-most}
use Rattle.noise_handshake.proofs.Followed.{count-due, front_of, front-written, front-unwritten, leaves-wrote, whole-due, widths-most}
use Rattle.noise_handshake.proofs.Fronts.{all-take, tokens-take, placed-take}
use Rattle.noise_handshake.proofs.Later.{count-take}
use Rattle.noise_handshake.proofs.Layouts.{length-tokens_of}
use Rattle.noise_handshake.proofs.LateParties.{supplied-not}
use Rattle.noise_handshake.proofs.Next.{speaks-next, speaks-ours, places-next, psks-before, nonces-next, own-ours, trial-next, due-next}
use Rattle.noise_handshake.proofs.Widths.{given-carry}
use Rattle.noise_handshake.proofs.Wrote.{for-view}
use Rattle.noise_handshake.proofs.handshake.Handshake.write_front.Goals as goal

pub returns-in-Some-clause-front : goal.returns-in-Some-clause-front
returns-in-Some-clause-front g c xs all within given = absurd (supplied-not c.args.self.now all _ c.in-Some.ensures.lacks)

pub returns-then-count-len-clause-front : goal.returns-then-count-len-clause-front
returns-then-count-len-clause-front g c xs all within given =
    let P = g.K.Keys.pairs in
    let a = c.self.inside in
    let less = speaks-next P a c.self.invariant c.args.self.now c.self.view_is c.requires.due in
    let n = count-due P a c.self.invariant less c.args.self.now c.self.view_is in
    absurd (omega (arith, c.if-count-len.true, c.len.ensures.value, n, within))

pub write_tokens-requires-clause-psks : goal.write_tokens-requires-clause-psks
write_tokens-requires-clause-psks g c =
    let P = g.K.Keys.pairs in
    let a = c.self.inside in
    let less = speaks-next P a c.self.invariant c.args.self.now c.self.view_is c.requires.due in
    let ds : List PlacedToken = c.deref-2.result.now in
    let d = c.deref-2.ensures.0 in
    let count : ℕ = c.args.count in
    let cut : tokens_of (take count ds) ≡ take count (tokens_of ds) = tokens-take ds count in
    let h = c.args.self.now in
    let has : count_by is_psk (take count (tokens_at h.pattern.messages h.passed)) ≤ length h.psks =
    omega (arith, count-take (tokens_at h.pattern.messages h.passed) count, c.in_default.ensures.lacks) in
    omega (
      arith,
      psks-before P a c.self.invariant less ds d h c.self.view_is count has c.deref.result.now c.deref.ensures.0,
      ap (count_by is_psk) cut,
    )

pub write_tokens-requires-clause-nonces : goal.write_tokens-requires-clause-nonces
write_tokens-requires-clause-nonces g c =
    let P = g.K.Keys.pairs in
    let a = c.self.inside in
    let less = speaks-next P a c.self.invariant c.args.self.now c.self.view_is c.requires.due in
    let ds : List PlacedToken = c.deref-2.result.now in
    let d = c.deref-2.ensures.0 in
    let count : ℕ = c.args.count in
    let cut : tokens_of (take count ds) ≡ take count (tokens_of ds) = tokens-take ds count in
    let bound : nonce_now c.for_trial-state.result + length (tokens_of ds) < 2 ^ 64 - 1 =
    nonces-next P a c.self.invariant less ds d c.for_trial-state.result c.for_trial-state.ensures (omega (arith, c.deref-2.ensures.1)) in
    omega (arith, bound, ap length cut, length-take count (tokens_of ds))

pub write_tokens-requires-clause-own : goal.write_tokens-requires-clause-own
write_tokens-requires-clause-own g c =
    let P = g.K.Keys.pairs in
    let a = c.self.inside in
    let less = speaks-next P a c.self.invariant c.args.self.now c.self.view_is c.requires.due in
    let ds : List PlacedToken = c.deref-2.result.now in
    let d = c.deref-2.ensures.0 in
    let count : ℕ = c.args.count in
    let cut : tokens_of (take count ds) ≡ take count (tokens_of ds) = tokens-take ds count in
    let turn = speaks-ours P a c.self.invariant c.args.self.now c.self.view_is c.requires.due in
    subst (λ (us : List Token). IsTrue (list_all (has_own (P a.means.keys).public) us)) (sym cut)
    (all-take (has_own (P a.means.keys).public) (tokens_of ds) count (own-ours P a c.self.invariant less ds d turn))

pub write_tokens-requires-clause-room : goal.write_tokens-requires-clause-room
write_tokens-requires-clause-room g c =
    let P = g.K.Keys.pairs in
    let a = c.self.inside in
    let less = speaks-next P a c.self.invariant c.args.self.now c.self.view_is c.requires.due in
    let ds : List PlacedToken = c.deref-2.result.now in
    let d = c.deref-2.ensures.0 in
    let count : ℕ = c.args.count in
    let cut : tokens_of (take count ds) ≡ take count (tokens_of ds) = tokens-take ds count in
    let most = widths-most a.means.has_psks (keyed c.for_trial-state.result) (tokens_of (take count ds)) in
    omega (arith, most, ap length cut, length-take count (tokens_of ds), length-tokens_of ds, c.deref-2.ensures.1)

pub returns-in-Ok-clause-nonces : goal.returns-in-Ok-clause-nonces
returns-in-Ok-clause-nonces g c =
    let P = g.K.Keys.pairs in
    let a = c.self.inside in
    let less = speaks-next P a c.self.invariant c.args.self.now c.self.view_is c.requires.due in
    let ds : List PlacedToken = c.deref-2.result.now in
    let d = c.deref-2.ensures.0 in
    let count : ℕ = c.args.count in
    let cut : tokens_of (take count ds) ≡ take count (tokens_of ds) = tokens-take ds count in
    let bound : nonce_now c.for_trial-state.result + length (tokens_of ds) < 2 ^ 64 - 1 =
    nonces-next P a c.self.invariant less ds d c.for_trial-state.result c.for_trial-state.ensures (omega (arith, c.deref-2.ensures.1)) in
    let r : SymmetricState = c.for_trial-state.result in
    let us : List Token = tokens_of (take count ds) in
    let q = c.in-Ok.ensures.written in
    let most = after_tokens-most a.means.has_psks r c.write_tokens.new.state us q.0 (given-carry (writer_of P a.means) a.remote _ us q.0 q.1) q.3 in
    omega (arith, bound, most, ap length cut, length-take count (tokens_of ds))

pub returns-in-Ok-clause-leaves : goal.returns-in-Ok-clause-leaves
returns-in-Ok-clause-leaves g c all =
    let P = g.K.Keys.pairs in
    let a = c.self.inside in
    let less = speaks-next P a c.self.invariant c.args.self.now c.self.view_is c.requires.due in
    let ds : List PlacedToken = c.deref-2.result.now in
    let d = c.deref-2.ensures.0 in
    let count : ℕ = c.args.count in
    let cut : tokens_of (take count ds) ≡ take count (tokens_of ds) = tokens-take ds count in
    let b : Bool = a.means.has_psks in
    let us : List Token = tokens_of (take count ds) in
    let e = whole-due P a c.self.invariant less c.args.self.now c.self.view_is ds d count all in
    let short : length us ≤ 10 = omega (arith, ap length cut, length-take count (tokens_of ds), length-tokens_of ds, c.deref-2.ensures.1) in
    let q = c.in-Ok.ensures.written in
    let state : c.write_tokens.new.state ≡ after_tokens b a.state us q.0 =
    q.3 ∙ ap (λ (z : SymmetricState). after_tokens b z us q.0) c.for_trial-state.ensures in
    λ bytes. leaves-wrote P a c.self.invariant less c.args.self.now c.self.view_is us e short q.0
    (given-carry (writer_of P a.means) a.remote _ us q.0 q.1) bytes (after_ciphertext c.write_tokens.new.state bytes)
    (ap (λ (z : SymmetricState). after_ciphertext z bytes) state)
    (speaks-ours P a c.self.invariant c.args.self.now c.self.view_is c.requires.due)

pub returns-in-Ok-clause-front : goal.returns-in-Ok-clause-front
returns-in-Ok-clause-front g c xs all within given =
    let P = g.K.Keys.pairs in
    let a = c.self.inside in
    let less = speaks-next P a c.self.invariant c.args.self.now c.self.view_is c.requires.due in
    let ds : List PlacedToken = c.deref-2.result.now in
    let d = c.deref-2.ensures.0 in
    let count : ℕ = c.args.count in
    let cut : tokens_of (take count ds) ≡ take count (tokens_of ds) = tokens-take ds count in
    let placed : ArePlaced a.means.has_psks (keyed c.for_trial-state.result) 0 (take count ds) =
    placed-take a.means.has_psks (keyed c.for_trial-state.result) 0 ds count
    (places-next P a c.self.invariant less ds d c.for_trial-state.result c.for_trial-state.ensures) in
    let v : Party = party_of P c.args.self.now in
    let trial : c.for_trial-state.result ≡ v.state =
    trial-next P a c.self.invariant less ds d c.args.self.now c.self.view_is c.for_trial-state.result c.for_trial-state.ensures in
    let l = due-next P a c.self.invariant less ds d c.args.self.now c.self.view_is c.deref.result.now c.deref.ensures.0 c.requires.due in
    let w : Writer = writer_of P a.means in
    let most = widths-most a.means.has_psks (keyed c.for_trial-state.result) (tokens_of (take count ds)) in
    let room : c.in-Ok.from ≤ length c.write_tokens.new.out =
    omega (arith, c.in-Ok.ensures.width, most, ap length cut, length-take count (tokens_of ds), length-tokens_of ds, c.deref-2.ensures.1) in
    for-view v a.means.role a.means.has_psks (P a.means.keys).public (P a.means.keys).agree _ a.remote _ l
    (λ w z s us. (ys : List (List ℕ)) → Given w z s (take count us) ys → Fronts g.S.Steps.after
    (Some (front_of c.in-Ok.from c.write_tokens.new.state a.remote)) w.has_psks v.state (take count us) ys z
    c.args.steps.now c.write_tokens.new.steps)
    (front-written g.S.Steps.after v.state (tokens_of (take count ds)) (take count (tokens_of ds)) cut c.args.steps.now c.write_tokens.new.steps
    w a.remote _ c.write_tokens.new.out c.write_tokens.new.state c.in-Ok.from room
    (subst (λ (z : SymmetricState). WritesTokens w z c.write_tokens.new.state a.remote (take (length c.deref.result.now - c.self.inside.used) (drop c.self.inside.used c.deref.result.now)) (tokens_of (take count ds)) c.write_tokens.new.out
    (Ok c.in-Ok.from)) trial c.in-Ok.ensures.written)
    (subst (λ (z : SymmetricState). TellsGiven g.S.Steps.after w z a.remote (take (length c.deref.result.now - c.self.inside.used) (drop c.self.inside.used c.deref.result.now)) (tokens_of (take count ds)) 0 c.args.steps.now
    c.write_tokens.new.steps) trial (c.in-Ok.ensures.told 0 placed))) xs given

pub returns-in-Err-clause-front : goal.returns-in-Err-clause-front
returns-in-Err-clause-front g c xs all within given =
    let P = g.K.Keys.pairs in
    let a = c.self.inside in
    let less = speaks-next P a c.self.invariant c.args.self.now c.self.view_is c.requires.due in
    let ds : List PlacedToken = c.deref-2.result.now in
    let d = c.deref-2.ensures.0 in
    let count : ℕ = c.args.count in
    let cut : tokens_of (take count ds) ≡ take count (tokens_of ds) = tokens-take ds count in
    let placed : ArePlaced a.means.has_psks (keyed c.for_trial-state.result) 0 (take count ds) =
    placed-take a.means.has_psks (keyed c.for_trial-state.result) 0 ds count
    (places-next P a c.self.invariant less ds d c.for_trial-state.result c.for_trial-state.ensures) in
    let v : Party = party_of P c.args.self.now in
    let trial : c.for_trial-state.result ≡ v.state =
    trial-next P a c.self.invariant less ds d c.args.self.now c.self.view_is c.for_trial-state.result c.for_trial-state.ensures in
    let l = due-next P a c.self.invariant less ds d c.args.self.now c.self.view_is c.deref.result.now c.deref.ensures.0 c.requires.due in
    let w : Writer = writer_of P a.means in
    absurd (for-view v a.means.role a.means.has_psks (P a.means.keys).public (P a.means.keys).agree _ a.remote _ l
    (λ w z s us. (ys : List (List ℕ)) → Given w z s (take count us) ys → ⊥)
    (front-unwritten g.S.Steps.after v.state (tokens_of (take count ds)) (take count (tokens_of ds)) cut c.args.steps.now c.write_tokens.new.steps
    w a.remote _ c.write_tokens.new.out c.write_tokens.new.state _ c.in-Err.ensures.written) xs given)
