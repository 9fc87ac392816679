use Rattle.std.proofs.Common.{◌≡◌, ℕ, ◌-◌, ◌<◌, ◌≤◌, Bool, List, ◌++◌, length, take, drop, ap, sym, subst, ◌∙◌, arith, take_all, length-append, length-drop}
use Rattle.noise_handshake.proofs.Common.{Some, Token, SymmetricState, has_psk, after_ciphertext, ciphertext, before_payload, after_tokens, reader, writer, BeginsAs, Given, remote_after, tokens_now, Matches, Party, party_of, HandshakeValue, after_message, after_own}
use Rattle.noise_handshake.specs.Steps.{after_steps}
use Rattle.noise_handshake.specs.inner.Following.{IsFront, Leaves}
use Rattle.noise_handshake.proofs.Followed.{count-due, gone-matches}
use Rattle.noise_handshake.proofs.handshake.Handshake.follow.Goals as goal

pub go_on-requires-clause-leaves : goal.go_on-requires-clause-leaves
go_on-requires-clause-leaves g c =
    let h = c.args.self.now in
    let inside = subst (λ (z : HandshakeValue g.row.K.Denot). z.passed < length z.pattern.messages) (sym c.self.view_is) c.in-Some.ensures.more in
    let all = c.len-count.ensures.value ∙ count-due g.K.Keys.pairs c.self.inside c.self.invariant inside h c.self.view_is in
    subst (λ (z : SymmetricState). Leaves h z c.in-Some.front.remote) (sym c.mix_ciphertext.ensures.mixed) (c.in-Some.ensures.leaves all _)

pub returns-in_default-clause-accepted : goal.returns-in_default-clause-accepted
returns-in_default-clause-accepted g c xs payload all a =
    let P = g.K.Keys.pairs in
    let v : Party = party_of P c.args.self.now in
    let ts : List Token = tokens_now v in
    let b : Bool = has_psk v.pattern in
    let m : List ℕ = c.args.message.now in
    let piece : List ℕ = before_payload b v.state ts xs in
    let last : List ℕ = ciphertext (after_tokens b v.state ts xs) payload in
    let spelled : m ≡ piece ++ last = a.reads.spelled in
    let less = a.listens.more in
    let inside = subst (λ (z : HandshakeValue g.row.K.Denot). z.passed < length z.pattern.messages) (sym c.self.view_is) less in
    let n : length c.self.inside.next.tokens.items ≡ length ts =
    count-due P c.self.inside c.self.invariant inside c.args.self.now c.self.view_is in
    let count : c.len-count.result ≤ length ts = omega (arith, n, c.len-count.ensures.value) in
    let whole : take c.len-count.result ts ≡ ts = take_all c.len-count.result ts (omega (arith, n, c.len-count.ensures.value)) in
    let begins : BeginsAs (reader v) v.remote v.psks v.state (take c.len-count.result ts) xs m last =
    subst (λ (us : List Token). BeginsAs (reader v) v.remote v.psks v.state us xs m last) (sym whole)
    (record { fit = a.reads.fit; spelled = spelled }) in
    let q0 = c.in_default.ensures.read xs last all a.listens count begins in
    absurd q0.0

pub returns-then-from-message-clause-accepted : goal.returns-then-from-message-clause-accepted
returns-then-from-message-clause-accepted g c xs payload all a =
    let P = g.K.Keys.pairs in
    let v : Party = party_of P c.args.self.now in
    let ts : List Token = tokens_now v in
    let b : Bool = has_psk v.pattern in
    let m : List ℕ = c.args.message.now in
    let piece : List ℕ = before_payload b v.state ts xs in
    let last : List ℕ = ciphertext (after_tokens b v.state ts xs) payload in
    let spelled : m ≡ piece ++ last = a.reads.spelled in
    let less = a.listens.more in
    let inside = subst (λ (z : HandshakeValue g.row.K.Denot). z.passed < length z.pattern.messages) (sym c.self.view_is) less in
    let n : length c.self.inside.next.tokens.items ≡ length ts =
    count-due P c.self.inside c.self.invariant inside c.args.self.now c.self.view_is in
    let count : c.len-count.result ≤ length ts = omega (arith, n, c.len-count.ensures.value) in
    let whole : take c.len-count.result ts ≡ ts = take_all c.len-count.result ts (omega (arith, n, c.len-count.ensures.value)) in
    let begins : BeginsAs (reader v) v.remote v.psks v.state (take c.len-count.result ts) xs m last =
    subst (λ (us : List Token). BeginsAs (reader v) v.remote v.psks v.state us xs m last) (sym whole)
    (record { fit = a.reads.fit; spelled = spelled }) in
    let q0 = c.in-Some.ensures.read xs last all a.listens count begins in
    let from : c.in-Some.front.from ≡ length piece = q0.0.from ∙ ap (λ (us : List Token). length (before_payload b v.state us xs)) whole in
    absurd (omega (arith, c.if-from-message.true, from, ap length spelled, length-append piece last))

pub returns-clause-accepted : goal.returns-clause-accepted
returns-clause-accepted g c xs payload all a =
    let P = g.K.Keys.pairs in
    let v : Party = party_of P c.args.self.now in
    let ts : List Token = tokens_now v in
    let b : Bool = has_psk v.pattern in
    let m : List ℕ = c.args.message.now in
    let piece : List ℕ = before_payload b v.state ts xs in
    let last : List ℕ = ciphertext (after_tokens b v.state ts xs) payload in
    let spelled : m ≡ piece ++ last = a.reads.spelled in
    let less = a.listens.more in
    let inside = subst (λ (z : HandshakeValue g.row.K.Denot). z.passed < length z.pattern.messages) (sym c.self.view_is) less in
    let n : length c.self.inside.next.tokens.items ≡ length ts =
    count-due P c.self.inside c.self.invariant inside c.args.self.now c.self.view_is in
    let count : c.len-count.result ≤ length ts = omega (arith, n, c.len-count.ensures.value) in
    let whole : take c.len-count.result ts ≡ ts = take_all c.len-count.result ts (omega (arith, n, c.len-count.ensures.value)) in
    let begins : BeginsAs (reader v) v.remote v.psks v.state (take c.len-count.result ts) xs m last =
    subst (λ (us : List Token). BeginsAs (reader v) v.remote v.psks v.state us xs m last) (sym whole)
    (record { fit = a.reads.fit; spelled = spelled }) in
    let q0 = c.in-Some.ensures.read xs last all a.listens count begins in
    let q = subst (λ (us : List Token). IsFront c.in-Some.front b v.state us xs (remote_after v.remote us xs)
    × (c.front.new.steps ≡ after_steps g.S.Steps.after b v.state 0 us xs c.args.steps.now)) whole q0 in
    let from : ℕ = c.in-Some.front.from in
    let rest : take (length m - from) (drop from m) ≡ drop from m = take_all (length m - from) (drop from m) (omega (arith, length-drop from m)) in
    let mixed : c.mix_ciphertext.new.state ≡ after_ciphertext c.in-Some.front.state (drop from m) =
    c.mix_ciphertext.ensures.mixed ∙ ap (after_ciphertext c.in-Some.front.state) rest in (
      ap Some q.0.from,
      q.1,
      subst (λ (z : HandshakeValue g.row.K.Denot). Matches P z (after_message v xs payload)) (sym c.go_on.ensures.value)
          (gone-matches P c.args.self.now all c.in-Some.front xs payload m c.mix_ciphertext.new.state _ q.0 spelled mixed),
    )

pub returns-in_default-clause-written : goal.returns-in_default-clause-written
returns-in_default-clause-written g c xs payload all a =
    let P = g.K.Keys.pairs in
    let v : Party = party_of P c.args.self.now in
    let ts : List Token = tokens_now v in
    let b : Bool = has_psk v.pattern in
    let m : List ℕ = c.args.message.now in
    let piece : List ℕ = before_payload b v.state ts xs in
    let last : List ℕ = ciphertext (after_tokens b v.state ts xs) payload in
    let spelled : m ≡ piece ++ last = a.spelled in
    let less = a.speaks.more in
    let inside = subst (λ (z : HandshakeValue g.row.K.Denot). z.passed < length z.pattern.messages) (sym c.self.view_is) less in
    let n : length c.self.inside.next.tokens.items ≡ length ts =
    count-due P c.self.inside c.self.invariant inside c.args.self.now c.self.view_is in
    let count : c.len-count.result ≤ length ts = omega (arith, n, c.len-count.ensures.value) in
    let whole : take c.len-count.result ts ≡ ts = take_all c.len-count.result ts (omega (arith, n, c.len-count.ensures.value)) in
    let given : Given (writer v) v.remote v.psks (take c.len-count.result ts) xs =
    subst (λ (us : List Token). Given (writer v) v.remote v.psks us xs) (sym whole) a.given in
    let q0 = c.in_default.ensures.written xs all a.speaks count given in
    absurd q0.0

pub returns-then-from-message-clause-written : goal.returns-then-from-message-clause-written
returns-then-from-message-clause-written g c xs payload all a =
    let P = g.K.Keys.pairs in
    let v : Party = party_of P c.args.self.now in
    let ts : List Token = tokens_now v in
    let b : Bool = has_psk v.pattern in
    let m : List ℕ = c.args.message.now in
    let piece : List ℕ = before_payload b v.state ts xs in
    let last : List ℕ = ciphertext (after_tokens b v.state ts xs) payload in
    let spelled : m ≡ piece ++ last = a.spelled in
    let less = a.speaks.more in
    let inside = subst (λ (z : HandshakeValue g.row.K.Denot). z.passed < length z.pattern.messages) (sym c.self.view_is) less in
    let n : length c.self.inside.next.tokens.items ≡ length ts =
    count-due P c.self.inside c.self.invariant inside c.args.self.now c.self.view_is in
    let count : c.len-count.result ≤ length ts = omega (arith, n, c.len-count.ensures.value) in
    let whole : take c.len-count.result ts ≡ ts = take_all c.len-count.result ts (omega (arith, n, c.len-count.ensures.value)) in
    let given : Given (writer v) v.remote v.psks (take c.len-count.result ts) xs =
    subst (λ (us : List Token). Given (writer v) v.remote v.psks us xs) (sym whole) a.given in
    let q0 = c.in-Some.ensures.written xs all a.speaks count given in
    let from : c.in-Some.front.from ≡ length piece = q0.0.from ∙ ap (λ (us : List Token). length (before_payload b v.state us xs)) whole in
    absurd (omega (arith, c.if-from-message.true, from, ap length spelled, length-append piece last))

pub returns-clause-written : goal.returns-clause-written
returns-clause-written g c xs payload all a =
    let P = g.K.Keys.pairs in
    let v : Party = party_of P c.args.self.now in
    let ts : List Token = tokens_now v in
    let b : Bool = has_psk v.pattern in
    let m : List ℕ = c.args.message.now in
    let piece : List ℕ = before_payload b v.state ts xs in
    let last : List ℕ = ciphertext (after_tokens b v.state ts xs) payload in
    let spelled : m ≡ piece ++ last = a.spelled in
    let less = a.speaks.more in
    let inside = subst (λ (z : HandshakeValue g.row.K.Denot). z.passed < length z.pattern.messages) (sym c.self.view_is) less in
    let n : length c.self.inside.next.tokens.items ≡ length ts =
    count-due P c.self.inside c.self.invariant inside c.args.self.now c.self.view_is in
    let count : c.len-count.result ≤ length ts = omega (arith, n, c.len-count.ensures.value) in
    let whole : take c.len-count.result ts ≡ ts = take_all c.len-count.result ts (omega (arith, n, c.len-count.ensures.value)) in
    let given : Given (writer v) v.remote v.psks (take c.len-count.result ts) xs =
    subst (λ (us : List Token). Given (writer v) v.remote v.psks us xs) (sym whole) a.given in
    let q0 = c.in-Some.ensures.written xs all a.speaks count given in
    let q = subst (λ (us : List Token). IsFront c.in-Some.front b v.state us xs v.remote
    × (c.front.new.steps ≡ after_steps g.S.Steps.after b v.state 0 us xs c.args.steps.now)) whole q0 in
    let from : ℕ = c.in-Some.front.from in
    let rest : take (length m - from) (drop from m) ≡ drop from m = take_all (length m - from) (drop from m) (omega (arith, length-drop from m)) in
    let mixed : c.mix_ciphertext.new.state ≡ after_ciphertext c.in-Some.front.state (drop from m) =
    c.mix_ciphertext.ensures.mixed ∙ ap (after_ciphertext c.in-Some.front.state) rest in (
      ap Some q.0.from,
      q.1,
      subst (λ (z : HandshakeValue g.row.K.Denot). Matches P z (after_own v xs payload)) (sym c.go_on.ensures.value)
          (gone-matches P c.args.self.now all c.in-Some.front xs payload m c.mix_ciphertext.new.state _ q.0 spelled mixed),
    )
