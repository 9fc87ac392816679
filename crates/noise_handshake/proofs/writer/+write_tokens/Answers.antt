use Rattle.std.proofs.Common.{rules, ◌≡◌, ap, sym, subst, ℕ, ◌+◌, ◌-◌, ◌^◌, ◌≤◌, ◌<◌, List, ◌∷◌, length, take, drop, ◌∙◌, arith, length-take, length-drop}
use Rattle.std.specs.Prelude.{Bool}
use Rattle.noise_handshake.proofs.Common.{Ok, writer_of, keyed, Token, SymmetricState, PlacedToken, ArePlaced, token_bytes, token_width, tokens_width, keyed_after, nonce_now, nonce_after, has_own, Writer, tokens_of}
use Rattle.noise_handshake.specs.inner.Stepping.{TellsGiven}
use Rattle.noise_handshake.specs.inner.Writing.{WritesTokens}
use Rattle.noise_handshake.proofs.Counting.{after_token-counted, nonce-most}
use Rattle.noise_handshake.proofs.Giving.{widths, given-on, front-on, after-on, lacks-on}
use Rattle.noise_handshake.proofs.Layouts.{first-placed}
use Rattle.noise_handshake.proofs.Stepwise.{psk-due, all-first, all-later, psks-later}
use Rattle.noise_handshake.proofs.Told.{before-written, told-one, width-written}
use Rattle.noise_handshake.proofs.Widths.{after_token-keyed}
use Rattle.noise_handshake.proofs.Written.{joined, rest-after}
use Rattle.noise_handshake.proofs.writer.+write_tokens.Goals as goal

pub returns-in-Ok-clause-beyond : goal.returns-in-Ok-clause-beyond
returns-in-Ok-clause-beyond g t c = search (rules, widths, length-take, length-drop, rest-after)

pub returns-in-Ok-clause-written : goal.returns-in-Ok-clause-written
returns-in-Ok-clause-written g t c =
    let r : SymmetricState = c.args.state.now in
    let w : Writer = writer_of g.K.Keys.pairs c.args.means.now in
    let n : ℕ = c.in-Some-write_token.n in
    let k : ℕ = c.in-Ok.more in
    let token : Token = c.in-Some.first.now.token in
    let later : List Token = tokens_of c.in-Some.later.now in
    let key : Bool = keyed c.args.state.now in
    let split : tokens_of c.args.placed.now ≡ token ∷ later = ap tokens_of c.in-Some.ensures.cases.0 in
    let a = c.in-Some-write_token.ensures.written in
    let both : n + k ≤ length c.args.out.now =
    widths w.has_psks key (keyed c.write_token.new.state) (tokens_of c.args.placed.now) later token n k (length c.args.out.now) split c.requires.room
    c.in-Some-write_token.ensures.width (ap keyed a.3 ∙ after_token-keyed w.has_psks r token a.0) c.in-Ok.ensures.width in
    let fits : n ≤ length c.write_token.new.out = omega (arith, both) in
    let long : k ≤ length c.write_tokens.new.out =
    omega (arith, both, length-take (length c.write_token.new.out - n) (drop n c.write_token.new.out), length-drop n c.write_token.new.out) in
    let known = c.args.known.now in
    let psks : List (List ℕ) = c.args.psks.now in
    let others : List (List ℕ) = c.psks_after-others.result.now in
    let b = subst (λ (z : SymmetricState). WritesTokens w z c.write_tokens.new.state known others later c.write_tokens.new.out (Ok k)) a.3 c.in-Ok.ensures.written in (
      a.0 ∷ b.0,
      given-on w known psks others r (tokens_of c.args.placed.now) later token a.0 split a.1 c.psks_after-others.ensures.value b.0 b.1,
      joined c.write_token.new.out c.write_tokens.new.out n k fits long (drop (length c.write_token.new.out - n) (drop n c.write_token.new.out))
          ∙ front-on w known psks others r (tokens_of c.args.placed.now) later token a.0 split a.1 c.psks_after-others.ensures.value b.0
          (take n c.write_token.new.out) (take k c.write_tokens.new.out) a.2 b.2,
      after-on w known psks others r (tokens_of c.args.placed.now) later token a.0 split a.1 c.psks_after-others.ensures.value
          c.write_tokens.new.state b.0 b.3,
    )

pub returns-in-Err-clause-written : goal.returns-in-Err-clause-written
returns-in-Err-clause-written g t c =
    let r : SymmetricState = c.args.state.now in
    let w : Writer = writer_of g.K.Keys.pairs c.args.means.now in
    let token : Token = c.in-Some.first.now.token in
    let a = c.in-Some-write_token.ensures.written in
    lacks-on w c.args.known.now c.args.psks.now c.psks_after-others.result.now r (tokens_of c.args.placed.now) (tokens_of c.in-Some.later.now) token a.0
    (ap tokens_of c.in-Some.ensures.cases.0) a.1 c.psks_after-others.ensures.value c.in-Err.k c.in-Err.ensures.written

pub returns-in-Err-clause-told : goal.returns-in-Err-clause-told
returns-in-Err-clause-told g t c place are =
    let r : SymmetricState = c.args.state.now in
    let w : Writer = writer_of g.K.Keys.pairs c.args.means.now in
    let has_psks : Bool = c.args.means.now.has_psks in
    let key : Bool = keyed c.args.state.now in
    let first : PlacedToken = c.in-Some.first.now in
    let token : Token = first.token in
    let later : List Token = tokens_of c.in-Some.later.now in
    let split = c.in-Some.ensures.cases.0 in
    let n : ℕ = c.in-Some-write_token.n in
    let p = first-placed has_psks key place c.args.placed.now first c.in-Some.later.now split are in
    let a = c.in-Some-write_token.ensures.written in
    let piece : List ℕ = token_bytes r token a.0 in
    let wide_all : tokens_width has_psks key (tokens_of c.args.placed.now) ≡ token_width key token + tokens_width has_psks (keyed_after has_psks key token) later =
    ap (tokens_width has_psks key) (ap tokens_of split) in
    let range : n ≤ length c.write_token.new.out = omega (arith, c.requires.room, wide_all, c.in-Some-write_token.ensures.width) in
    let wide : length piece ≡ n = width-written piece c.write_token.new.out n range a.2 in
    let told = told-one g.S.Steps.after has_psks r token a.0 place first.place n c.write_token.new.state c.args.steps.now c.step.new.self
    c.step.ensures p.0 wide a.3 in
    let same : n ≡ first.width = c.in-Some-write_token.ensures.width ∙ sym p.1 in
    let are2 = subst (λ (b : Bool). ArePlaced has_psks b (place + first.width) c.in-Some.later.now) (sym (ap keyed a.3 ∙ after_token-keyed has_psks r token a.0)) p.2 in
    before-written g.S.Steps.after w c.args.known.now c.args.psks.now c.psks_after-others.result.now r (tokens_of c.args.placed.now) later token a.0
    place (place + first.width) c.args.steps.now c.step.new.self c.write_tokens.new.steps (ap tokens_of split) a.1 c.psks_after-others.ensures.value
    (ap (λ (k : ℕ). place + k) (sym same ∙ sym wide)) told c.in-Err.k (subst (λ (z : SymmetricState). TellsGiven g.S.Steps.after w z c.args.known.now c.psks_after-others.result.now (take c.in-Err.k later)
    (place + first.width) c.step.new.self c.write_tokens.new.steps) a.3 (c.in-Err.ensures.told (place + first.width) are2))

pub write_token-requires-clause-psk : goal.write_token-requires-clause-psk
write_token-requires-clause-psk g t c =
    psk-due (tokens_of c.args.placed.now) (tokens_of c.in-Some.later.now) c.in-Some.first.now.token (ap tokens_of c.in-Some.ensures.cases.0)
    (length c.args.psks.now) c.requires.psks

pub write_token-requires-clause-own : goal.write_token-requires-clause-own
write_token-requires-clause-own g t c =
    all-first (tokens_of c.args.placed.now) (tokens_of c.in-Some.later.now) c.in-Some.first.now.token (ap tokens_of c.in-Some.ensures.cases.0)
    (has_own (g.K.Keys.pairs c.args.means.now.keys).public) c.requires.own

pub psks_after-others-requires : goal.psks_after-others-requires
psks_after-others-requires g t c = record {
  psk = psk-due (tokens_of c.args.placed.now) (tokens_of c.in-Some.later.now) c.in-Some.first.now.token (ap tokens_of c.in-Some.ensures.cases.0)
      (length c.args.psks.now) c.requires.psks;
}

pub write_tokens-requires : goal.write_tokens-requires
write_tokens-requires g t c κs within =
    let r : SymmetricState = c.args.state.now in
    let has_psks : Bool = c.args.means.now.has_psks in
    let key : Bool = keyed c.args.state.now in
    let token : Token = c.in-Some.first.now.token in
    let later : List Token = tokens_of c.in-Some.later.now in
    let split : tokens_of c.args.placed.now ≡ token ∷ later = ap tokens_of c.in-Some.ensures.cases.0 in
    let out : List ℕ = c.write_token.new.out in
    let n : ℕ = c.in-Some-write_token.n in
    let a = c.in-Some-write_token.ensures.written in
    let wide : tokens_width has_psks key (tokens_of c.args.placed.now) ≡ token_width key token + tokens_width has_psks (keyed_after has_psks key token) later =
    ap (tokens_width has_psks key) split in
    let left : tokens_width has_psks (keyed c.write_token.new.state) later ≡ tokens_width has_psks (keyed_after has_psks key token) later =
    ap (λ (b : Bool). tokens_width has_psks b later) (ap keyed a.3 ∙ after_token-keyed has_psks r token a.0) in
    let counted : nonce_now c.write_token.new.state ≡ nonce_after has_psks (keyed r) (nonce_now r) token =
    ap nonce_now a.3 ∙ after_token-counted has_psks r token a.0 in
    let room : tokens_width has_psks (keyed c.write_token.new.state) later ≤ length (take (length out - n) (drop n out)) =
    omega (arith, c.requires.room, wide, left, c.in-Some-write_token.ensures.width, length-take (length out - n) (drop n out), length-drop n out) in
    let nonces : nonce_now c.write_token.new.state + length later < 2 ^ 64 - 1 = omega (arith, c.requires.nonces, counted, nonce-most has_psks (keyed r) (nonce_now r) token, ap length split) in (
      search rules,
      (
        within.0,
        (
          within.1,
          (
            psks-later (tokens_of c.args.placed.now) later token split c.args.psks.now c.psks_after-others.result.now c.psks_after-others.ensures.value c.requires.psks,
            (all-later (tokens_of c.args.placed.now) later token split (has_own (g.K.Keys.pairs c.args.means.now.keys).public) c.requires.own, (room, nonces)),
          ),
        ),
      ),
    )
