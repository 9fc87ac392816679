use Rattle.std.proofs.Common.{rules, ◌≡◌, ap, ℕ, ◌+◌, List, ◌∷◌, ◌++◌, ◌≤◌, ◌<◌, ◌-◌, ◌^◌, [], length, drop, take, ◌∙◌, refl, arith, sym, subst, drop-drop}
use Rattle.std.specs.Prelude.{Bool, is_some}
use Rattle.noise_handshake.proofs.Common.{Ok, nil_from_length, reader_of, SymmetricState, Token, keyed, PlacedToken, token_bytes, after_token, after_tokens, Reader, BeginsAs, remote_after, cause_of, tokens_of, Fails, StopsKnowing, nonce_now, nonce_after}
use Rattle.noise_handshake.specs.inner.Reading.{ReadsTokens}
use Rattle.noise_handshake.specs.inner.Stepping.{TellsFront}
use Rattle.noise_handshake.proofs.Apart.{leads-none}
use Rattle.noise_handshake.proofs.Counting.{after_token-counted, nonce-most}
use Rattle.noise_handshake.proofs.Layouts.{first-placed, later-placed, rest-first}
use Rattle.noise_handshake.proofs.Reading.{stopped, led, learned-on, stopped-later}
use Rattle.noise_handshake.proofs.Stepwise.{psks-later}
use Rattle.noise_handshake.proofs.Told.{all-read, before-read, told-one, width-read}
use Rattle.noise_handshake.proofs.Widths.{after_token-keyed}
use Rattle.noise_handshake.proofs.reader.+read_tokens.Goals as goal

pub returns-in_default-clause-read : goal.returns-in_default-clause-read
returns-in_default-clause-read g t c place within are =
    let r : SymmetricState = c.args.state.now in
    let v : Reader = reader_of g.K.Keys.pairs c.args.means.now in
    let m : List ℕ = c.args.message.now in
    let known = c.args.known.now in
    let none : c.args.placed.now ≡ [] = nil_from_length c.args.placed.now c.in_default.ensures.cases in
    let here : place + 0 ≡ place = omega arith in
    subst (λ (us : List Token). (x : List (List ℕ)) × BeginsAs v known c.args.psks.now r us x (drop place m) (drop (place + 0) m)
    × (c.args.state.now ≡ after_tokens v.has_psks r us x) × (known ≡ remote_after known us x)) (sym (ap tokens_of none)) (
      [],
      subst (λ (k : ℕ). BeginsAs v known c.args.psks.now r [] [] (drop place m) (drop k m)) (sym here)
          (leads-none v known c.args.psks.now r (drop place m)),
      refl,
      refl,
    )

pub returns-in-Err-clause-read : goal.returns-in-Err-clause-read
returns-in-Err-clause-read g t c place within are =
    let r : SymmetricState = c.args.state.now in
    let v : Reader = reader_of g.K.Keys.pairs c.args.means.now in
    let first : PlacedToken = c.in-Some.first.now in
    let token : Token = first.token in
    let later : List Token = tokens_of c.in-Some.later.now in
    let split : tokens_of c.args.placed.now ≡ token ∷ later = ap tokens_of c.in-Some.ensures.cases.0 in
    let here = rest-first c.args.means.now.has_psks (keyed c.args.state.now) place c.args.placed.now c.in-Some.first.now c.in-Some.later.now c.in-Some.ensures.cases.0 are
    c.args.message.now c.bytes_from-rest.result.now c.bytes_from-rest.ensures.value in
    let d = c.in-Err.ensures.read in
    stopped v c.args.known.now c.args.psks.now r (tokens_of c.args.placed.now) later token (drop place c.args.message.now) c.in-Err.cause
    c.read_token.new.known split (subst (λ (z : List ℕ). Fails v c.args.known.now c.args.psks.now r token z) here d.0)
    (subst (λ (z : List ℕ). c.in-Err.cause ≡ cause_of (is_some r.cipher.key) token z) here d.1) c.in-Err.ensures.unchanged

pub returns-in-Ok-read_tokens-clause-read : goal.returns-in-Ok-read_tokens-clause-read
returns-in-Ok-read_tokens-clause-read g t c place within are =
    let r : SymmetricState = c.args.state.now in
    let v : Reader = reader_of g.K.Keys.pairs c.args.means.now in
    let has_psks : Bool = c.args.means.now.has_psks in
    let first : PlacedToken = c.in-Some.first.now in
    let token : Token = first.token in
    let later : List Token = tokens_of c.in-Some.later.now in
    let split : tokens_of c.args.placed.now ≡ token ∷ later = ap tokens_of c.in-Some.ensures.cases.0 in
    let here = rest-first c.args.means.now.has_psks (keyed c.args.state.now) place c.args.placed.now c.in-Some.first.now c.in-Some.later.now c.in-Some.ensures.cases.0 are
    c.args.message.now c.bytes_from-rest.result.now c.bytes_from-rest.ensures.value in
    let u = later-placed c.args.means.now.has_psks (keyed c.args.state.now) place c.args.placed.now c.in-Some.first.now c.in-Some.later.now c.in-Some.ensures.cases.0 are
    c.args.message.now c.bytes_from-rest.result.now c.bytes_from-rest.ensures.value within c.in-Ok.n (keyed c.read_token.new.state) c.in-Ok.ensures.width c.in-Ok.ensures.range (ap keyed c.in-Ok.ensures.read.3 ∙ after_token-keyed c.args.means.now.has_psks c.args.state.now c.in-Some.first.now.token c.in-Ok.ensures.read.0) in
    let m : List ℕ = c.args.message.now in
    let n : ℕ = c.in-Ok.n in
    let rest : List ℕ = drop place m in
    let d = c.in-Ok.ensures.read in
    let spelled : rest ≡ token_bytes r token d.0 ++ drop n rest = subst (λ (z : List ℕ). z ≡ token_bytes r token d.0 ++ drop n z) here d.2 in
    let more : ℕ = c.in-Ok-read_tokens.more in
    let known2 = c.read_token.new.known in
    let others : List (List ℕ) = c.psks_after-others.result.now in
    let i = subst (λ (z : SymmetricState). ReadsTokens v z c.read_tokens.new.state known2 c.read_tokens.new.known others later m (place + first.width) (Ok more))
    d.3 (c.in-Ok-read_tokens.ensures.read (place + first.width) u.1 u.2) in
    let leads : BeginsAs v known2 others (after_token has_psks r token d.0) later i.0 (drop (place + first.width) m) (drop more (drop (place + first.width) m)) =
    subst (λ (z : List ℕ). BeginsAs v known2 others (after_token has_psks r token d.0) later i.0 (drop (place + first.width) m) z)
    (sym (drop-drop more (place + first.width) m)) i.1 in
    let whole = led v c.args.known.now known2 c.args.psks.now others r (tokens_of c.args.placed.now) later token d.0 rest (drop (place + first.width) m) n
    split d.1 spelled d.4 c.psks_after-others.ensures.value u.3 i.0 more leads in (
      d.0 ∷ i.0,
      subst (λ (z : List ℕ). BeginsAs v c.args.known.now c.args.psks.now r (tokens_of c.args.placed.now) (d.0 ∷ i.0) rest z)
          (drop-drop (n + more) place m) whole,
      subst (λ (us : List Token). c.read_tokens.new.state ≡ after_tokens has_psks r us (d.0 ∷ i.0)) (sym split) i.2,
      learned-on v c.args.known.now known2 c.args.psks.now others r (tokens_of c.args.placed.now) later token d.0 rest (drop (place + first.width) m) n
          split d.1 spelled d.4 c.psks_after-others.ensures.value u.3 i.0 c.read_tokens.new.known i.3,
    )

pub returns-in-Err-read_tokens-clause-read : goal.returns-in-Err-read_tokens-clause-read
returns-in-Err-read_tokens-clause-read g t c place within are =
    let r : SymmetricState = c.args.state.now in
    let v : Reader = reader_of g.K.Keys.pairs c.args.means.now in
    let first : PlacedToken = c.in-Some.first.now in
    let token : Token = first.token in
    let later : List Token = tokens_of c.in-Some.later.now in
    let split : tokens_of c.args.placed.now ≡ token ∷ later = ap tokens_of c.in-Some.ensures.cases.0 in
    let here = rest-first c.args.means.now.has_psks (keyed c.args.state.now) place c.args.placed.now c.in-Some.first.now c.in-Some.later.now c.in-Some.ensures.cases.0 are
    c.args.message.now c.bytes_from-rest.result.now c.bytes_from-rest.ensures.value in
    let u = later-placed c.args.means.now.has_psks (keyed c.args.state.now) place c.args.placed.now c.in-Some.first.now c.in-Some.later.now c.in-Some.ensures.cases.0 are
    c.args.message.now c.bytes_from-rest.result.now c.bytes_from-rest.ensures.value within c.in-Ok.n (keyed c.read_token.new.state) c.in-Ok.ensures.width c.in-Ok.ensures.range (ap keyed c.in-Ok.ensures.read.3 ∙ after_token-keyed c.args.means.now.has_psks c.args.state.now c.in-Some.first.now.token c.in-Ok.ensures.read.0) in
    let m : List ℕ = c.args.message.now in
    let n : ℕ = c.in-Ok.n in
    let rest : List ℕ = drop place m in
    let d = c.in-Ok.ensures.read in
    let spelled : rest ≡ token_bytes r token d.0 ++ drop n rest = subst (λ (z : List ℕ). z ≡ token_bytes r token d.0 ++ drop n z) here d.2 in
    let i = subst (λ (z : SymmetricState). StopsKnowing v c.read_token.new.known c.psks_after-others.result.now z later (drop (place + first.width) m)
    c.in-Err-read_tokens.k c.in-Err-read_tokens.cause c.read_tokens.new.known) d.3 (c.in-Err-read_tokens.ensures.read (place + first.width) u.1 u.2) in
    stopped-later v c.args.known.now c.read_token.new.known c.args.psks.now c.psks_after-others.result.now r
    (tokens_of c.args.placed.now) later token d.0
    rest (drop (place + first.width) m) n split d.1 spelled d.4 c.psks_after-others.ensures.value u.3
    c.in-Err-read_tokens.k c.in-Err-read_tokens.cause c.read_tokens.new.known c.in-Err-read_tokens.ensures.stop i

pub returns-in-Ok-read_tokens-clause-told : goal.returns-in-Ok-read_tokens-clause-told
returns-in-Ok-read_tokens-clause-told g t c place within are =
    let r : SymmetricState = c.args.state.now in
    let v : Reader = reader_of g.K.Keys.pairs c.args.means.now in
    let has_psks : Bool = c.args.means.now.has_psks in
    let key : Bool = keyed c.args.state.now in
    let first : PlacedToken = c.in-Some.first.now in
    let token : Token = first.token in
    let later : List Token = tokens_of c.in-Some.later.now in
    let split = c.in-Some.ensures.cases.0 in
    let m : List ℕ = c.args.message.now in
    let n : ℕ = c.in-Ok.n in
    let from : ℕ = place + first.width in
    let here = rest-first has_psks key place c.args.placed.now first c.in-Some.later.now split are m c.bytes_from-rest.result.now c.bytes_from-rest.ensures.value in
    let u = later-placed has_psks key place c.args.placed.now first c.in-Some.later.now split are m c.bytes_from-rest.result.now c.bytes_from-rest.ensures.value
    within n (keyed c.read_token.new.state) c.in-Ok.ensures.width c.in-Ok.ensures.range (ap keyed c.in-Ok.ensures.read.3 ∙ after_token-keyed c.args.means.now.has_psks c.args.state.now c.in-Some.first.now.token c.in-Ok.ensures.read.0) in
    let d = c.in-Ok.ensures.read in
    let piece : List ℕ = token_bytes r token d.0 in
    let range : n ≤ length (drop place m) = subst (λ (z : List ℕ). n ≤ length z) here c.in-Ok.ensures.range in
    let spelled : drop place m ≡ piece ++ drop n (drop place m) = subst (λ (z : List ℕ). z ≡ piece ++ drop n z) here d.2 in
    let wide : length piece ≡ n = width-read piece (drop place m) n range spelled in
    let told = told-one g.S.Steps.after has_psks r token d.0 place first.place n c.read_token.new.state c.args.steps.now c.step.new.self
    c.step.ensures (first-placed has_psks key place c.args.placed.now first c.in-Some.later.now split are).0 wide d.3 in
    all-read g.S.Steps.after v c.args.known.now c.read_token.new.known c.args.psks.now c.psks_after-others.result.now r (tokens_of c.args.placed.now) later token d.0
    (drop place m) (drop from m) place from c.args.steps.now c.step.new.self c.read_tokens.new.steps (ap tokens_of split) d.1
    (spelled ∙ ap (λ (z : List ℕ). piece ++ z) (sym u.3)) d.4 c.psks_after-others.ensures.value (ap (λ (k : ℕ). place + k) (sym u.0 ∙ sym wide)) told
    (subst (λ (z : SymmetricState). TellsFront g.S.Steps.after v z c.read_token.new.known c.psks_after-others.result.now later m from c.step.new.self
    c.read_tokens.new.steps) d.3 (c.in-Ok-read_tokens.ensures.told from u.1 u.2))

pub returns-in-Err-read_tokens-clause-told : goal.returns-in-Err-read_tokens-clause-told
returns-in-Err-read_tokens-clause-told g t c place within are =
    let r : SymmetricState = c.args.state.now in
    let v : Reader = reader_of g.K.Keys.pairs c.args.means.now in
    let has_psks : Bool = c.args.means.now.has_psks in
    let key : Bool = keyed c.args.state.now in
    let first : PlacedToken = c.in-Some.first.now in
    let token : Token = first.token in
    let later : List Token = tokens_of c.in-Some.later.now in
    let split = c.in-Some.ensures.cases.0 in
    let m : List ℕ = c.args.message.now in
    let n : ℕ = c.in-Ok.n in
    let from : ℕ = place + first.width in
    let here = rest-first has_psks key place c.args.placed.now first c.in-Some.later.now split are m c.bytes_from-rest.result.now c.bytes_from-rest.ensures.value in
    let u = later-placed has_psks key place c.args.placed.now first c.in-Some.later.now split are m c.bytes_from-rest.result.now c.bytes_from-rest.ensures.value
    within n (keyed c.read_token.new.state) c.in-Ok.ensures.width c.in-Ok.ensures.range (ap keyed c.in-Ok.ensures.read.3 ∙ after_token-keyed c.args.means.now.has_psks c.args.state.now c.in-Some.first.now.token c.in-Ok.ensures.read.0) in
    let d = c.in-Ok.ensures.read in
    let piece : List ℕ = token_bytes r token d.0 in
    let range : n ≤ length (drop place m) = subst (λ (z : List ℕ). n ≤ length z) here c.in-Ok.ensures.range in
    let spelled : drop place m ≡ piece ++ drop n (drop place m) = subst (λ (z : List ℕ). z ≡ piece ++ drop n z) here d.2 in
    let wide : length piece ≡ n = width-read piece (drop place m) n range spelled in
    let told = told-one g.S.Steps.after has_psks r token d.0 place first.place n c.read_token.new.state c.args.steps.now c.step.new.self
    c.step.ensures (first-placed has_psks key place c.args.placed.now first c.in-Some.later.now split are).0 wide d.3 in
    before-read g.S.Steps.after v c.args.known.now c.read_token.new.known c.args.psks.now c.psks_after-others.result.now r (tokens_of c.args.placed.now) later token d.0
    (drop place m) (drop from m) place from c.args.steps.now c.step.new.self c.read_tokens.new.steps (ap tokens_of split) d.1
    (spelled ∙ ap (λ (z : List ℕ). piece ++ z) (sym u.3)) d.4 c.psks_after-others.ensures.value (ap (λ (k : ℕ). place + k) (sym u.0 ∙ sym wide)) told
    c.in-Err-read_tokens.k (subst (λ (z : SymmetricState). TellsFront g.S.Steps.after v z c.read_token.new.known c.psks_after-others.result.now
    (take c.in-Err-read_tokens.k later) m from c.step.new.self c.read_tokens.new.steps) d.3 (c.in-Err-read_tokens.ensures.told from u.1 u.2))

pub returns-in-Ok-read_tokens-clause-within : goal.returns-in-Ok-read_tokens-clause-within
returns-in-Ok-read_tokens-clause-within g t c =
    let at = c.requires.placed in
    let u = later-placed c.args.means.now.has_psks (keyed c.args.state.now) at.0 c.args.placed.now c.in-Some.first.now c.in-Some.later.now
    c.in-Some.ensures.cases.0 at.2 c.args.message.now c.bytes_from-rest.result.now c.bytes_from-rest.ensures.value at.1 c.in-Ok.n
    (keyed c.read_token.new.state) c.in-Ok.ensures.width c.in-Ok.ensures.range (ap keyed c.in-Ok.ensures.read.3 ∙ after_token-keyed c.args.means.now.has_psks c.args.state.now c.in-Some.first.now.token c.in-Ok.ensures.read.0) in
    omega (arith, u.0, c.in-Ok-read_tokens.ensures.range (at.0 + c.in-Some.first.now.width) u.1 u.2)

pub returns-in-Ok-read_tokens-clause-range : goal.returns-in-Ok-read_tokens-clause-range
returns-in-Ok-read_tokens-clause-range g t c place within are =
    let u = later-placed c.args.means.now.has_psks (keyed c.args.state.now) place c.args.placed.now c.in-Some.first.now c.in-Some.later.now
    c.in-Some.ensures.cases.0 are c.args.message.now c.bytes_from-rest.result.now c.bytes_from-rest.ensures.value within c.in-Ok.n
    (keyed c.read_token.new.state) c.in-Ok.ensures.width c.in-Ok.ensures.range (ap keyed c.in-Ok.ensures.read.3 ∙ after_token-keyed c.args.means.now.has_psks c.args.state.now c.in-Some.first.now.token c.in-Ok.ensures.read.0) in
    omega (arith, u.0, c.in-Ok-read_tokens.ensures.range (place + c.in-Some.first.now.width) u.1 u.2)

pub read_tokens-requires : goal.read_tokens-requires
read_tokens-requires g t c κs within =
    let at = c.requires.placed in
    let u = later-placed c.args.means.now.has_psks (keyed c.args.state.now) at.0 c.args.placed.now c.in-Some.first.now c.in-Some.later.now
    c.in-Some.ensures.cases.0 at.2 c.args.message.now c.bytes_from-rest.result.now c.bytes_from-rest.ensures.value at.1 c.in-Ok.n
    (keyed c.read_token.new.state) c.in-Ok.ensures.width c.in-Ok.ensures.range (ap keyed c.in-Ok.ensures.read.3 ∙ after_token-keyed c.args.means.now.has_psks c.args.state.now c.in-Some.first.now.token c.in-Ok.ensures.read.0) in
    let split : tokens_of c.args.placed.now ≡ c.in-Some.first.now.token ∷ tokens_of c.in-Some.later.now = ap tokens_of c.in-Some.ensures.cases.0 in
    let r : SymmetricState = c.args.state.now in
    let token : Token = c.in-Some.first.now.token in
    let has_psks : Bool = c.args.means.now.has_psks in
    let counted : nonce_now c.read_token.new.state ≡ nonce_after has_psks (keyed r) (nonce_now r) token =
    ap nonce_now c.in-Ok.ensures.read.3 ∙ after_token-counted has_psks r token c.in-Ok.ensures.read.0 in
    let nonces : nonce_now c.read_token.new.state + length (tokens_of c.in-Some.later.now) < 2 ^ 64 - 1 = omega (arith, c.requires.nonces, counted, nonce-most has_psks (keyed r) (nonce_now r) token, ap length split) in
    (search rules, (within.0, (within.1, ((at.0 + c.in-Some.first.now.width, u.1, u.2), (search (rules, psks-later), nonces)))))
