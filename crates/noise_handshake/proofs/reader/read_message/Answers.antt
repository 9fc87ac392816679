use Rattle.std.proofs.Common.{◌≡◌, ◌<◌, ◌≤◌, ◌^◌, ℕ, ◌+◌, ◌-◌, List, length, take, drop, slice_range, ap, sym, subst, ◌∙◌, arith, length-drop, rules, length-take, take_all, nat_lt, if◌then◌else◌}
use Rattle.std.proofs.lemmas.Slice.{take-put_mid_below}
use Rattle.noise_handshake.proofs.Common.{reader_of, SymmetricState, after_ciphertext, decrypts-not, nonce_now, take_rest, keyed, ciphertext, after_tokens, Token, Reader, BeginsAs, StopsKnowing, tokens_of}
use borrow.Rule.Slice.PartMut.{put_mid}
use Rattle.noise_handshake.specs.declared.faults.Cause.TheVariants.{Short, Tag}
use Rattle.noise_handshake.proofs.Counting.{after_tokens-most}
use Rattle.noise_handshake.proofs.Tags.{sealed_len-tag}
use Rattle.noise_handshake.proofs.Layouts.{length-tokens_of}
use Rattle.noise_handshake.proofs.Apart.{reads-whole, knows-last}
use Rattle.noise_handshake.proofs.Reading.{written-at, rest-at}
use Rattle.noise_handshake.proofs.Widths.{fit-carry}
use Rattle.noise_handshake.proofs.reader.read_message.Goals as goal

pub unreachable-requires : goal.unreachable-requires
unreachable-requires g c =
    let q = c.in-Ok.ensures.read 0 (omega arith) c.requires.placed in
    let most = after_tokens-most c.args.means.now.has_psks c.args.state.now c.read_tokens.new.state (tokens_of c.args.placed.now) q.0
    (fit-carry (reader_of g.K.Keys.pairs c.args.means.now) c.args.known.now c.args.psks.now (tokens_of c.args.placed.now) q.0 q.1.fit) q.2 in
    let nonces : nonce_now c.read_tokens.new.state < 2 ^ 64 - 1 = omega (arith, most, c.requires.nonces) in
    search rules

pub returns-in-Ok-decrypt_and_hash-clause-beyond : goal.returns-in-Ok-decrypt_and_hash-clause-beyond
returns-in-Ok-decrypt_and_hash-clause-beyond g c = search (rules, take-put_mid_below, rest-at, take_rest)

pub returns-in-Ok-decrypt_and_hash-clause-read : goal.returns-in-Ok-decrypt_and_hash-clause-read
returns-in-Ok-decrypt_and_hash-clause-read g c =
    let r : SymmetricState = c.args.state.now in
    let v : Reader = reader_of g.K.Keys.pairs c.args.means.now in
    let m : List ℕ = c.args.message.now in
    let n : ℕ = c.in-Ok.from in
    let len : ℕ = c.in-Ok-decrypt_and_hash.len in
    let new : List ℕ = c.decrypt_and_hash.new.buf in
    let payload : List ℕ = slice_range (put_mid n (length m - n) m new) n (n + len) in
    let start = c.in-Ok.ensures.read 0 (omega arith) c.requires.placed in
    let none : 0 + n ≡ n = omega arith in
    let i1 : BeginsAs v c.args.known.now c.args.psks.now r (tokens_of c.args.placed.now) start.0 m (drop n m) =
    subst (λ (k : ℕ). BeginsAs v c.args.known.now c.args.psks.now r (tokens_of c.args.placed.now) start.0 m (drop k m)) none start.1 in
    let after : SymmetricState = after_tokens c.args.means.now.has_psks r (tokens_of c.args.placed.now) start.0 in
    let goes : take (length m - n) (drop n m) ≡ drop n m = take_all (length m - n) (drop n m) (omega (arith, length-drop n m)) in
    let q : payload ≡ take len new = written-at m new _ n len (omega (arith, c.in-Ok.ensures.within))
    (omega (arith, sealed_len-tag (keyed c.read_tokens.new.state) len, c.in-Ok-decrypt_and_hash.ensures.2)) in
    let e : take (length m - n) (drop n m) ≡ ciphertext after payload =
    c.in-Ok-decrypt_and_hash.ensures.4 ∙ ap (λ (z : SymmetricState). ciphertext z (take len new)) start.2 ∙ ap (ciphertext after) (sym q) in (
      start.0,
      reads-whole v c.args.known.now c.args.psks.now r (tokens_of c.args.placed.now) m start.0 (drop n m) payload i1 (sym goes ∙ e),
      subst (λ (k : List ℕ). c.decrypt_and_hash.new.self ≡ after_ciphertext after k) e
          (c.in-Ok-decrypt_and_hash.ensures.6 ∙ ap (λ (z : SymmetricState). after_ciphertext z (take (length m - n) (drop n m))) start.2),
      start.3,
    )

pub returns-in-Err-Short-clause-stop : goal.returns-in-Err-Short-clause-stop
returns-in-Err-Short-clause-stop g c = omega (arith, length-tokens_of c.args.placed.now)

pub returns-in-Err-Short-clause-read : goal.returns-in-Err-Short-clause-read
returns-in-Err-Short-clause-read g c =
    let r : SymmetricState = c.args.state.now in
    let v : Reader = reader_of g.K.Keys.pairs c.args.means.now in
    let m : List ℕ = c.args.message.now in
    let n : ℕ = c.in-Ok.from in
    let start = c.in-Ok.ensures.read 0 (omega arith) c.requires.placed in
    let none : 0 + n ≡ n = omega arith in
    let i1 : BeginsAs v c.args.known.now c.args.psks.now r (tokens_of c.args.placed.now) start.0 m (drop n m) =
    subst (λ (k : ℕ). BeginsAs v c.args.known.now c.args.psks.now r (tokens_of c.args.placed.now) start.0 m (drop k m)) none start.1 in
    let after : SymmetricState = after_tokens c.args.means.now.has_psks r (tokens_of c.args.placed.now) start.0 in
    let most = after_tokens-most c.args.means.now.has_psks r c.read_tokens.new.state (tokens_of c.args.placed.now) start.0
    (fit-carry (reader_of g.K.Keys.pairs c.args.means.now) c.args.known.now c.args.psks.now (tokens_of c.args.placed.now) start.0 start.1.fit) start.2 in
    let nonces : nonce_now c.read_tokens.new.state < 2 ^ 64 - 1 = omega (arith, most, c.requires.nonces) in
    let fits : length (take (length m - n) (drop n m)) ≤ 65535 = omega (arith, length-drop n m, length-take (length m - n) (drop n m)) in
    let goes : take (length m - n) (drop n m) ≡ drop n m = take_all (length m - n) (drop n m) (omega (arith, length-drop n m)) in
    let ts : List Token = tokens_of c.args.placed.now in
    subst (λ (k : ℕ). StopsKnowing v c.args.known.now c.args.psks.now r ts m k c.end_cause.result c.read_tokens.new.known)
    (length-tokens_of c.args.placed.now)
    (knows-last v c.args.known.now c.read_tokens.new.known c.args.psks.now r ts m start.0 (drop n m) c.end_cause.result i1
    (λ payload e. decrypts-not c.read_tokens.new.state c.decrypt_and_hash.new.self (take (length m - n) (drop n m)) c.decrypt_and_hash.new.buf
    c.in-Err-Short.field-0 c.in-Err-Short.ensures (λ _. nonces) fits payload (goes ∙ e ∙ sym (ap (λ (z : SymmetricState). ciphertext z payload) start.2)))
    (c.end_cause.ensures ∙ ap (λ (k : ℕ). if nat_lt k 16 then Short else Tag) (sym (length-drop n m))) start.3)

pub returns-in-Err-clause-read : goal.returns-in-Err-clause-read
returns-in-Err-clause-read g c = c.in-Err.ensures.read 0 (omega arith) c.requires.placed
