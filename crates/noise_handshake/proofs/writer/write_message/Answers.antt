use Rattle.std.proofs.Common.{rules, ◌≡◌, ℕ, ◌+◌, ◌-◌, ◌≤◌, List, ◌++◌, length, take, drop, ap, ◌∙◌, arith, length-take, length-drop, subst}
use Rattle.noise_handshake.proofs.Common.{before_payload, ciphertext, after_ciphertext, SymmetricState, tokens_of, writer_of}
use Rattle.noise_handshake.proofs.Counting.{after_tokens-most}
use Rattle.noise_handshake.proofs.Written.{joined, rest-after}
use Rattle.noise_handshake.proofs.Widths.{given-carry, given-tag}
use Rattle.noise_handshake.proofs.writer.write_message.Goals as goal

pub write_part-requires-clause-nonces : goal.write_part-requires-clause-nonces
write_part-requires-clause-nonces g c =
    let q = c.in-Ok.ensures.written in
    let most = after_tokens-most c.args.means.now.has_psks c.args.state.now c.write_tokens.new.state (tokens_of c.args.placed.now) q.0
    (given-carry (writer_of g.K.Keys.pairs c.args.means.now) c.args.known.now c.args.psks.now (tokens_of c.args.placed.now) q.0 q.1) q.3 in
    omega (arith, most, c.requires.nonces)

pub write_part-requires-clause-room : goal.write_part-requires-clause-room
write_part-requires-clause-room g c =
    let q = c.in-Ok.ensures.written in
    let tag = given-tag (writer_of g.K.Keys.pairs c.args.means.now) c.args.known.now c.args.psks.now c.args.state.now c.write_tokens.new.state
    (tokens_of c.args.placed.now) q.0 q.1 q.3 in
    let n : ℕ = c.in-Ok.from in
    let first : List ℕ = c.write_tokens.new.out in
    omega (arith, tag, c.requires.room, c.in-Ok.ensures.width, length-take (length first - n) (drop n first), length-drop n first)

pub write_part-requires-clause-most : goal.write_part-requires-clause-most
write_part-requires-clause-most g c =
    let q = c.in-Ok.ensures.written in
    let tag = given-tag (writer_of g.K.Keys.pairs c.args.means.now) c.args.known.now c.args.psks.now c.args.state.now c.write_tokens.new.state
    (tokens_of c.args.placed.now) q.0 q.1 q.3 in
    omega (arith, tag, c.requires.most)

pub returns-clause-width : goal.returns-clause-width
returns-clause-width g c =
    let q = c.in-Ok.ensures.written in
    let tag = given-tag (writer_of g.K.Keys.pairs c.args.means.now) c.args.known.now c.args.psks.now c.args.state.now c.write_tokens.new.state
    (tokens_of c.args.placed.now) q.0 q.1 q.3 in
    omega (arith, tag, c.in-Ok.ensures.width, c.write_part.ensures.width)

pub returns-clause-beyond : goal.returns-clause-beyond
returns-clause-beyond g c =
    let q = c.in-Ok.ensures.written in
    let tag = given-tag (writer_of g.K.Keys.pairs c.args.means.now) c.args.known.now c.args.psks.now c.args.state.now c.write_tokens.new.state
    (tokens_of c.args.placed.now) q.0 q.1 q.3 in
    let n : ℕ = c.in-Ok.from in
    let first : List ℕ = c.write_tokens.new.out in
    let both : n + c.write_part.result ≤ length first = omega (arith, tag, c.requires.room, c.in-Ok.ensures.width, c.write_part.ensures.width) in
    search (rules, length-take, length-drop, rest-after)

pub returns-clause-written : goal.returns-clause-written
returns-clause-written g c =
    let r : SymmetricState = c.args.state.now in
    let n : ℕ = c.in-Ok.from in
    let k : ℕ = c.write_part.result in
    let first : List ℕ = c.write_tokens.new.out in
    let second : List ℕ = c.write_part.new.out in
    let q = c.in-Ok.ensures.written in
    let tag = given-tag (writer_of g.K.Keys.pairs c.args.means.now) c.args.known.now c.args.psks.now c.args.state.now c.write_tokens.new.state
    (tokens_of c.args.placed.now) q.0 q.1 q.3 in
    let both : n + k ≤ length c.args.out.now = omega (arith, tag, c.requires.room, c.in-Ok.ensures.width, c.write_part.ensures.width) in
    let fits : n ≤ length first = omega (arith, both) in
    let long : k ≤ length second = omega (arith, both, length-take (length first - n) (drop n first), length-drop n first) in
    let a = c.in-Ok.ensures.written in
    let b = subst (λ (z : SymmetricState). (take k second ≡ ciphertext z c.args.payload.now)
    × (c.write_part.new.state ≡ after_ciphertext z (ciphertext z c.args.payload.now))) a.3 c.write_part.ensures.written in (
      a.0,
      a.1,
      joined first second n k fits long (drop (length first - n) (drop n first))
          ∙ ap (λ (z : List ℕ). z ++ take k second) a.2 ∙ ap (λ (z : List ℕ). before_payload c.args.means.now.has_psks r (tokens_of c.args.placed.now) a.0 ++ z) b.0,
      b.1,
    )
