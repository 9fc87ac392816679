use Rattle.std.proofs.Common.{◌≡◌, ◌+◌, ◌*◌, ◌%◌, ◌^◌, List, ℕ, take, drop, ap, sym, ◌∙◌, arith, length-drop, length-take-le}
use Rattle.noise_aead.proofs.Common.{ChaCha, key_of, number}
use Rattle.byteorder.specs.Numbers.{little_from-take}
use Rattle.noise_aead.proofs.Numbers.{little_from-whole}
use Rattle.noise_aead.proofs.keystream.generator.Goals as goal

by_parts : (key key' : List ℕ) (stream stream' place place' : ℕ) → key ≡ key' → stream ≡ stream' → place ≡ place'
    → (let g : ChaCha = record { key = key; stream = stream; word_pos = place } in
    let g' : ChaCha = record { key = key'; stream = stream'; word_pos = place' } in g ≡ g')
by_parts key key' stream stream' place place' e f h = cc

pub returns-clause-place : goal.returns-clause-place
returns-clause-place c b at =
    let nonce : List ℕ = c.args.nonce.now in
    let front : c.read_u32.result ≡ number (take 4 nonce) =
    c.read_u32.ensures ∙ sym (little_from-take 0 4 4 nonce (omega arith)) ∙ little_from-whole 4 (take 4 nonce) (length-take-le 4 nonce (omega arith)) in
    let back : c.read_u64.result ≡ number (drop 4 nonce) =
    c.read_u64.ensures ∙ little_from-take 0 8 8 (drop 4 nonce) (omega arith) ∙ little_from-whole 8 (drop 4 nonce) (omega (arith, length-drop 4 nonce)) in
    let place : (c.from-front.result * 2 ^ 36 % 2 ^ 128 + c.from.result) % 2 ^ 68 ≡ 16 * (number (take 4 nonce) * 2 ^ 32 + b) = omega arith in
    let same_key : c.set_stream.new.self.key ≡ key_of c.args.key.now =
    ap (λ (g : ChaCha). g.key) c.set_stream.ensures ∙ ap (λ (g : ChaCha). g.key) c.from_seed-words.ensures in
    let same_stream : c.set_stream.new.self.stream ≡ number (drop 4 nonce) = ap (λ (g : ChaCha). g.stream) c.set_stream.ensures ∙ back in
    c.set_word_pos.ensures ∙ by_parts _ _ _ _ _ _ same_key same_stream place
