use Rattle.std.proofs.Common.{◌≡◌, List, ℕ, [], replicate, refl, sym, ap, ◌∙◌}
use Rattle.noise_aead.proofs.Common.{take_at, ChaCha, generator_at, stream_byte, keystream_xor, seal_tag, nonce_of, length-masked}
use Rattle.noise_aead.specs.Sealing.{bytes_from, rekeyed}
use Rattle.noise_aead.proofs.Masking.{xored-zeros}
use Rattle.noise_aead.proofs.encryption.rekey.Goals as goal

pub returns : goal.returns
unfolding bytes_from rekeyed
returns c =
    let key : List ℕ = c.args.key.now in
    let nonce : List ℕ = nonce_of 0xffffffffffffffff in
    let front : List ℕ = keystream_xor key nonce (replicate 32 0) in
    let shown : front ≡ bytes_from (generator_at key nonce 1) 32 = xored-zeros (stream_byte key nonce 1) 0 32 in
    c.half_block.ensures.bytes
    ∙ ap (λ (g : ChaCha). bytes_from g 32)
    (c.generator_apart-words.ensures.place 1 refl ∙ ap (λ (n : List ℕ). generator_at key n 1) c.nonce.ensures)
    ∙ sym shown ∙ sym (take_at front (seal_tag key nonce [] front) 32 (length-masked key nonce (replicate 32 0)))
