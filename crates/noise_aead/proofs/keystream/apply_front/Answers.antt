use Rattle.std.proofs.Common.{ℕ, List, get_or, ap, ◌∙◌, arith}
use Rattle.noise_aead.proofs.Common.{bit_xor, ChaCha, byte_from}
use Rattle.noise_aead.proofs.Blocks.{get_or-bytes_from}
use Rattle.noise_aead.proofs.Masking.{is_xored}
use Rattle.noise_aead.proofs.keystream.apply_front.Goals as goal

pub returns : goal.returns
returns c = record {
  text =
      let g : ChaCha = c.args.words.now in
      let text : List ℕ = c.args.text.now in
      is_xored (byte_from g) text c.loop-j.text c.loop-j.auto.text
      (λ k h. c.loop-j.invariant.before k (omega arith)
      ∙ ap (λ (b : ℕ). bit_xor (get_or text k 0) b)
      (ap (λ (bytes : List ℕ). get_or bytes k 0) c.block-stream.ensures.bytes ∙ get_or-bytes_from g 64 k (omega arith)));
}
