use Rattle.std.proofs.Common.{◌+◌, ◌-◌, ◌*◌, ℕ, List, arith}
use Rattle.noise_aead.proofs.Common.{ChaCha, byte_from}
use Rattle.noise_aead.proofs.Blocks.{byte_from-later, block-later}
use Rattle.noise_aead.proofs.Masking.{all_done, xored_more}
use Rattle.noise_aead.proofs.keystream.apply_blocks.Goals as goal

pub loop-i-preserved : goal.loop-i-preserved
loop-i-preserved c =
    let g : ChaCha = c.args.words.now in
    let i : ℕ = c.loop-i.i in
    record {
      place = block-later g c.loop-i.words c.apply_block.new.words i c.loop-i.invariant.place c.apply_block.ensures.words;
      text = xored_more (byte_from g) (byte_from c.loop-i.words) c.args.text.now c.loop-i.text c.apply_block.new.text
          (64 * i) (64 * i + 64 - 64 * i) (64 * (i + 1)) (omega arith) (omega arith)
          (λ k. byte_from-later g c.loop-i.words i k c.loop-i.invariant.place) c.loop-i.invariant.text c.apply_block.ensures.text;
    }

pub returns-clause-text : goal.returns-clause-text
returns-clause-text c =
    let g : ChaCha = c.args.words.now in
    let text : List ℕ = c.args.text.now in
    all_done (byte_from g) text c.loop-i.text (64 * c.loop-i.i) (omega arith) c.loop-i.invariant.text
