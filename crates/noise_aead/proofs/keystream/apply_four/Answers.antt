use Rattle.std.proofs.Common.{◌≡◌, ◌+◌, ◌*◌, ◌/◌, ◌%◌, ◌^◌, ℕ, List, refl, sym, ap, ◌∙◌, arith, length-take-le}
use Rattle.noise_aead.proofs.Common.{ChaCha, byte_from}
use Rattle.noise_aead.proofs.Blocks.{block-later, block_done}
use Rattle.noise_aead.proofs.Masking.{all_done}
use borrow.Rule.Slice.PartMut.{put_mid}
use Rattle.noise_aead.proofs.keystream.apply_four.Goals as goal

pub slice_bounds-xor_block-end-2 : goal.slice_bounds-xor_block-end-2
slice_bounds-xor_block-end-2 c = sym (length-take-le 64 c.args.text.now (omega arith))

pub xor_block-requires : goal.xor_block-requires
xor_block-requires c = record { whole = length-take-le 64 c.args.text.now (omega arith) }

pub returns-clause-text : goal.returns-clause-text
returns-clause-text c =
    let g : ChaCha = c.args.words.now in
    let text : List ℕ = c.args.text.now in
    let place : c.get_word_pos.result / 16 * 16 % 2 ^ 68 ≡ g.word_pos + 16 * 0 = omega arith in
    let at0 : c.set_word_pos.new.self ≡ record g { word_pos = g.word_pos + 16 * 0 } =
    c.set_word_pos.ensures ∙ ap (λ (p : ℕ). record g { word_pos = p }) place in
    let at1 = block-later g c.set_word_pos.new.self c.block-a.new.words 0 at0 c.block-a.ensures.words in
    let at2 = block-later g c.block-a.new.words c.block-b.new.words 1 at1 c.block-b.ensures.words in
    let at3 = block-later g c.block-b.new.words c.block-c.new.words 2 at2 c.block-c.ensures.words in
    let t1 : List ℕ = put_mid 0 64 text c.xor_block.new.text in
    let t2 : List ℕ = put_mid 64 64 t1 c.xor_block-2.new.text in
    let t3 : List ℕ = put_mid 128 64 t2 c.xor_block-3.new.text in
    let is1 = block_done g c.set_word_pos.new.self text text c.block-a.result c.xor_block.new.text 0 (omega arith) at0 c.block-a.ensures.bytes refl c.xor_block.ensures.text in
    let is2 = block_done g c.block-a.new.words text t1 c.block-b.result c.xor_block-2.new.text 1 (omega arith) at1 c.block-b.ensures.bytes is1 c.xor_block-2.ensures.text in
    let is3 = block_done g c.block-b.new.words text t2 c.block-c.result c.xor_block-3.new.text 2 (omega arith) at2 c.block-c.ensures.bytes is2 c.xor_block-3.ensures.text in
    let is4 = block_done g c.block-c.new.words text t3 c.block-d.result c.xor_block-4.new.text 3 (omega arith) at3 c.block-d.ensures.bytes is3 c.xor_block-4.ensures.text in
    all_done (byte_from g) text _ 256 (omega arith) is4
