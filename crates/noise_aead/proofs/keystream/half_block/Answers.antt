use Rattle.std.proofs.Common.{arith, length, ap, sym, ◌∙◌, take, length-take-le}
use Rattle.std.proofs.lemmas.List.FromFn.{take-map-range_with_len}
use Rattle.noise_aead.proofs.Common.{byte_from}
use Rattle.noise_aead.specs.Sealing.{bytes_from}
use Rattle.noise_aead.proofs.Blocks.{length_bytes_from}
use Rattle.noise_aead.proofs.keystream.half_block.Goals as goal

pub slice_bounds-copy_from_slice-end-2 : goal.slice_bounds-copy_from_slice-end-2
slice_bounds-copy_from_slice-end-2 c =
    sym (length-take-le 32 c.block-block.result (omega (arith, ap length c.block-block.ensures.bytes, length_bytes_from c.args.words.now 64)))

pub copy_from_slice-requires : goal.copy_from_slice-requires
copy_from_slice-requires c =
    sym (length-take-le 32 c.block-block.result (omega (arith, ap length c.block-block.ensures.bytes, length_bytes_from c.args.words.now 64)))

pub returns-clause-bytes : goal.returns-clause-bytes
unfolding bytes_from
returns-clause-bytes c =
    c.copy_from_slice.ensures.after ∙ ap (take 32) c.block-block.ensures.bytes
    ∙ take-map-range_with_len (byte_from c.args.words.now) 0 64 32 (omega arith)
