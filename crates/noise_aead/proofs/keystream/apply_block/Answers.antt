use Rattle.noise_aead.proofs.Blocks.{xored_words}
use Rattle.noise_aead.proofs.keystream.apply_block.Goals as goal

pub returns-clause-text : goal.returns-clause-text
returns-clause-text c =
    xored_words c.args.words.now c.args.text.now c.block-stream.result c.xor_block.new.text c.requires.whole c.block-stream.ensures.bytes c.xor_block.ensures.text
