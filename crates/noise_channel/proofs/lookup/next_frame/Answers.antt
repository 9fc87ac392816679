use Rattle.std.proofs.Common.{arith}
use Rattle.noise_channel.proofs.Opened.{wanting, lying}
use Rattle.noise_channel.proofs.lookup.next_frame.Goals as goal

pub returns-then-buffer-whole : goal.returns-then-buffer-whole
returns-then-buffer-whole c =
    wanting c.args.buffer.now c.frame_len-whole.result c.frame_len-whole.ensures.len c.frame_len-whole.ensures.range.1 c.if-buffer-whole.true

pub returns-else-buffer-whole : goal.returns-else-buffer-whole
returns-else-buffer-whole c =
    lying c.args.buffer.now c.frame_len-whole.result c.frame_len-whole.ensures.len c.frame_len-whole.ensures.range.0 c.frame_len-whole.ensures.range.1 c.if-buffer-whole.false
    (c.frame_len-whole.ensures.spelled (omega arith))
