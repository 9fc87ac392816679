use Rattle.std.proofs.Common.{refl}
use Rattle.noise_c.specs.MessageLayouts.{layout_of}
use Rattle.noise_c.proofs.message_layout.layout_of.Goals as goal

pub returns : goal.returns
unfolding layout_of
returns c = record {
  value = rw (
    c.piece_at.ensures.value,
    c.piece_at-2.ensures.value,
    c.piece_at-3.ensures.value,
    c.piece_at-4.ensures.value,
    c.piece_at-5.ensures.value,
    c.piece_at-6.ensures.value,
    c.piece_at-7.ensures.value,
    c.piece_at-8.ensures.value,
    c.piece_at-9.ensures.value,
    c.piece_at-10.ensures.value,
    c.piece_at-11.ensures.value,
    c.tokens_of.ensures.value,
    c.from.ensures,
    c.overhead.ensures.value,
  ) refl;
}
