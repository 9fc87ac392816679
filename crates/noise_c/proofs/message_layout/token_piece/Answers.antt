use Rattle.std.proofs.Common.{◌∙◌}
use Rattle.noise_c.proofs.Layouts.{piece-token}
use Rattle.noise_c.proofs.message_layout.token_piece.Goals as goal

pub returns : goal.returns
returns c = record {
  value =
      c.piece.ensures.value
      ∙ piece-token c.args.pattern.now c.args.message c.args.payload_len c.args.place c.args.token c.token_to_c.result c.own_len.result c.encrypts.result
      c.token_to_c.ensures c.encrypts.ensures c.own_len.ensures.value;
}
