use Rattle.std.proofs.Common.{arith, sym, ap, ◌∙◌, ◌++◌, append-nil, length, drop, List, ◌+◌}
use Rattle.noise_names.proofs.Common.{Role, Token, at_drop_all, message_lines, token_line}
use Rattle.noise_names.proofs.Writing.{lines-step}
use Rattle.noise_names.proofs.text.write.push_messages.Goals as goal

pub loop-message-preserved : goal.loop-message-preserved
loop-message-preserved c = (
  ap (λ (r : Role). c.push_token_line.new.out.items ++ message_lines r (drop (c.loop-message.message-index + 1) c.args.messages.now)) c.other-role.ensures
      ∙ lines-step _ _ _ c.loop-message.role c.args.messages.now c.loop-message.message-index c.message-item.result c.loop-message-test.true
      (c.push_token_line.ensures.written
      ∙ ap (λ (m : List Token). c.loop-message.out.items ++ token_line c.loop-message.role m) (c.tokens.ensures.value ∙ c.message-item.is))
      c.loop-message.invariant.0,
  omega (arith, ap length c.tokens.ensures.value, c.push_token_line.ensures.bound),
)

pub returns : goal.returns
returns c = record {
  written =
      sym (append-nil c.loop-message.out.items)
      ∙ ap (λ k. c.loop-message.out.items ++ k)
      (sym (at_drop_all (message_lines c.loop-message.role) c.args.messages.now c.loop-message.message-index c.loop-message-test.false))
      ∙ c.loop-message.invariant.0;
}
