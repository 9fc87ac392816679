use Rattle.std.proofs.Common.{◌≡◌, ◌≤◌, List, length, false, true, map}
use Rattle.noise_names.proofs.Common.{list_any, list_all, Token, Initiator, is_psk, own_tokens, has_few_tokens, message_lines}
use Rattle.noise_names.proofs.Reading.{AreLeft}
use Rattle.noise_names.proofs.text.read.read_messages.Given as goal

abbrev pub invariant-loop-tokens : goal.invariant-loop-tokens
invariant-loop-tokens l = record {
  plain : list_any (λ tokens. list_any is_psk tokens) l.messages.items ≡ false;
  sizes : list_all has_few_tokens l.messages.items ≡ true;
  few : length l.messages.items ≤ 8;
  every : (ms : List (List Token)) → length ms ≤ 8 → list_all has_few_tokens ms ≡ true → l.lines ≡ message_lines Initiator ms
      → AreLeft l.messages.items l.role l.left (map own_tokens ms);
}

abbrev pub decreases-loop-tokens : goal.decreases-loop-tokens
decreases-loop-tokens l = length l.left
