use Rattle.std.proofs.Common.{◌≡◌, ◌≤◌, ◌++◌, ◌∷◌, ℕ, List, length, false}
use Rattle.noise_names.proofs.Common.{list_any, Token, is_psk, own_tokens, words}
use Rattle.noise_names.proofs.Reading.{IsLeft}
use Rattle.noise_names.proofs.text.read.read_words.Given as goal

abbrev pub invariant-loop-token : goal.invariant-loop-token
invariant-loop-token l = record {
  plain : list_any is_psk l.tokens.items ≡ false;
  shorter : length l.left ≤ length l.list;
  every : (t : Token) (ts : List Token) (more : List ℕ) → length (own_tokens (t ∷ ts)) ≤ 8 → l.list ≡ words (t ∷ ts) ++ 10 ∷ more
      → IsLeft l.tokens.items l.left (own_tokens (t ∷ ts)) more;
}

abbrev pub decreases-loop-token : goal.decreases-loop-token
decreases-loop-token l = length l.left
