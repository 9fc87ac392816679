use Rattle.std.proofs.Common.{◌≡◌, ◌++◌, ℕ, List, append_assoc}
use Rattle.noise_compare.specs.Shown.{shown_text}
use Rattle.noise_compare.proofs.shown.push_shown.Goals as goal

joined : (a b c d e f g u v w x y z : List ℕ) → b ≡ a ++ u → c ≡ b ++ v → d ≡ c ++ w → e ≡ d ++ x → f ≡ e ++ y
    → g ≡ f ++ z → g ≡ a ++ (u ++ (v ++ (w ++ (x ++ (y ++ z)))))
joined a b c d e f g u v w x y z first second third fourth fifth sixth =
    rw (sixth, fifth, fourth, third, second, first) (simp append_assoc)

pub returns : goal.returns
unfolding shown_text
returns c = joined _ _ _ _ _ _ _ _ _ _ _ _ _ c.in_ok-push_line.ensures c.in_ok-push_value_line.ensures
    c.in_ok-push_value_line-2.ensures c.in_ok-push_value_line-3.ensures c.in_ok-push_value_line-4.ensures
    c.in_ok-push_nonce_line.ensures
