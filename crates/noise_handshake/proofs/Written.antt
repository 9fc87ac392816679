-- What stands in a buffer after writes to parts of it.
use Rattle.std.proofs.Common.{rules, ◌≡◌, ℕ, ◌+◌, ◌-◌, ◌≤◌, List, ◌++◌, length, take, drop, ap, sym, ◌∙◌, arith, drop-drop, take_all, length-take, length-drop}
use Rattle.noise_handshake.proofs.Common.{take-append-le, drop_all, drop-append_seam, take-append-add, drop-append-add}

-- the rest is as it was, where a text of len bytes was put there first, and then written over with a tag after it
pub rest-unchanged : (old put new : List ℕ) (len tag width n : ℕ) → width ≡ len + tag → n ≡ width → length new ≡ width → drop len put ≡ drop len old
    → drop n (new ++ drop width put) ≡ drop n old
rest-unchanged old put new len tag width n e f l same =
    let after : drop width put ≡ drop width old =
    ap (λ (k : ℕ). drop k put) e ∙ sym (drop-drop tag len put) ∙ ap (drop tag) same ∙ drop-drop tag len old ∙ ap (λ (k : ℕ). drop k old) (sym e) in
    ap (λ (k : ℕ). drop k (new ++ drop width put)) (f ∙ sym l) ∙ drop-append_seam new (drop width put) ∙ after ∙ ap (λ (k : ℕ). drop k old) (sym f)

-- n bytes were written at the front, and then the rest was written over, of which the first k bytes
module _ (first second : List ℕ) (n k : ℕ) (fits : n ≤ length first) (long : k ≤ length second) where
  count : length (take n first) ≡ n
  count = omega (arith, length-take n first)

  pub joined : (post : List ℕ) → take (n + k) (take n first ++ (second ++ post)) ≡ take n first ++ take k second
  joined post = search (rules, take-append-add, take-append-le)

  pub rest-after : (old : List ℕ) → drop n first ≡ drop n old → drop k second ≡ drop k (take (length first - n) (drop n first))
      → drop (n + k) (take n first ++ (second ++ drop (length first - n) (drop n first))) ≡ drop (n + k) old
  rest-after old same unchanged = search (rules, take_all, length-drop, drop_all, drop-append-add, drop-drop)
