-- Parts of a buffer.
use Rattle.std.proofs.Common.{◌≡◌, ℕ, ◌+◌, ◌-◌, ◌≤◌, List, ◌++◌, length, take, drop, arith, rules, refl, ◌∙◌, ap, length-drop}
use Rattle.std.proofs.lemmas.List.{append-nil}
use Rattle.noise_session.proofs.Common.{take-append-drop, places, same_lists, drop_at, drop-drop, take_rest, length-take-le, nil_from_length, put_mid, frame, reported_in, MatchesIn, Payload, slice_range}
use Rattle.noise_session.specs.declared.step.Step.{Step}
use Rattle.std.specs.Prelude.{Result, Ok, Err}

-- a part of what follows the first two bytes
slice_on : (d m post rest : List ℕ) (len from to : ℕ) → 2 ≤ length d → from ≤ to → to ≤ length m → length m + 2 ≤ len
    → slice_range (take len (take 2 d ++ (m ++ post) ++ rest)) (from + 2) (to + 2) ≡ slice_range m from to
slice_on d m post rest len from to two order within long = search (rules, same_lists, places)

slice-drop : (xs : List ℕ) (from to : ℕ) → slice_range (drop 2 xs) from to ≡ slice_range xs (from + 2) (to + 2)
slice-drop xs from to =
    let count : to - from ≡ to + 2 - (from + 2) = omega arith in
    let place : 2 + from ≡ from + 2 = omega arith in
    ap (take (to - from)) (drop-drop from 2 xs ∙ ap (λ (k : ℕ). drop k xs) place) ∙ ap (λ (k : ℕ). take k (drop (from + 2) xs)) count

slice_after : (d m post rest : List ℕ) (len from to : ℕ) → 2 ≤ length d → from ≤ to → to ≤ length m → length m + 2 ≤ len
    → slice_range (drop 2 (take len (take 2 d ++ (m ++ post) ++ rest))) from to ≡ slice_range m from to
slice_after d m post rest len from to two order within long = search (slice-drop, slice_on)

-- a step by the places of its payload there
pub reported-after : (d m post rest : List ℕ) (len : ℕ) (o : Result (ℕ × ℕ) Step) → 2 ≤ length d → MatchesIn m o → length m + 2 ≤ len
    → reported_in (drop 2 (take len (take 2 d ++ (m ++ post) ++ rest))) o ≡ reported_in m o
reported-after d m post rest len (Ok p) two place long = ap Payload (slice_after d m post rest len p.0 p.1 two place.0 place.1 long)
reported-after d m post rest len (Err step) two place long = refl

-- what follows the first k of the first n
pub drop-front : (xs : List ℕ) (k n : ℕ) → take (n - k) (drop k xs) ≡ drop k (take n xs)
drop-front xs k n = same_lists _ _ (search (rules, places)) (λ j e h. grind (arith, places))

-- a buffer whose end was written with what it was
pub unwritten : (out written : List ℕ) (from : ℕ) → written ≡ take (length out - from) (drop from out) → put_mid from (length out - from) out written ≡ out
unwritten out written from same = search (rules, take-append-drop)

-- what follows the first bytes of a buffer, all of which was written
pub after-front : (at : ℕ) (out written : List ℕ) → at ≤ length out → drop at (put_mid at (length out - at) out written) ≡ written
after-front at out written within =
    let post = drop (length out - at) (drop at out) in
    let none : length post ≡ 0 = omega (arith, length-drop (length out - at) (drop at out), length-drop at out) in
    drop_at (take at out) (written ++ post) at (length-take-le at out within)
    ∙ (ap (λ (p : List ℕ). written ++ p) (nil_from_length post none) ∙ append-nil written)

-- A message of n bytes was written after the first of a buffer, and these were written too.
module _ (at n k : ℕ) (out written new : List ℕ) (within : at ≤ length out) (whole : k ≡ at + n) where
  pub rest-after : drop at new ≡ drop at (put_mid at (length out - at) out written)
      → drop n written ≡ drop n (take (length out - at) (drop at out)) → drop k new ≡ drop k out
  rest-after is rest = search (rules, drop-drop, after-front, take_rest)

-- as a frame
pub framed : (n k : ℕ) (out written new : List ℕ) → 2 ≤ length out
    → take k new ≡ frame (take n (drop 2 (put_mid 2 (length out - 2) out written))) → take k new ≡ frame (take n written)
framed n k out written new two is = is ∙ ap (λ (xs : List ℕ). frame (take n xs)) (after-front 2 out written two)

-- what is left after the first bytes of a buffer holds a message
pub room-after : (at : ℕ) (out : List ℕ) (m from : ℕ) → at + m ≤ length out → from ≤ at → m ≤ length (take (length out - from) (drop from out))
room-after at out m from room low = search (rules, length-drop)
