-- What is added to an array or an object without fractions leaves it without.
use Rattle.std.proofs.Common.{◌≡◌, List, [], ◌∷◌, ◌++◌, ℕ, Bool, true, false, ◌||◌, map, refl, Ordering, Less, Equal, Greater, nat_cmp}
use Rattle.std.specs.Cmp.Lexicographic.{slice_cmp}
use Rattle.std.specs.Ordering.{match_ordering}
use Rattle.serde_json.specs.Data.{Data, Members, no_members, member, put}
use Rattle.serde_json.specs.View.{items_of}
use Rattle.serde_json.specs.Written.{has_float, items_have_float, members_have_float}

both_false : (a b : Bool) → a ≡ false → b ≡ false → (a || b) ≡ false
both_false a b e f = rw (e, f) refl

first_false : (a b : Bool) → (a || b) ≡ false → a ≡ false
first_false true b h = h
first_false false b h = refl

second_false : (a b : Bool) → (a || b) ≡ false → b ≡ false
second_false true b h = absurd cc
second_false false b h = h

pub items_whole : (items : List Data) (d : Data) → items_have_float (items_of items) ≡ false → has_float d ≡ false
    → items_have_float (items_of (items ++ d ∷ [])) ≡ false
items_whole [] d rest here = both_false _ _ here refl
items_whole (first ∷ items) d rest here =
    both_false _ _ (first_false _ _ rest) (items_whole items d (second_false (has_float first) _ rest) here)

put_at : (o : Ordering) (k l : List ℕ) (d e : Data) (ms : Members) → has_float d ≡ false → has_float e ≡ false → members_have_float ms ≡ false
    → members_have_float (put k d ms) ≡ false
    → members_have_float (match_ordering o (member k d (member l e ms)) (member l d ms) (member l e (put k d ms))) ≡ false
put_at Less k l d e ms here there rest later = both_false _ _ here (both_false _ _ there rest)
put_at Equal k l d e ms here there rest later = both_false _ _ here rest
put_at Greater k l d e ms here there rest later = both_false _ _ there later

pub members_whole : (k : List ℕ) (d : Data) (ms : Members) → has_float d ≡ false → members_have_float ms ≡ false
    → members_have_float (put k d ms) ≡ false
members_whole k d no_members here rest = both_false _ _ here refl
members_whole k d (member l e ms) here rest =
    let there = first_false (has_float e) (members_have_float ms) rest in
    let others = second_false (has_float e) (members_have_float ms) rest in
    put_at (slice_cmp nat_cmp k l) k l d e ms here there others (members_whole k d ms here others)
