-- Bytes that come from a reader or go to a writer, one call after another.
use Rattle.std.proofs.Common.{rules, ◌≡◌, ℕ, ◌+◌, ◌-◌, ◌≤◌, List, [], ◌++◌, length, take, drop, Option, Some, None, refl, sym, ◌∙◌, ap, append_assoc, append-nil}
use Rattle.std.proofs.lemmas.Slice.{take-put_mid_below}
use Rattle.std.proofs.Math.Seq.{take-add, take-append-le}
use Rattle.noise_session.proofs.Common.{take_rest, drop_at, Appends, Consumes, put_mid}

pub consumed : (a b c : Option (List ℕ)) (x y : List ℕ) → Consumes a b x → Consumes b c y → Consumes a c (x ++ y)
consumed None b c x y p q = tt
consumed (Some xs) None c x y p q = absurd p
consumed (Some xs) (Some ys) None x y p q = absurd q
consumed (Some xs) (Some ys) (Some zs) x y p q = p ∙ ap (λ (l : List ℕ). x ++ l) q ∙ sym (append_assoc x y zs)

pub consumed_none : (a : Option (List ℕ)) → Consumes a a []
consumed_none None = tt
consumed_none (Some xs) = refl

pub appended : (a b c : Option (List ℕ)) (x y : List ℕ) → Appends a b x → Appends b c y → Appends a c (x ++ y)
appended None b c x y p q = tt
appended (Some xs) None c x y p q = absurd p
appended (Some xs) (Some ys) None x y p q = absurd q
appended (Some xs) (Some ys) (Some zs) x y p q = q ∙ ap (λ (l : List ℕ). l ++ y) p ∙ append_assoc xs x y

pub appended_none : (a : Option (List ℕ)) → Appends a a []
appended_none None = tt
appended_none (Some xs) = sym (append-nil xs)

-- the first bytes of a buffer, after one more read into a part of it
pub filled_part : (at room n : ℕ) (old read : List ℕ) → at ≤ length old → n ≤ length read
    → take at old ++ take n read ≡ take (at + n) (put_mid at room old read)
filled_part at room n old read within fits = search (rules, take-put_mid_below, drop_at, take-append-le, take-add)

-- into the whole rest of it
pub filled_more : (at n : ℕ) (old read : List ℕ) → at ≤ length old → n ≤ length read
    → take at old ++ take n read ≡ take (at + n) (put_mid at (length old - at) old read)
filled_more at n old read within fits = filled_part at (length old - at) n old read within fits

-- the first bytes of a text, after one more write of its rest
pub taken_more : (at n : ℕ) (bytes : List ℕ) → take at bytes ++ take n (take (length bytes - at) (drop at bytes)) ≡ take (at + n) bytes
taken_more at n bytes = search (take_rest, take-add)
