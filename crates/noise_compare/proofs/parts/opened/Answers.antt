use Rattle.std.proofs.Common.{◌≡◌, ◌∙◌, ◌++◌, ◌-◌, ◌≤◌, ℕ, List, IfOk, IfSome, IfNone, ap, arith, drop, length, length-drop, subst, take, take_all}
use Rattle.std.proofs.lemmas.List.{take-append-drop}
use Rattle.noise_aead.specs.Sealing.{nonce_of, sealed}
use Rattle.noise_compare.proofs.parts.opened.Goals as goal

-- bytes are their front and what is copied from behind it
front_and_tag : (xs tag : List ℕ) (n : ℕ) → n ≤ length xs → tag ≡ take (length xs - n) (drop n xs) → take n xs ++ tag ≡ xs
front_and_tag xs tag n h e =
    ap (λ (ys : List ℕ). take n xs ++ ys) (e ∙ take_all (length xs - n) (drop n xs) (omega (arith, length-drop n xs))) ∙ take-append-drop n xs

pub returns-then-len-lt16-clause-none : goal.returns-then-len-lt16-clause-none
returns-then-len-lt16-clause-none c = λ text e.
    let whole = c.length_of_sealed.ensures c.args.key.now (nonce_of c.args.before.now.nonce) c.args.before.now.hash text in
    omega (arith, ap length e, whole)

pub returns-clause-opened : goal.returns-clause-opened
returns-clause-opened c =
    let bytes = c.args.bytes.now in
    let key = c.args.key.now in
    let ad = c.args.before.now.hash in
    let tag = c.copy_from_slice.new.self in
    let n : ℕ = length bytes - 16 in
    subst
    (λ (b : List ℕ). IfOk c.opened_by.result (λ found. IfSome found (λ text. b ≡ sealed key (nonce_of c.args.before.now.nonce) ad text.items)))
    (front_and_tag bytes tag n (omega arith) c.copy_from_slice.ensures.after)
    (subst
    (λ (number : List ℕ). IfOk c.opened_by.result (λ found. IfSome found (λ text. take n bytes ++ tag ≡ sealed key number ad text.items)))
    c.nonce.ensures c.opened_by.ensures.opened)

pub returns-clause-none : goal.returns-clause-none
returns-clause-none c =
    let bytes = c.args.bytes.now in
    let key = c.args.key.now in
    let ad = c.args.before.now.hash in
    let tag = c.copy_from_slice.new.self in
    let n : ℕ = length bytes - 16 in
    subst
    (λ (b : List ℕ). IfOk c.opened_by.result
    (λ found. IfNone found ((text : List ℕ) → b ≡ sealed key (nonce_of c.args.before.now.nonce) ad text → ⊥)))
    (front_and_tag bytes tag n (omega arith) c.copy_from_slice.ensures.after)
    (subst
    (λ (number : List ℕ). IfOk c.opened_by.result
    (λ found. IfNone found ((text : List ℕ) → take n bytes ++ tag ≡ sealed key number ad text → ⊥)))
    c.nonce.ensures c.opened_by.ensures.none)
