-- What is read of a file.
use Rattle.std.proofs.Common.{arith, ◌≡◌, ◌<◌, ◌∙◌, ap, sym, ℕ, List, [], ◌++◌, Option, Some, None, length, take, append-nil}
use Rattle.noise_lines.proofs.Common.{IfSome, Consumes, IsAtEnd, Keeps, length-append}

pub unchanged-consumes : (a b c : Option (List ℕ)) (bs : List ℕ) → Keeps a b → Consumes b c bs → Consumes a c bs
unchanged-consumes None b c bs p q = tt
unchanged-consumes (Some x) None c bs p q = absurd p
unchanged-consumes (Some x) (Some y) None bs p q = absurd q
unchanged-consumes (Some x) (Some y) (Some z) bs p q = sym p ∙ q

-- where a read gives nothing and nothing is left, what was read before is all
pub all-read : (known left after : Option (List ℕ)) (text piece : List ℕ) (count : ℕ) → count ≡ 0 → Consumes known left text
    → Consumes left after (take count piece) → IsAtEnd after → IfSome known (λ bytes. text ≡ bytes)
all-read None left after text piece count none p q end = tt
all-read (Some x) None after text piece count none p q end = absurd p
all-read (Some x) (Some y) None text piece count none p q end = absurd q
all-read (Some x) (Some y) (Some z) text piece count none p q end =
    let empty : take count piece ≡ [] = ap (λ (n : ℕ). take n piece) none in
    let rest : y ≡ [] = q ∙ ap (λ (t : List ℕ). t ++ z) empty ∙ end in
    sym (p ∙ ap (λ (t : List ℕ). text ++ t) rest ∙ append-nil text)

-- bytes that were read are among those of the file
pub long-read : (known left : Option (List ℕ)) (text : List ℕ) (limit : ℕ) → Consumes known left text → limit < length text
    → IfSome known (λ bytes. limit < length bytes)
long-read None left text limit p long = tt
long-read (Some x) None text limit p long = absurd p
long-read (Some x) (Some y) text limit p long =
    let len : length x ≡ length (text ++ y) = ap length p in
    omega (arith, long, len, length-append text y)
