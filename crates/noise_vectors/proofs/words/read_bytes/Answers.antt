use Rattle.std.proofs.Common.{rules, arith, ◌≡◌, ◌≤◌, ◌/◌, ℕ, List, Option, Some, None, length, Vec, Global, vec_len}
use Rattle.noise_vectors.proofs.Common.{IfSome, IsSome, hex_of}
use Rattle.noise_vectors.proofs.HexWordLemmas.{bytes_of-word, length-hex_word, short-hex_word}
use Rattle.noise_vectors.proofs.words.read_bytes.Goals as goal

-- the bytes of a short word are few
few : (word : List ℕ) (most : ℕ) → length word / 2 ≤ most → (found : Option (Vec ℕ Global)) → IfSome found (λ bytes. word ≡ hex_of bytes.items)
    → IfSome found (λ bytes. vec_len bytes ≤ most)
few word most h None e = tt
few word most h (Some bytes) e = search (rules, length-hex_word)

pub returns-in-Some-clause-bound : goal.returns-in-Some-clause-bound
returns-in-Some-clause-bound c =
    few c.args.word.now c.args.most c.if-word-most.false (Some c.in-Some.bytes) (rw c.in-Some.is at c.in_ok-bytes.ensures.value)

pub returns-in-Some-clause-right : goal.returns-in-Some-clause-right
returns-in-Some-clause-right c =
    let word : c.args.word.now ≡ hex_of c.in-Some.bytes.items = rw c.in-Some.is at c.in_ok-bytes.ensures.value in
    let some : IsSome c.in_ok-bytes.field-0 = search rules in
    let short : vec_len c.in-Some.bytes ≤ c.args.most =
    few c.args.word.now c.args.most c.if-word-most.false (Some c.in-Some.bytes) word in
    (omega (arith, short, c.in-Some.bytes.ok.0), bytes_of-word c.args.word.now c.in-Some.bytes.items word (c.in_ok-bytes.ensures.found.0 some))

pub returns-then-word-most-clause-every : goal.returns-then-word-most-clause-every
returns-then-word-most-clause-every c = λ bytes h e. absurd (short-hex_word c.args.word.now bytes c.args.most h e c.if-word-most.true)
