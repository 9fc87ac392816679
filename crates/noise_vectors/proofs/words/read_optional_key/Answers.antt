use Rattle.std.proofs.Common.{rules, arith, ◌≡◌, ◌∙◌, ap, sym, refl, ℕ, List, Option, Some, None, codes, length}
use Rattle.noise_vectors.proofs.Common.{IfSome, key_word, IsKey}
use Rattle.noise_vectors.proofs.KeyLemmas.{length-key}
use Rattle.noise_vectors.proofs.words.read_optional_key.Goals as goal

-- a hyphen is the word of no key
hyphen : (word : List ℕ) → word ≡ codes "-" → (key : Option (List ℕ)) → IfSome key IsKey → word ≡ key_word key → key ≡ None
hyphen word e None h is = refl
hyphen word e (Some key) h is =
    let long = length-key key h.0 in
    let same = ap length (sym e ∙ is) in
    absurd (omega (arith, long, same))

pub returns-then-eq-clause-every : goal.returns-then-eq-clause-every
returns-then-eq-clause-every c = search (rules, codes, hyphen)
