use Rattle.std.proofs.Common.{rules}
use Rattle.noise_vectors.proofs.HexWordLemmas.{bytes_of-decoded, decoded_is, digits_of-decoded}
use Rattle.noise_vectors.proofs.KeyLemmas.{IsDigits-key, decoded-key, written-key}
use Rattle.noise_vectors.proofs.words.read_key.Goals as goal

pub returns-then-not-is_digits-clause-every : goal.returns-then-not-is_digits-clause-every
returns-then-not-is_digits-clause-every c = λ key h e.
    let yes = c.is_digits.ensures.1 (IsDigits-key key c.args.word.now h e) in
    cc (yes)

pub returns-in_err-ok-clause-every : goal.returns-in_err-ok-clause-every
returns-in_err-ok-clause-every c = search (rules, written-key, decoded-key)

pub returns-clause-value : goal.returns-clause-value
returns-clause-value c = search (rules, digits_of-decoded, decoded_is)

pub returns-clause-every : goal.returns-clause-every
returns-clause-every c = search (rules, written-key, decoded-key)

pub returns-clause-right : goal.returns-clause-right
returns-clause-right c = search (rules, bytes_of-decoded, decoded_is)
