use Rattle.std.proofs.Common.{◌∙◌, ap, ap₂, lit<, List, ℕ, ◌∷◌, ◌++◌, Some, None}
use Rattle.noise_vectors.proofs.Common.{Decides-eqb, strip_prefix_is, key_word, key_words}
use Rattle.noise_vectors.proofs.LackLemmas.{lacks-key_word}
use Rattle.noise_vectors.proofs.PartyLemmas.{after-front}
use Rattle.noise_vectors.proofs.parties.keys_of.Goals as goal

pub returns-in_err-strip_prefix-clause-every : goal.returns-in_err-strip_prefix-clause-every
returns-in_err-strip_prefix-clause-every c =
    λ e s he hs is. absurd ((strip_prefix_is {A = ℕ} Decides-eqb c.args.words.now c.args.front.now None c.in_err-strip_prefix.ensures.cases) (key_words e s) is)

pub returns-in_err-e-clause-every : goal.returns-in_err-e-clause-every
returns-in_err-e-clause-every c =
    let split = strip_prefix_is Decides-eqb c.args.words.now c.args.front.now (Some c.in_ok-strip_prefix.field-0) c.in_ok-strip_prefix.ensures.cases in
    λ e s he hs is.
    absurd (c.in_err-e.ensures.every (key_word e) (key_word s) (lacks-key_word 32 e (lit< tt) he) (after-front _ _ _ split is) tt)

pub returns-in_err-read_optional_key-clause-every : goal.returns-in_err-read_optional_key-clause-every
returns-in_err-read_optional_key-clause-every c =
    let split = strip_prefix_is Decides-eqb c.args.words.now c.args.front.now (Some c.in_ok-strip_prefix.field-0) c.in_ok-strip_prefix.ensures.cases in
    λ e s he hs is.
    let keys = after-front _ _ _ split is in
    let words = c.in_ok-e.ensures.every (key_word e) (key_word s) (lacks-key_word 32 e (lit< tt) he) keys in
    cc (c.in_err-read_optional_key.ensures.every e he words.0)

pub returns-in_err-read_optional_key-2-clause-every : goal.returns-in_err-read_optional_key-2-clause-every
returns-in_err-read_optional_key-2-clause-every c =
    let split = strip_prefix_is Decides-eqb c.args.words.now c.args.front.now (Some c.in_ok-strip_prefix.field-0) c.in_ok-strip_prefix.ensures.cases in
    λ e s he hs is.
    let keys = after-front _ _ _ split is in
    let words = c.in_ok-e.ensures.every (key_word e) (key_word s) (lacks-key_word 32 e (lit< tt) he) keys in
    cc (c.in_err-read_optional_key-2.ensures.every s hs words.1)

pub returns-clause-text : goal.returns-clause-text
returns-clause-text c =
    let split = strip_prefix_is Decides-eqb c.args.words.now c.args.front.now (Some c.in_ok-strip_prefix.field-0) c.in_ok-strip_prefix.ensures.cases in
    split ∙ ap (λ (rest : List ℕ). c.args.front.now ++ rest)
    (c.in_ok-e.ensures.parts ∙ ap₂ (λ (x y : List ℕ). x ++ 32 ∷ y) c.in_ok-read_optional_key.ensures.value c.in_ok-read_optional_key-2.ensures.value)
