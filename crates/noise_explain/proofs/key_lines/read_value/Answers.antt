use Rattle.std.proofs.Common.{rules, ◌≡◌, ◌∙◌, ap, sym, true, false}
use Rattle.std.specs.Prelude.{IsSome}
use Rattle.noise_vectors.specs.HexWord.{hex_of}
use Rattle.noise_explain.specs.Values.{fits}
use Rattle.noise_explain.proofs.KeyLineLemmas.{its-value, no-other}
use Rattle.noise_explain.proofs.key_lines.read_value.Goals as goal

pub returns-then-fits : goal.returns-then-fits
returns-then-fits c =
    let word : c.args.word.now ≡ hex_of c.in-Some.value.items = rw c.in-Some.is at c.in_ok-value.ensures.value in
    let some : IsSome c.in_ok-value.field-0 = search rules in
    let fitting : fits c.args.place c.in-Some.value.items ≡ true = ap (fits c.args.place) (sym c.deref.ensures.value) ∙ sym c.fits.ensures ∙ c.if-fits.true in
    (word, its-value c.args.place c.args.word.now c.in-Some.value.items word (c.in_ok-value.ensures.found.0 some) fitting)

pub returns : goal.returns
returns c =
    let word : c.args.word.now ≡ hex_of c.in-Some.value.items = rw c.in-Some.is at c.in_ok-value.ensures.value in
    let some : IsSome c.in_ok-value.field-0 = search rules in
    let unfit : fits c.args.place c.in-Some.value.items ≡ false = ap (fits c.args.place) (sym c.deref.ensures.value) ∙ sym c.fits.ensures ∙ c.if-fits.false in
    no-other c.args.place c.args.word.now c.in-Some.value.items word (c.in_ok-value.ensures.found.0 some) unfit
