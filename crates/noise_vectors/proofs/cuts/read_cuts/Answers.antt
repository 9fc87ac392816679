use Rattle.std.proofs.Common.{rules, ◌≡◌, ◌∙◌, ap, subst, sym, codes, []}
use Rattle.noise_vectors.proofs.Common.{bytes_eq-Decides, AreLengths, lengths_word}
use Rattle.noise_vectors.proofs.CutLemmas.{cuts-made, cuts-right, cuts-word, hyphen-cuts, no-cuts, other-cuts}
use Rattle.noise_vectors.proofs.cuts.read_cuts.Goals as goal

pub returns-then-eq-clause-every : goal.returns-then-eq-clause-every
returns-then-eq-clause-every c =
    let is : c.args.word.now ≡ codes "-" = search rules in
    λ cuts h e. cuts-made c.new.result [] cuts c.new.ensures (sym (hyphen-cuts c.args.word.now cuts h.0 is e)) h

pub returns-in_err-lengths-clause-every : goal.returns-in_err-lengths-clause-every
returns-in_err-lengths-clause-every c =
    let hyphen : c.as_slice.result.now ≡ codes "-" = c.as_slice.ensures in
    let other : ¬ (c.args.word.now ≡ codes "-") =
    λ e. let yes = (bytes_eq-Decides c.args.word.now c.as_slice.result.now).1 (e ∙ sym hyphen) in cc (c.eq.ensures, yes) in
    λ cuts h e. absurd (no-cuts c.args.word.now cuts other c.in_err-lengths.ensures.every h.0 e)

pub returns-clause-value : goal.returns-clause-value
returns-clause-value c =
    cuts-word c.new-2.result c.args.word.now c.deref.result.now c.new-2.ensures
    (c.in_ok-lengths.ensures.value.1 ∙ ap lengths_word (sym c.deref.ensures.0))

pub returns-clause-every : goal.returns-clause-every
returns-clause-every c =
    let hyphen : c.as_slice.result.now ≡ codes "-" = c.as_slice.ensures in
    let other : ¬ (c.args.word.now ≡ codes "-") =
    λ e. let yes = (bytes_eq-Decides c.args.word.now c.as_slice.result.now).1 (e ∙ sym hyphen) in cc (c.eq.ensures, yes) in
    λ cuts h e.
    let same = other-cuts c.args.word.now c.in_ok-lengths.lengths.items cuts other c.in_ok-lengths.ensures.every h.0 e in
    cuts-made c.new-2.result c.deref.result.now cuts c.new-2.ensures (c.deref.ensures.0 ∙ same) h

pub returns-clause-right : goal.returns-clause-right
returns-clause-right c =
    cuts-right c.new-2.result c.deref.result.now c.new-2.ensures (subst AreLengths (sym c.deref.ensures.0) c.in_ok-lengths.ensures.right)
