use Rattle.std.proofs.Common.{rules, arith, ◌≡◌, ◌∙◌, ◌<◌, ◌≤◌, ap, sym, subst, ℕ, List, ◌∷◌, ◌++◌, length, []}
use Rattle.noise_vectors.proofs.Common.{All, All-nil, All-push}
use Rattle.noise_vectors.proofs.CutLemmas.{are_small, before, before-more, lengths_word-last, First-step, Last-done, Left, Left-first, Left-last, Left-room, Left-start}
use Rattle.noise_vectors.proofs.cuts.read_lengths.Goals as goal

pub loop-first-init : goal.loop-first-init
loop-first-init c =
    let none : c.new-lengths.result.items ≡ [] = search rules in (
      ap (λ (ns : List ℕ). before ns ++ c.args.word.now) (sym none),
      subst (λ (ns : List ℕ). All (λ n. n < 65536) ns) (sym none) (All-nil are_small),
      λ n ns h e. subst (λ (done : List ℕ). Left (n ∷ ns) done c.args.word.now) (sym none) (Left-start n ns c.args.word.now h e),
    )

pub returns-in_err-read_length-clause-every : goal.returns-in_err-read_length-clause-every
returns-in_err-read_length-clause-every c = λ n ns h e.
    let f = Left-first (n ∷ ns) c.loop-first.lengths.items c.loop-first.rest.now c.in-Some.first.now c.in-Some.more.now
    (c.loop-first.invariant.2 n ns h e) c.in-Some.ensures.parts c.in-Some.ensures.every in
    let none = c.in_err-read_length.ensures.every f.next f.small f.first_is in
    absurd (cc (none))

pub returns-in_err-ok-clause-every : goal.returns-in_err-ok-clause-every
returns-in_err-ok-clause-every c =
    let full : length c.loop-first.lengths.items ≡ 8 = search rules in
    λ n ns h e.
    let room = Left-room (n ∷ ns) c.loop-first.lengths.items c.loop-first.rest.now (c.loop-first.invariant.2 n ns h e) h in
    absurd (omega (arith, room))

pub loop-first-preserved : goal.loop-first-preserved
loop-first-preserved c =
    let pushed : c.try_push.new.self.items ≡ c.loop-first.lengths.items ++ c.in_ok-read_length.field-0 ∷ [] = search rules in
    let small : c.in_ok-read_length.field-0 < 65536 = search rules in (
      before-more c.args.word.now c.loop-first.rest.now c.in-Some.first.now c.in-Some.more.now c.loop-first.lengths.items c.in_ok-read_length.field-0
          c.loop-first.invariant.0 c.in-Some.ensures.parts c.in_ok-read_length.ensures.value
          ∙ ap (λ (ns : List ℕ). before ns ++ c.in-Some.more.now) (sym pushed),
      subst (λ (ns : List ℕ). All (λ n. n < 65536) ns) (sym pushed)
          (All-push are_small c.loop-first.lengths.items c.in_ok-read_length.field-0 c.loop-first.invariant.1 small),
      λ n ns h e.
          let f = Left-first (n ∷ ns) c.loop-first.lengths.items c.loop-first.rest.now c.in-Some.first.now c.in-Some.more.now
          (c.loop-first.invariant.2 n ns h e) c.in-Some.ensures.parts c.in-Some.ensures.every in
          subst (λ (done : List ℕ). Left (n ∷ ns) done c.in-Some.more.now) (sym pushed)
          (First-step (n ∷ ns) c.loop-first.lengths.items c.in-Some.first.now c.in-Some.more.now c.in_ok-read_length.field-0 f small
          c.in_ok-read_length.ensures.value),
    )

pub returns-in_err-read_length-2-clause-every : goal.returns-in_err-read_length-2-clause-every
returns-in_err-read_length-2-clause-every c = λ n ns h e.
    let l = Left-last (n ∷ ns) c.loop-first.lengths.items c.loop-first.rest.now (c.loop-first.invariant.2 n ns h e) c.in_default.ensures.every in
    let none = c.in_err-read_length-2.ensures.every l.last l.small l.rest_is in
    absurd (cc (none))

pub returns-in_err-ok-2-clause-every : goal.returns-in_err-ok-2-clause-every
returns-in_err-ok-2-clause-every c =
    let full : length c.loop-first.lengths.items ≡ 8 = search rules in
    λ n ns h e.
    let room = Left-room (n ∷ ns) c.loop-first.lengths.items c.loop-first.rest.now (c.loop-first.invariant.2 n ns h e) h in
    absurd (omega (arith, room))

pub returns-clause-value : goal.returns-clause-value
returns-clause-value c = search (rules, before, lengths_word-last)

pub returns-clause-every : goal.returns-clause-every
returns-clause-every c =
    let pushed : c.try_push-2.new.self.items ≡ c.loop-first.lengths.items ++ c.in_ok-read_length-2.field-0 ∷ [] = search rules in
    let small : c.in_ok-read_length-2.field-0 < 65536 = search rules in
    λ n ns h e.
    let l = Left-last (n ∷ ns) c.loop-first.lengths.items c.loop-first.rest.now (c.loop-first.invariant.2 n ns h e) c.in_default.ensures.every in
    pushed ∙ Last-done (n ∷ ns) c.loop-first.lengths.items c.loop-first.rest.now c.in_ok-read_length-2.field-0 l small
    c.in_ok-read_length-2.ensures.value

pub returns-clause-right : goal.returns-clause-right
returns-clause-right c =
    let pushed : c.try_push-2.new.self.items ≡ c.loop-first.lengths.items ++ c.in_ok-read_length-2.field-0 ∷ [] = search rules in
    let small : c.in_ok-read_length-2.field-0 < 65536 = search rules in
    let few : length c.try_push-2.new.self.items ≤ 8 = search rules in (
      few,
      subst (λ (ns : List ℕ). All (λ n. n < 65536) ns) (sym pushed)
          (All-push are_small c.loop-first.lengths.items c.in_ok-read_length-2.field-0 c.loop-first.invariant.1 small),
    )
