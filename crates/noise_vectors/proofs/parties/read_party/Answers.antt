use Rattle.std.proofs.Common.{arith, ◌∙◌, ap, sym, refl, subst, inl, inr, ℕ, List, ◌++◌, []}
use Rattle.noise_vectors.proofs.Common.{All-nil, last_number, ReportsAfter, answer_lines, IsEntry, Xor, key_words, false≢true}
use Rattle.noise_vectors.specs.declared.file_keys.FileKeys.TheVariants.{Table}
use Rattle.noise_vectors.proofs.PartyReported.{party-words, table-cut, table-line, table-reported, xor-cut}
use Rattle.noise_vectors.proofs.ReportedLemmas.{counted-ended, ending-reported, wrong-line}
use Rattle.noise_vectors.proofs.PartyLemmas.{not-xor, party-read, words_of, xor-after}
use Rattle.noise_vectors.proofs.Results.{err-is}
use Rattle.noise_vectors.proofs.parties.read_party.Goals as goal

pub returns-in_default-clause-every : goal.returns-in_default-clause-every
returns-in_default-clause-every c = λ keys rest h other is.
    absurd (c.in_default.ensures.every (words_of keys) (party-read c.args.role keys rest h is c.in_ok-line.ensures.every).0 tt)

pub returns-in_err-end-clause-every : goal.returns-in_err-end-clause-every
returns-in_err-end-clause-every c = λ keys rest h other is.
    absurd (false≢true (c.in_err-end.ensures.ended.1 (party-read c.args.role keys rest h is c.in_ok-line.ensures.every).2))

pub returns-in-Some-keys_of-clause-every : goal.returns-in-Some-keys_of-clause-every
returns-in-Some-keys_of-clause-every c = λ keys rest h other is.
    let read = party-read c.args.role keys rest h is c.in_ok-line.ensures.every in
    let words = c.in-Some.ensures.every (words_of keys) read.0 in
    (refl, read.1 ∙ xor-after keys c.in-Some-keys_of.e c.in-Some-keys_of.s rest words c.as_slice.ensures c.in-Some-keys_of.ensures.text)

pub returns-in_default-keys_of-2-clause-every : goal.returns-in_default-keys_of-2-clause-every
returns-in_default-keys_of-2-clause-every c = λ keys rest h other is.
    let read = party-read c.args.role keys rest h is c.in_ok-line.ensures.every in
    let t = not-xor keys h (c.in-Some.ensures.every (words_of keys) read.0) c.as_slice.ensures c.in_default-keys_of.ensures.every in
    let bad = c.in_default-keys_of-2.ensures.every t.table.e t.table.s t.e t.s
    (t.words_are ∙ ap (λ (f : List ℕ). f ++ key_words t.table.e t.table.s) (sym c.as_slice-2.ensures)) in
    absurd (false≢true bad)

pub returns-in_err-end-2-clause-every : goal.returns-in_err-end-2-clause-every
returns-in_err-end-2-clause-every c = λ keys rest h other is.
    absurd (false≢true (c.in_err-end-2.ensures.ended.1 (party-read c.args.role keys rest h is c.in_ok-line.ensures.every).2))

pub returns-in_err-read_table-clause-every : goal.returns-in_err-read_table-clause-every
returns-in_err-read_table-clause-every c = λ keys rest h other is.
    let read = party-read c.args.role keys rest h is c.in_ok-line.ensures.every in
    let t = not-xor keys h (c.in-Some.ensures.every (words_of keys) read.0) c.as_slice.ensures c.in_default-keys_of.ensures.every in
    absurd (false≢true (c.in_err-read_table.ensures.every t.table.entries rest t.few t.entries_are other (read.1 ∙ t.after_is rest)).0)

pub returns-clause-every : goal.returns-clause-every
returns-clause-every c = λ keys rest h other is.
    let read = party-read c.args.role keys rest h is c.in_ok-line.ensures.every in
    let t = not-xor keys h (c.in-Some.ensures.every (words_of keys) read.0) c.as_slice.ensures c.in_default-keys_of.ensures.every in
    (refl, (c.in_ok-read_table.ensures.every t.table.entries rest t.few t.entries_are other (read.1 ∙ t.after_is rest)).1)

pub returns-in_default-clause-reported : goal.returns-in_default-clause-reported
returns-in_default-clause-reported c =
    inr (inr (inl (
      wrong-line c.in_ok-line.ensures.read refl c.fault.ensures,
      λ keys rest after h e.
          c.in_default.ensures.every (words_of keys) (party-words c.args.role keys c.in_ok-line.line.now after rest c.in_ok-line.ensures.read.plain h e) tt,
    )))

pub returns-in_default-keys_of-2-clause-reported : goal.returns-in_default-keys_of-2-clause-reported
returns-in_default-keys_of-2-clause-reported c =
    inr (inr (inl (
      wrong-line c.in_ok-line.ensures.read refl c.fault-in_default-keys_of-2.ensures,
      λ keys rest after h e.
          let words = party-words c.args.role keys c.in_ok-line.line.now after rest c.in_ok-line.ensures.read.plain h e in
          let t = not-xor keys h (c.in-Some.ensures.every (words_of keys) words) c.as_slice.ensures c.in_default-keys_of.ensures.every in
          let bad = c.in_default-keys_of-2.ensures.every t.table.e t.table.s t.e t.s
          (t.words_are ∙ ap (λ (f : List ℕ). f ++ key_words t.table.e t.table.s) (sym c.as_slice-2.ensures)) in
          false≢true bad,
    )))

pub returns-in_err-end-clause-reported : goal.returns-in_err-end-clause-reported
returns-in_err-end-clause-reported c =
    let last = (c.in_ok-line.ensures.read.last c.in_err-end.ensures.fault.0).0 in
    rw (err-is c.from_residual-in_err-end.result c.from_residual-in_err-end.ensures.1) (inr (inl (
      ending-reported c.in_ok-line.ensures.read c.in_err-end.ensures.fault,
      inr (
        Xor (record { e = c.in-Some-keys_of.e; s = c.in-Some-keys_of.s }),
        c.in-Some-keys_of.ensures.right,
        xor-cut c.args.role c.in-Some-keys_of.e c.in-Some-keys_of.s c.args.lines.now.rest.now c.in_ok-line.line.now c.in-Some.words.now last c.in-Some.ensures.text
            (c.in-Some-keys_of.ensures.text ∙ ap (λ (f : List ℕ). f ++ key_words c.in-Some-keys_of.e c.in-Some-keys_of.s) c.as_slice.ensures),
      ),
    )))

pub returns-in_err-end-2-clause-reported : goal.returns-in_err-end-2-clause-reported
returns-in_err-end-2-clause-reported c =
    let last = (c.in_ok-line.ensures.read.last c.in_err-end-2.ensures.fault.0).0 in
    rw (err-is c.from_residual-in_err-end-2.result c.from_residual-in_err-end-2.ensures.1) (inr (inl (
      ending-reported c.in_ok-line.ensures.read c.in_err-end-2.ensures.fault,
      inr (
        Table (record { e = c.in-Some-keys_of-2.e; s = c.in-Some-keys_of-2.s; entries = [] }),
        (c.in-Some-keys_of-2.ensures.right.0, c.in-Some-keys_of-2.ensures.right.1, omega arith, All-nil IsEntry),
        table-cut c.args.role c.in-Some-keys_of-2.e c.in-Some-keys_of-2.s c.args.lines.now.rest.now c.in_ok-line.line.now c.in-Some.words.now last c.in-Some.ensures.text
            (c.in-Some-keys_of-2.ensures.text ∙ ap (λ (f : List ℕ). f ++ key_words c.in-Some-keys_of-2.e c.in-Some-keys_of-2.s) c.as_slice-2.ensures),
      ),
    )))

pub returns-in-Some-keys_of-clause-counted : goal.returns-in-Some-keys_of-clause-counted
returns-in-Some-keys_of-clause-counted c =
    counted-ended c.in_ok-line.ensures.read (c.in_ok-end.ensures.ended.0 refl)

pub returns-clause-counted : goal.returns-clause-counted
returns-clause-counted c =
    c.in_ok-read_table.ensures.counted ∙ counted-ended c.in_ok-line.ensures.read (c.in_ok-end-2.ensures.ended.0 refl)

pub returns-in_err-read_table-clause-reported : goal.returns-in_err-read_table-clause-reported
returns-in_err-read_table-clause-reported c =
    let n = counted-ended c.in_ok-line.ensures.read (c.in_ok-end-2.ensures.ended.0 refl) in
    rw (err-is c.from_residual-in_err-read_table.result c.from_residual-in_err-read_table.ensures.1) (table-reported c.args.role c.in-Some-keys_of-2.e c.in-Some-keys_of-2.s c.args.lines.now.rest.now c.next.new.self.rest.now (last_number c.args.lines.now) _
    (table-line c.args.role c.in-Some-keys_of-2.e c.in-Some-keys_of-2.s c.args.lines.now.rest.now c.in_ok-line.line.now c.in-Some.words.now c.next.new.self.rest.now (c.in_ok-line.ensures.read.ended (c.in_ok-end-2.ensures.ended.0 refl))
    c.in-Some.ensures.text (c.in-Some-keys_of-2.ensures.text ∙ ap (λ (f : List ℕ). f ++ key_words c.in-Some-keys_of-2.e c.in-Some-keys_of-2.s) c.as_slice-2.ensures))
    c.in-Some-keys_of-2.ensures.right.0 c.in-Some-keys_of-2.ensures.right.1
    (subst (λ (n : ℕ). ReportsAfter answer_lines c.next.new.self.rest.now n c.in_err-read_table.field-0.0) n c.in_err-read_table.ensures.reported))
