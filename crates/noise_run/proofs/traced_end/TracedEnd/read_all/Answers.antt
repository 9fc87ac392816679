use Rattle.std.proofs.Common.{◌≤◌, ◌+◌, ◌∙◌, ◌∷◌, ◌++◌, inl, refl, sym, ap, arith, length, drop}
use Rattle.noise_run.proofs.Common.{drop_all, drop_more, note_of, notes_of, bytes_of, traces_of, came_traces, read_trace}
use Rattle.noise_run.proofs.ReceivedLemmas.{all-read, entry-step, traces-push}
use Rattle.noise_run.proofs.traced_end.TracedEnd.read_all.Goals as goal

pub loop-entry-init : goal.loop-entry-init
loop-entry-init c = record {
  role = refl;
  goes = λ s reader role bytes notes x shows is reported. inl (record {
    s = s;
    bytes = bytes;
    heard = notes;
    receives = x;
    shows = shows;
    rest_is = is;
    left_is = reported;
    whole_is = refl;
  });
}

pub loop-entry-preserved : goal.loop-entry-preserved
loop-entry-preserved c = record {
  role = c.in_ok-lines.ensures.role ∙ c.loop-entry.invariant.role;
  goes = λ s reader role bytes notes x shows is reported.
      let selection = c.args.selection in
      let own = c.args.self.now.role in
      let item = c.loop-entry-item.result in
      let i = c.loop-entry.entry-index in
      let entries = c.args.entries.now in
      entry-step selection own role c.loop-entry.self c.read.new.self c.loop-entry.rest.now c.split_entry.result.0.now c.split_entry.result.1.now
      item.0 (note_of item.1) (notes_of (drop (i + 1) entries)) (traces_of c.loop-entry.traces.items) (traces_of c.push.new.self.items)
      (traces_of c.args.traces.now.items ++ came_traces selection own s reader bytes notes x) (bytes_of c.in_ok-lines.lines.items)
      (λ v partial h. record { psks = h.psks; follows = c.end_is_followed.ensures.partial c.read.new.self.end v partial h.follows })
      c.split_entry.ensures.frame c.split_entry.ensures.left c.split_entry.ensures.partial
      (λ from next text step r sh same noted.
      let h = c.in_ok-lines.ensures.lines from next text step r sh same noted in
      (h.0 ∙ ap (λ z. read_trace selection z from next text step r) c.loop-entry.invariant.role, h.1))
      c.in_ok-lines.ensures.none
      (ap traces_of c.in_ok-push.ensures.items ∙ traces-push c.loop-entry.traces.items c.in_ok-lines.lines)
      reader (notes_of (drop i entries))
      (ap notes_of (drop_more entries i item c.loop-entry-test.true ∙ ap (λ e. e ∷ drop (i + 1) entries) (sym c.loop-entry-item.is)))
      (c.loop-entry.invariant.goes s reader role bytes notes x shows is reported);
}

pub returns-in_err-lines-clause-role : goal.returns-in_err-lines-clause-role
returns-in_err-lines-clause-role c = c.in_err-lines.ensures.role ∙ c.loop-entry.invariant.role

pub returns-clause-lines : goal.returns-clause-lines
returns-clause-lines c = λ s reader role bytes notes x shows is reported.
    let selection = c.args.selection in
    let own = c.args.self.now.role in
    let entries = c.args.entries.now in
    let i = c.loop-entry.entry-index in
    let none : length entries ≤ i = omega arith in
    let done = all-read selection own role c.loop-entry.self c.loop-entry.rest.now (traces_of c.loop-entry.traces.items)
    (traces_of c.args.traces.now.items ++ came_traces selection own s reader bytes notes x)
    (λ v partial h. record { psks = h.psks; follows = c.end_is_followed.ensures.partial c.loop-entry.self.end v partial h.follows })
    reader (notes_of (drop i entries)) (ap notes_of (drop_all i entries none)) (c.loop-entry.invariant.goes s reader role bytes notes x shows is reported) in
    (c.in_ok-from_slice.ensures.items ∙ done.rest_is, done.whole_is, done.shows)
