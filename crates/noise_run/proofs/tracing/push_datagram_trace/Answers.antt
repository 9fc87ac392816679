use Rattle.std.proofs.Common.{◌++◌, ◌∷◌, ◌∙◌, [], sym, ap, ℕ, List, append-nil}
use Rattle.noise_run.proofs.Common.{traces_of, datagrams_of_version}
use Rattle.noise_run.proofs.LastTraceLemmas.{last-goes, last-stays, ready-over}
use Rattle.noise_run.proofs.ReceivedLemmas.{traces-push}
use Rattle.noise_run.proofs.tracing.push_datagram_trace.Goals as goal

pub returns-in_ok-push : goal.returns-in_ok-push
returns-in_ok-push c = λ d st tr after are_last.
    let datagrams = datagrams_of_version c.args.version.now in
    let old = traces_of c.args.traces.now.items in
    let test = sym (c.goes_over.ensures d st) ∙ c.if-goes_over.true in
    let lines = c.in_ok-datagram_keys.ensures d tr (ready-over datagrams d test) in
    ap traces_of c.in_ok-push.ensures.items ∙ traces-push c.args.traces.now.items c.in_ok-datagram_keys.field-0
    ∙ ap (λ (x : List (List ℕ)). old ++ x ∷ []) lines
    ∙ ap (λ (xs : List (List (List ℕ))). old ++ xs) (sym (last-goes c.args.selection datagrams d after are_last test))

pub returns-else-goes_over : goal.returns-else-goes_over
returns-else-goes_over c = λ d st tr after are_last.
    let datagrams = datagrams_of_version c.args.version.now in
    let old = traces_of c.args.traces.now.items in
    let test = sym (c.goes_over.ensures d st) ∙ c.if-goes_over.false in
    sym (append-nil old) ∙ ap (λ (xs : List (List (List ℕ))). old ++ xs) (sym (last-stays c.args.selection datagrams d after are_last test))
