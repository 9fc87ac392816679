use Rattle.std.proofs.Common.{◌++◌, ◌∷◌, ◌∙◌, [], ap, List, ℕ}
use Rattle.noise_run.proofs.Common.{side, traces_of, entry_frame}
use Rattle.noise_run.proofs.EventLemmas.{written-frame}
use Rattle.noise_run.proofs.ReceivedLemmas.{traces-push}
use Rattle.noise_run.proofs.traced_event.trace_write.Goals as goal

pub returns : goal.returns
returns c = λ d last next payload note w traced frames same reported.
    let role = c.args.role in
    let framed = c.frame_of-frame.ensures last frames ∙ ap (entry_frame (side last role)) reported
    ∙ written-frame (side d role) payload next (side last role) note w same in
    let h = c.in_ok-lines.ensures d next payload note w traced reported framed in (
      ap traces_of c.in_ok-push.ensures.items ∙ traces-push c.args.traces.now.items c.in_ok-lines.lines
          ∙ ap (λ (x : List (List ℕ)). traces_of c.args.traces.now.items ++ x ∷ []) h.0,
      h.1,
    )
