use Rattle.std.proofs.Common.{◌≢◌, ℕ, ◌+◌, ◌%◌, Some, sym, ◌∙◌, ap}
use Rattle.noise_session.proofs.Common.{rekeyed_times}
use Rattle.noise_session.specs.Rekeying.{rekeys-unchanged, rekeys-never}
use Rattle.noise_session.proofs.rekeying.rekey_if_due.Goals.{else-interval-ne0-via-then-interval-ne0+else-nonce-interval-eq0, else-interval-ne0-via-else-interval-ne0}
use Rattle.noise_session.proofs.rekeying.rekey_if_due.Goals as goal

pub returns-else-interval-ne0-clause-key : goal.returns-else-interval-ne0-clause-key
returns-else-interval-ne0-clause-key c first n count key =
    elim c.else-interval-ne0.branch [
      | else-interval-ne0-via-then-interval-ne0+else-nonce-interval-eq0 w ↦
          let more : (n + 1) % c.args.interval ≢ 0 =
          λ none. w.if-nonce-interval-eq0.false (ap (λ (k : ℕ). k % c.args.interval) (w.nonce.ensures ∙ count) ∙ none) in
          key ∙ ap (λ (k : ℕ). Some (rekeyed_times k first)) (sym (rekeys-unchanged c.args.interval n w.if-interval-ne0.true more))
      | else-interval-ne0-via-else-interval-ne0 w ↦
          key ∙ ap (λ (k : ℕ). Some (rekeyed_times k first)) (sym (rekeys-never c.args.interval n w.if-interval-ne0.false))
    ]
