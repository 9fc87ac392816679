use Rattle.std.proofs.Common.{ℕ, subst}
use Rattle.noise_run.proofs.Common.{Initiator, Responder, DuelMatches, both_sides, end_of, file_start}
use Rattle.noise_duel.specs.Messages.{begun_as}
use Rattle.noise_run.proofs.ends.make_ends.Goals as goal
use Rattle.noise_vectors.specs.FileKeys.{pairs_of}

pub returns-clause-ends : goal.returns-clause-ends
returns-clause-ends c =
    let file = c.args.file in
    let a = c.in_ok-initiator.ensures.made in
    record {
      plan = a.plan;
      of_file = a.of_file;
      matches = subst (λ (i : ℕ). DuelMatches pairs_of pairs_of c.in_ok-duel.duel
          (both_sides (end_of (begun_as a.plan Initiator (file_start file a.plan Initiator)) i)
          (end_of (begun_as a.plan Responder (file_start file a.plan Responder)) i)))
          c.in_ok-initiator.ensures.value.0 (c.in_ok-duel.ensures.matches _ _ a.initiator a.responder);
    }
