use Rattle.std.proofs.Common.{◌≡◌, ◌∙◌, ap, sym, subst, ℕ, None}
use Rattle.noise_run.proofs.Common.{Initiator, Responder, Plan, DuelMatches, both_sides, end_of, bytes_of, public_of, agreement_of, setup_of, file_start, TracedMatches, start_traces}
use Rattle.noise_handshake.specs.Party.{Party}
use Rattle.noise_duel.specs.Messages.{begun_as}
use Rattle.noise_run.proofs.EndLemmas.{same-setup, same-start}
use Rattle.noise_run.proofs.traced_ends.make_traced_ends.Goals as goal
use Rattle.noise_vectors.specs.FileKeys.{pairs_of}

pub returns-clause-ends : goal.returns-clause-ends
returns-clause-ends c =
    let file = c.args.file in
    let a = c.in_ok-initiator.ensures.made in
    let same = c.in_ok-initiator.ensures.value in
    let plan_is : c.pattern.result.now ≡ a.plan = c.pattern.ensures.value ∙ ap (λ (z : Party). z.pattern) a.initiator.is in
    let follows = c.follow.ensures.traced _ a.initiator (ap public_of (sym c.requires.same.initiator)) (ap agreement_of (sym c.requires.same.initiator)) in
    let follows-2 = c.follow-2.ensures.traced _ a.responder (ap public_of (sym c.requires.same.responder)) (ap agreement_of (sym c.requires.same.responder)) in
    record {
      plan = a.plan;
      of_file = a.of_file;
      matches = subst (λ (i : ℕ). DuelMatches pairs_of pairs_of c.in_ok-duel.duel
          (both_sides (end_of (begun_as a.plan Initiator (file_start file a.plan Initiator)) i)
          (end_of (begun_as a.plan Responder (file_start file a.plan Responder)) i)))
          same.0 (c.in_ok-duel.ensures.matches _ _ a.initiator a.responder);
      traced = record {
        initiator = subst (λ (i : ℕ). TracedMatches c.follow.result (end_of (begun_as a.plan Initiator (file_start file a.plan Initiator)) i)) same.0 follows.1;
        responder =
            subst (λ (i : ℕ). TracedMatches c.follow-2.result (end_of (begun_as a.plan Responder (file_start file a.plan Responder)) i)) same.0 follows-2.1;
        first = follows.0;
        second = follows-2.0;
      };
      lines =
          subst (λ (p : Plan). bytes_of c.in_ok-lines.lines.items ≡ start_traces c.args.selection c.args.again p) plan_is
          (c.in_ok-lines.ensures (λ role. subst (λ (p : Plan). setup_of c.args.again p role ≡ None) (sym plan_is)
          (same-setup file c.args.again a.plan role c.requires.same ∙ a.of_file.set_up role)))
          ∙ same-start c.args.selection file c.args.again a.plan c.requires.same;
      events = same.1;
      version = same.2;
    }
