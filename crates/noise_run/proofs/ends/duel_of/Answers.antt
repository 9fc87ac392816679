use Rattle.std.proofs.Common.{◌∙◌, sym, subst}
use Rattle.noise_vectors.specs.declared.file_keys.FileKeys.{FileKeys}
use Rattle.noise_session.specs.Ends.{end_of}
use Rattle.noise_duel.specs.DuelValue.{DuelValue, both_sides}
use Rattle.noise_run.specs.Ends.{FileDuelMatches}
use Rattle.noise_run.proofs.EndLemmas.{role-reported}
use Rattle.noise_run.proofs.ends.duel_of.Goals as goal

pub new-requires-3-clause-first : goal.new-requires-3-clause-first
new-requires-3-clause-first c =
    let r = c.requires.role in
    let matches = c.in_ok-first.ensures.matches r.0 r.2 in
    role-reported _ _ (c.end_is_reported.ensures c.in_ok-first.first _ matches) ∙ r.4

pub new-requires-3-clause-second : goal.new-requires-3-clause-second
new-requires-3-clause-second c =
    let r = c.requires.role in
    let matches = c.in_ok-second.ensures.matches r.1 r.3 in
    role-reported _ _ (c.end_is_reported.ensures c.in_ok-second.second _ matches) ∙ r.5

pub returns : goal.returns
returns c = record {
  matches = λ v w m n. subst
      (λ (d : DuelValue FileKeys FileKeys). FileDuelMatches d (both_sides (end_of v c.args.interval) (end_of w c.args.interval)))
      (sym c.new-3.ensures.value) (record { initiator = c.in_ok-first.ensures.matches v m; responder = c.in_ok-second.ensures.matches w n });
}
