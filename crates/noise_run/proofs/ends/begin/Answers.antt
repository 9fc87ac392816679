use Rattle.std.proofs.Common.{rules, ◌≡◌, ◌∙◌, sym, refl, subst}
use Rattle.noise_run.proofs.Common.{err_from_is_err_and, same_from_all_zip, Initiator, Responder}
use Rattle.noise_handshake.specs.Party.{Party}
use Rattle.noise_handshake.specs.Matching.{Matches}
use Rattle.noise_run.proofs.EndLemmas.{begun-same, both-set-up, setup-same, none-reported, reported-first, reported-second}
use Rattle.noise_run.proofs.ends.begin.Goals as goal
use Rattle.noise_vectors.specs.FileKeys.{pairs_of}

pub returns-in_err-first-clause-fault : goal.returns-in_err-first-clause-fault
returns-in_err-first-clause-fault c =
    let p = err_from_is_err_and c.from_residual-in_err-first.result c.from_residual-in_err-first.ensures.1 in
    let file = c.args.file in
    let plan = c.in_ok-pattern.pattern in
    let setup = setup-same Initiator file.initiator plan plan _ _ _ _ refl c.shown_before-of_responder.ensures.value c.deref-2.ensures.0 in
    rw (p.1, p.2) (reported-first file plan c.in_err-first.field-0.0 _
    c.in_ok-pattern.ensures.pattern c.in_ok-pattern.ensures.valid setup c.in_err-first.ensures.fault)

pub returns-in_err-second-clause-fault : goal.returns-in_err-second-clause-fault
returns-in_err-second-clause-fault c =
    let p = err_from_is_err_and c.from_residual-in_err-second.result c.from_residual-in_err-second.ensures.1 in
    let file = c.args.file in
    let plan = c.in_ok-pattern.pattern in
    let copy : c.in_ok-same.same ≡ plan = search (rules, same_from_all_zip, c.in_ok-same.ensures.cases) in
    let setup = setup-same Initiator file.initiator plan plan _ _ _ _ refl c.shown_before-of_responder.ensures.value c.deref-2.ensures.0 in
    let setup-2 = setup-same Responder file.responder _ _ _ _ _ _ copy c.shown_before-of_initiator.ensures.value c.deref-4.ensures.0 in
    rw (p.1, p.2) (reported-second file plan c.in_err-second.field-0.0 _ c.in_ok-pattern.ensures.pattern c.in_ok-pattern.ensures.valid
    (sym setup ∙ none-reported Initiator _ c.in_ok-first.ensures.fault) setup-2 c.in_err-second.ensures.fault)

pub returns-clause-made : goal.returns-clause-made
returns-clause-made c =
    let file = c.args.file in
    let plan = c.in_ok-pattern.pattern in
    let copy : c.in_ok-same.same ≡ plan = search (rules, same_from_all_zip, c.in_ok-same.ensures.cases) in
    let known = c.shown_before-of_responder.ensures.value in
    let known-2 = c.shown_before-of_initiator.ensures.value in
    let start = begun-same Initiator file.initiator plan plan _ _ _ _ _ _ refl c.deref.ensures.value known c.deref-2.ensures.0 in
    let start-2 = begun-same Responder file.responder _ _ _ _ _ _ _ _ copy c.deref-3.ensures.value known-2 c.deref-4.ensures.0 in
    let setup = setup-same Initiator file.initiator plan plan _ _ _ _ refl known c.deref-2.ensures.0 in
    let setup-2 = setup-same Responder file.responder _ _ _ _ _ _ copy known-2 c.deref-4.ensures.0 in
    record {
      plan = plan;
      of_file = record {
        pattern = c.in_ok-pattern.ensures.pattern;
        valid = c.in_ok-pattern.ensures.valid;
        set_up = both-set-up file plan (sym setup ∙ none-reported Initiator _ c.in_ok-first.ensures.fault)
            (sym setup-2 ∙ none-reported Responder _ c.in_ok-second.ensures.fault);
      };
      initiator = subst (λ (v : Party). Matches pairs_of c.in_ok-first.first v) start c.in_ok-first.ensures.matches;
      responder = subst (λ (v : Party). Matches pairs_of c.in_ok-second.second v) start-2 c.in_ok-second.ensures.matches;
    }
