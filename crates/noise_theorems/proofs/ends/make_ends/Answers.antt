use Rattle.std.proofs.Common.{◌≡◌, ◌∙◌, sym, refl, subst, ℕ, length, Option}
use Rattle.noise_theorems.proofs.Common.{err_from_is_err_and, Initiator, Responder, Plan, party_at_start, EndMatches, end_of, sides_at_start, Start, start_by, IsReportedFault}
use Rattle.noise_handshake.specs.declared.remote.Remote.{Remote}
use Rattle.noise_keys.specs.declared.faults.SetupFault.{SetupFault}
use Rattle.noise_duel.specs.DuelValue.{DuelValue, DuelMatches}
use Rattle.noise_theorems.proofs.Alike.{fault-same}
use Rattle.noise_theorems.proofs.Faults.{first-reported, next-reported, none-reported}
use Rattle.noise_theorems.proofs.ends.make_ends.Goals as goal

pub returns-in_err-first : goal.returns-in_err-first
returns-in_err-first g c =
    let n : ℕ = length c.args.psks.now in
    let q = err_from_is_err_and c.from_residual-in_err-first.result c.from_residual-in_err-first.ensures.1 in
    let known = fault-same Initiator (g.K.Keys.pairs c.args.initiator).public c.args.pattern c.args.pattern _ _ n refl c.shown_before-of_responder.ensures.value in
    rw (q.1, q.2) (record { made = first-reported _ _ _ (subst (λ (found : Option SetupFault). IsReportedFault found c.in_err-first.field-0.0) known c.in_err-first.ensures.fault) })

pub returns-in_err-second : goal.returns-in_err-second
returns-in_err-second g c =
    let n : ℕ = length c.args.psks.now in
    let q = err_from_is_err_and c.from_residual-in_err-second.result c.from_residual-in_err-second.ensures.1 in
    let known = fault-same Initiator (g.K.Keys.pairs c.args.initiator).public c.args.pattern c.args.pattern _ _ n refl c.shown_before-of_responder.ensures.value in
    let known-2 = fault-same Responder (g.K.Keys.pairs c.args.responder).public c.in_ok-same.same c.args.pattern _ _ n c.in_ok-same.ensures
    c.shown_before-of_initiator.ensures.value in
    rw (q.1, q.2) (record {
      made = next-reported _ _ _ (sym known ∙ c.in_ok-first.ensures.fault)
          (subst (λ (found : Option SetupFault). IsReportedFault found c.in_err-second.field-0.0) known-2 c.in_err-second.ensures.fault);
    })

pub returns : goal.returns
returns g c =
    let p = c.args.pattern in
    let text = c.args.prologue.now in
    let psks = c.args.psks.now in
    let n : ℕ = length psks in
    let a : Start = start_by g.K.Keys.pairs p Initiator text psks c.args.initiator c.args.responder in
    let b : Start = start_by g.K.Keys.pairs p Responder text psks c.args.responder c.args.initiator in
    let known : c.shown_before-of_responder.result ≡ a.remote = c.shown_before-of_responder.ensures.value in
    let known-2 : c.shown_before-of_initiator.result ≡ b.remote = c.shown_before-of_initiator.ensures.value in
    let copy : c.in_ok-same.same ≡ p = c.in_ok-same.ensures in
    let none = sym (fault-same Initiator a.own p p _ a.remote n refl known) ∙ c.in_ok-first.ensures.fault in
    let none-2 = sym (fault-same Responder b.own c.in_ok-same.same p _ b.remote n copy known-2) ∙ c.in_ok-second.ensures.fault in
    let first = subst (λ (r : Remote). EndMatches g.K.Keys.pairs c.in_ok-first.first
    (end_of (party_at_start p Initiator text a.own a.agree r psks) c.args.interval)) known c.in_ok-first.ensures.matches in
    let second = subst (λ (r : Remote). EndMatches g.K.Keys.pairs c.in_ok-second.second
    (end_of (party_at_start p Responder text b.own b.agree r psks) c.args.interval)) known-2
    (subst (λ (q : Plan). EndMatches g.K.Keys.pairs c.in_ok-second.second
    (end_of (party_at_start q Responder text b.own b.agree c.shown_before-of_initiator.result psks) c.args.interval)) copy c.in_ok-second.ensures.matches) in record {
      made = (
        none-reported _ _ none none-2,
        record {
          matches = subst (λ (d : DuelValue g.row.K.Denot g.row.K.Denot). DuelMatches g.K.Keys.pairs g.K.Keys.pairs d
              (sides_at_start p a b c.args.interval c.args.interval)) (sym c.new.ensures.value) (record { initiator = first; responder = second });
          alike = record {
            initiator = none;
            responder = none-2;
            prologue_is = refl;
            prologue_too = refl;
            psks = refl;
            known = refl;
            known_too = refl;
            keys = g.met.K.Agreeing.commutes c.args.initiator c.args.responder;
          };
          initiator_keys = c.shown_before-of_initiator.ensures.len;
          responder_keys = c.shown_before-of_responder.ensures.len;
          pattern = c.in_ok-first.ensures.valid.0;
          valid = c.in_ok-first.ensures.valid.1;
        },
      );
    }
