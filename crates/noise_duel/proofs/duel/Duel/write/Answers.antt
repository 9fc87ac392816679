use Rattle.std.proofs.Common.{rules, ◌≡◌, ◌++◌, ℕ, List, [], ◌∷◌, Ok, Err, Some, None, refl, sym, ap, subst, ◌∙◌}
use Rattle.std.specs.Prelude.{Result}
use Rattle.noise_names.specs.declared.token.Role.{Role}
use Rattle.noise_names.specs.declared.token.Role.TheVariants.{Initiator, Responder}
use Rattle.noise_names.specs.Lists.{bytes_of}
use Rattle.noise_session.specs.declared.faults.SendFault.{SendFault}
use Rattle.noise_duel.specs.OneEvent.{RoleWrote}
use Rattle.noise_duel.specs.DuelValue.{DuelMatches, DuelValue}
use Rattle.noise_duel.specs.declared.report.Report.{Report}
use Rattle.noise_duel.proofs.Common.{SideWrites, written_note}
use Rattle.noise_duel.specs.Sides.{with_side}
use Rattle.noise_duel.specs.Entries.{notes_of}
use Rattle.noise_duel.proofs.Happening.{reported-more}
use Rattle.noise_duel.proofs.duel.Duel.write.Goals.{in-Initiator+in_ok-reported-in-Initiator, in-Responder+in_ok-reported-in-Responder}
use Rattle.noise_duel.proofs.duel.Duel.write.Goals as goal

pub returns-in_ok-push-in-Ok : goal.returns-in_ok-push-in-Ok
returns-in_ok-push-in-Ok g c d st fr =
    let old = subst (λ (z : DuelValue g.row.A.Denot g.row.B.Denot). DuelMatches g.A.Keys.pairs g.B.Keys.pairs z d) (sym c.self.view_is) st in
    elim c.match-role.branch [
      | in-Initiator+in_ok-reported-in-Initiator w ↦
          let r = w.in_ok-reported-in-Initiator.ensures d.initiator old.initiator fr.initiator in
          let e : w.in_ok-reported-in-Initiator.reported ≡ Ok c.in-Ok.number = sym w.reported-is ∙ c.in-Ok.is in
          subst (λ (x : Role). RoleWrote g.A.Keys.pairs g.B.Keys.pairs d x c.args.payload.now (Some c.in-Ok.number) c.match-role.self c.args.report.now
          (record { initiator = c.match-role.report.initiator; responder = c.match-role.report.responder; entries = c.push.new.self })) (sym w.in-Initiator.is) (record {
            reported = Ok c.in-Ok.number;
            number_is = refl;
            next = r.next;
            writes = subst (λ (z : Result ℕ SendFault). SideWrites d.initiator c.args.payload.now (written_note z) r.next) e r.writes;
            matches = subst (λ (z : DuelValue g.row.A.Denot g.row.B.Denot). DuelMatches g.A.Keys.pairs g.B.Keys.pairs z (with_side d Initiator r.next)) (sym w.self-is)
                (record { initiator = r.matches; responder = old.responder });
            frames = record {
              initiator = ap (λ (z : Report). bytes_of z.initiator.items) w.report-is ∙ r.frames_are;
              responder = ap (λ (z : Report). bytes_of z.responder.items) w.report-is ∙ fr.responder;
            };
            entries = reported-more _ _ _ c.in_ok-push-in-Ok.ensures.items
                ∙ ap (λ (z : Report). notes_of z.entries.items ++ (c.args.role, written_note (Ok c.in-Ok.number)) ∷ []) w.report-is
                ∙ ap (λ (x : Role). notes_of c.args.report.now.entries.items ++ (x, written_note (Ok c.in-Ok.number)) ∷ []) w.in-Initiator.is;
          })
      | in-Responder+in_ok-reported-in-Responder w ↦
          let r = w.in_ok-reported-in-Responder.ensures d.responder old.responder fr.responder in
          let e : w.in_ok-reported-in-Responder.reported ≡ Ok c.in-Ok.number = sym w.reported-is ∙ c.in-Ok.is in
          subst (λ (x : Role). RoleWrote g.A.Keys.pairs g.B.Keys.pairs d x c.args.payload.now (Some c.in-Ok.number) c.match-role.self c.args.report.now
          (record { initiator = c.match-role.report.initiator; responder = c.match-role.report.responder; entries = c.push.new.self })) (sym w.in-Responder.is) (record {
            reported = Ok c.in-Ok.number;
            number_is = refl;
            next = r.next;
            writes = subst (λ (z : Result ℕ SendFault). SideWrites d.responder c.args.payload.now (written_note z) r.next) e r.writes;
            matches = subst (λ (z : DuelValue g.row.A.Denot g.row.B.Denot). DuelMatches g.A.Keys.pairs g.B.Keys.pairs z (with_side d Responder r.next)) (sym w.self-is)
                (record { responder = r.matches; initiator = old.initiator });
            frames = record {
              responder = ap (λ (z : Report). bytes_of z.responder.items) w.report-is ∙ r.frames_are;
              initiator = ap (λ (z : Report). bytes_of z.initiator.items) w.report-is ∙ fr.initiator;
            };
            entries = reported-more _ _ _ c.in_ok-push-in-Ok.ensures.items
                ∙ ap (λ (z : Report). notes_of z.entries.items ++ (c.args.role, written_note (Ok c.in-Ok.number)) ∷ []) w.report-is
                ∙ ap (λ (x : Role). notes_of c.args.report.now.entries.items ++ (x, written_note (Ok c.in-Ok.number)) ∷ []) w.in-Responder.is;
          })
    ]

pub returns-in_ok-push-in-Err : goal.returns-in_ok-push-in-Err
returns-in_ok-push-in-Err g c d st fr =
    let old = subst (λ (z : DuelValue g.row.A.Denot g.row.B.Denot). DuelMatches g.A.Keys.pairs g.B.Keys.pairs z d) (sym c.self.view_is) st in
    elim c.match-role.branch [
      | in-Initiator+in_ok-reported-in-Initiator w ↦
          let r = w.in_ok-reported-in-Initiator.ensures d.initiator old.initiator fr.initiator in
          let e : w.in_ok-reported-in-Initiator.reported ≡ Err c.in-Err.fault = sym w.reported-is ∙ c.in-Err.is in
          subst (λ (x : Role). RoleWrote g.A.Keys.pairs g.B.Keys.pairs d x c.args.payload.now None c.match-role.self c.args.report.now
          (record { initiator = c.match-role.report.initiator; responder = c.match-role.report.responder; entries = c.push-in-Err.new.self })) (sym w.in-Initiator.is) (record {
            reported = Err c.in-Err.fault;
            number_is = refl;
            next = r.next;
            writes = subst (λ (z : Result ℕ SendFault). SideWrites d.initiator c.args.payload.now (written_note z) r.next) e r.writes;
            matches = subst (λ (z : DuelValue g.row.A.Denot g.row.B.Denot). DuelMatches g.A.Keys.pairs g.B.Keys.pairs z (with_side d Initiator r.next)) (sym w.self-is)
                (record { initiator = r.matches; responder = old.responder });
            frames = record {
              initiator = ap (λ (z : Report). bytes_of z.initiator.items) w.report-is ∙ r.frames_are;
              responder = ap (λ (z : Report). bytes_of z.responder.items) w.report-is ∙ fr.responder;
            };
            entries = reported-more _ _ _ c.in_ok-push-in-Err.ensures.items
                ∙ ap (λ (z : Report). notes_of z.entries.items ++ (c.args.role, written_note (Err c.in-Err.fault)) ∷ []) w.report-is
                ∙ ap (λ (x : Role). notes_of c.args.report.now.entries.items ++ (x, written_note (Err c.in-Err.fault)) ∷ []) w.in-Initiator.is;
          })
      | in-Responder+in_ok-reported-in-Responder w ↦
          let r = w.in_ok-reported-in-Responder.ensures d.responder old.responder fr.responder in
          let e : w.in_ok-reported-in-Responder.reported ≡ Err c.in-Err.fault = sym w.reported-is ∙ c.in-Err.is in
          subst (λ (x : Role). RoleWrote g.A.Keys.pairs g.B.Keys.pairs d x c.args.payload.now None c.match-role.self c.args.report.now
          (record { initiator = c.match-role.report.initiator; responder = c.match-role.report.responder; entries = c.push-in-Err.new.self })) (sym w.in-Responder.is) (record {
            reported = Err c.in-Err.fault;
            number_is = refl;
            next = r.next;
            writes = subst (λ (z : Result ℕ SendFault). SideWrites d.responder c.args.payload.now (written_note z) r.next) e r.writes;
            matches = subst (λ (z : DuelValue g.row.A.Denot g.row.B.Denot). DuelMatches g.A.Keys.pairs g.B.Keys.pairs z (with_side d Responder r.next)) (sym w.self-is)
                (record { responder = r.matches; initiator = old.initiator });
            frames = record {
              responder = ap (λ (z : Report). bytes_of z.responder.items) w.report-is ∙ r.frames_are;
              initiator = ap (λ (z : Report). bytes_of z.initiator.items) w.report-is ∙ fr.initiator;
            };
            entries = reported-more _ _ _ c.in_ok-push-in-Err.ensures.items
                ∙ ap (λ (z : Report). notes_of z.entries.items ++ (c.args.role, written_note (Err c.in-Err.fault)) ∷ []) w.report-is
                ∙ ap (λ (x : Role). notes_of c.args.report.now.entries.items ++ (x, written_note (Err c.in-Err.fault)) ∷ []) w.in-Responder.is;
          })
    ]
