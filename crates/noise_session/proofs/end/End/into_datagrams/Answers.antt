use Rattle.std.proofs.Common.{◌≡◌, sym, ◌∙◌, ap, subst}
use Rattle.noise_session.proofs.Common.{Phase, EndState, EndValue, EndMatches, OpenMatches, PhaseMatches, transport_in}
use Rattle.noise_session.specs.declared.phase.Phase.TheVariants as phases
use Rattle.noise_session.proofs.end.End.into_datagrams.Goals as goal

pub returns : goal.returns
returns g c =
    let is : c.args.self.phase ≡ phases.Open c.in-Open.transport =
    sym (ap (λ (e : EndValue g.row.K.Denot). e.phase) c.self.view_is) ∙ c.in-Open.is in
    record {
      matches = λ (v : EndState) (h : EndMatches g.K.Keys.pairs c.args.self v).
          let opened : OpenMatches c.in-Open.transport v =
          subst (λ (p : Phase g.row.K.Denot). PhaseMatches g.K.Keys.pairs p v) is h.phase in
          c.after.ensures.matches (transport_in v) opened.transport;
    }
