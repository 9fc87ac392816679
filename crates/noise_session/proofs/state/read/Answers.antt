use Rattle.std.proofs.Common.{◌≡◌, ◌-◌, List, ℕ, take, drop, sym, subst, arith}
use Rattle.noise_session.proofs.Common.{partial_of, StepValue, Judges, reported_in}
use Rattle.noise_session.proofs.Places.{reported-after, drop-front}
use Rattle.noise_session.proofs.state.read.Goals as goal

pub returns-clause-judges : goal.returns-clause-judges
returns-clause-judges g c v s =
    let r = c.read.ensures.judges v s in
    let message : take (c.clear-end.result - 2) (drop 2 c.deref_mut.result.now) ≡ drop 2 (partial_of c.args.incoming.now) =
    rw (c.clear-end.ensures.count, c.deref_mut.ensures.value, c.clear-end.ensures.unchanged) (drop-front _ 2 _) in
    let long = c.deref_mut.ensures.len in
    let room = c.clear-end.new.self.room in (
      r.0,
      subst (λ (t : StepValue). Judges v (drop 2 (partial_of c.args.incoming.now)) t r.0)
          (sym (reported-after c.deref_mut.result.now c.read.new.message _ _ _ c.read.result (omega arith) c.read.ensures.place
          (omega arith)))
          (subst (λ (m : List ℕ). Judges v m (reported_in c.read.new.message c.read.result) r.0) message r.1),
      r.2,
      r.3,
    )
