use Rattle.std.proofs.Common.{◌+◌, List, ℕ, [], ◌∷◌, subst}
use Rattle.std.specs.Prelude.{slice_range, true}
use Rattle.noise_c.specs.Toys.{Leads}
use Rattle.noise_c.proofs.Toying.{joined, read-fits, reads-one}
use Rattle.noise_c.proofs.toys.read.Goals as goal

pub returns-in-0 : goal.returns-in-0
returns-in-0 c =
    let r = c.noise_read in
    let k = c.asked.handshake in
    let payload : List ℕ = slice_range r.new.message r.new.results.from (r.new.results.from + r.new.results.len) in (
      read-fits true k r.new.handshake c.asked.message r.new.message c.asked.results r.new.results r.result r.ensures.outcome c.in-0.is,
      subst (λ (z : List ℕ). Leads c.args.keys.now c.args.handshake.now [] (record { message = z; payload = payload } ∷ []) r.new.handshake)
          c.asked.invariant.same
          (joined c.args.keys.now c.args.handshake.now k r.new.handshake [] (record { message = c.asked.message; payload = payload } ∷ [])
          c.asked.invariant.leads
          (reads-one c.args.keys.now k r.new.handshake c.asked.message r.new.message c.asked.results r.new.results r.result r.ensures.outcome c.in-0.is)),
    )
