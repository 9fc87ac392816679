use Rattle.std.proofs.Common.{[], ◌∷◌, take, sym, subst}
use Rattle.noise_c.specs.declared.structs.NoiseHandshake.{NoiseHandshake}
use Rattle.noise_c.specs.Toys.{Leads}
use Rattle.noise_c.proofs.Toying.{begun, joined, writes-one, written-fits, write-wants}
use Rattle.noise_c.proofs.toys.write.Goals as goal

pub returns-in-0 : goal.returns-in-0
returns-in-0 c =
    let w = c.noise_write in
    let k = c.asked.handshake in (
      written-fits k w.new.handshake c.args.payload.now c.asked.out w.new.out c.asked.results w.new.results w.result w.ensures.outcome c.in-0.is,
      joined c.args.keys.now c.args.handshake.now k w.new.handshake
          (record { message = take w.new.results.len w.new.out; payload = c.args.payload.now } ∷ []) [] c.asked.invariant
          (writes-one c.args.keys.now k w.new.handshake c.args.payload.now c.asked.out w.new.out c.asked.results w.new.results w.result
          w.ensures.outcome c.in-0.is),
    )

pub asked-preserved : goal.asked-preserved
asked-preserved c =
    let w = c.noise_write in
    let k = c.asked.handshake in
    joined c.args.keys.now c.args.handshake.now w.new.handshake c.answer.new.handshake [] []
    (subst (λ (z : NoiseHandshake). Leads c.args.keys.now c.args.handshake.now [] [] z)
    (sym (write-wants k w.new.handshake c.args.payload.now c.asked.out w.new.out c.asked.results w.new.results w.result w.ensures.outcome c.in-20.is))
    c.asked.invariant)
    (c.answer.ensures c.if-answer.true)

pub asked-init : goal.asked-init
asked-init c = begun c.args.keys.now c.args.handshake.now
