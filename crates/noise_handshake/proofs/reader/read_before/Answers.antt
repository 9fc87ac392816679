use Rattle.std.proofs.Common.{rules, ◌<◌, List, length, take, sym, ap, subst, refl, arith, length-take}
use Rattle.noise_handshake.proofs.Common.{reader_of, count_by, Token, is_psk, keyed, SymmetricState, Reader, tokens_of, ArePlaced, StopsKnowing}
use Rattle.noise_handshake.proofs.Fronts.{tokens-take, placed-take, stops-all}
use Rattle.noise_handshake.proofs.Layouts.{length-tokens_of}
use Rattle.noise_handshake.proofs.reader.read_before.Goals as goal

pub read_tokens-requires-clause-placed : goal.read_tokens-requires-clause-placed
read_tokens-requires-clause-placed g c = (
  0,
  omega arith,
  subst (λ (z : SymmetricState). ArePlaced c.args.means.now.has_psks (keyed z) 0 (take c.args.k c.args.placed.now)) (sym c.for_trial-trial.ensures)
      (placed-take c.args.means.now.has_psks (keyed c.args.state.now) 0 c.args.placed.now c.args.k c.requires.placed),
)

pub read_tokens-requires-clause-psks : goal.read_tokens-requires-clause-psks
read_tokens-requires-clause-psks g c =
    omega (arith, c.requires.psks, ap (count_by is_psk) (tokens-take c.args.placed.now c.args.k))

pub read_tokens-requires-clause-nonces : goal.read_tokens-requires-clause-nonces
read_tokens-requires-clause-nonces g c = search (rules, tokens-take, length-take)

pub overflow_cast-result : goal.overflow_cast-result
overflow_cast-result g c = search (rules, tokens-take, length-take, length-tokens_of)

pub returns-in-Ok : goal.returns-in-Ok
returns-in-Ok g c = record { read = search (rules, placed-take, tokens-take) }

pub returns-in-Err : goal.returns-in-Err
returns-in-Err g c = record {
  read =
      let v : Reader = reader_of g.K.Keys.pairs c.args.means.now in
      let r : SymmetricState = c.args.state.now in
      let placed : ArePlaced c.args.means.now.has_psks (keyed c.for_trial-trial.result) 0 (take c.args.k c.args.placed.now) =
      search (rules, placed-take) in
      let i = subst (λ (z : SymmetricState). StopsKnowing v c.args.known.now c.args.psks.now z (tokens_of (take c.args.k c.args.placed.now))
      c.args.message.now c.in-Err.token c.in-Err.cause c.read_tokens.new.known) c.for_trial-trial.ensures (c.in-Err.ensures.read 0 (omega arith) placed) in
      let ts : List Token = tokens_of c.args.placed.now in
      let e = tokens-take c.args.placed.now c.args.k in
      let short = subst (λ (us : List Token). StopsKnowing v c.args.known.now c.args.psks.now r us c.args.message.now c.in-Err.token c.in-Err.cause
      c.read_tokens.new.known) e i in
      let less : c.in-Err.token < length (take c.args.k ts) = omega (arith, c.in-Err.ensures.stop, ap length e) in
      let all = stops-all v c.args.known.now c.args.psks.now r ts c.args.message.now c.args.k c.in-Err.token c.in-Err.cause c.read_tokens.new.known less short in (
        omega (arith, less, length-take c.args.k ts),
        all.0,
        c.lacked.ensures v c.args.known.now c.args.psks.now r c.args.message.now refl c.requires.known all,
      );
}
