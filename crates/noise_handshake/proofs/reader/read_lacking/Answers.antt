use Rattle.std.proofs.Common.{refl, arith, sym, subst, ◌≡◌, ◌+◌, ℕ, List, drop}
use Rattle.noise_handshake.proofs.Common.{StopsKnowing, reader_of, keyed, SymmetricState, Reader, tokens_of, ArePlaced, BeginsAs, after_tokens, remote_after}
use Rattle.noise_handshake.proofs.Wanted.{all-read}
use Rattle.noise_handshake.proofs.reader.read_lacking.Goals as goal

pub read_tokens-requires-clause-placed : goal.read_tokens-requires-clause-placed
read_tokens-requires-clause-placed g c = (
  0,
  omega arith,
  subst (λ (z : SymmetricState). ArePlaced c.args.means.now.has_psks (keyed z) 0 c.args.placed.now) (sym c.for_trial-trial.ensures) c.requires.placed,
)

pub returns-in-Ok : goal.returns-in-Ok
returns-in-Ok g c = record {
  wants = λ k stops.
      let v : Reader = reader_of g.K.Keys.pairs c.args.means.now in
      let r : SymmetricState = c.args.state.now in
      let placed : ArePlaced c.args.means.now.has_psks (keyed c.for_trial-trial.result) 0 c.args.placed.now =
      subst (λ (z : SymmetricState). ArePlaced c.args.means.now.has_psks (keyed z) 0 c.args.placed.now) (sym c.for_trial-trial.ensures) c.requires.placed in
      let i = subst (λ (z : SymmetricState). (xs : List (List ℕ)) × BeginsAs v c.args.known.now c.args.psks.now z (tokens_of c.args.placed.now) xs
      (drop 0 c.args.message.now) (drop (0 + c.in-Ok.field-0) c.args.message.now)
      × (c.read_tokens.new.state ≡ after_tokens v.has_psks z (tokens_of c.args.placed.now) xs)
      × (c.read_tokens.new.known ≡ remote_after c.args.known.now (tokens_of c.args.placed.now) xs))
      c.for_trial-trial.ensures (c.in-Ok.ensures.read 0 (omega arith) placed) in
      all-read v c.args.known.now c.args.psks.now r (tokens_of c.args.placed.now) i.0 c.args.message.now _ k i.1 stops;
}

pub returns-in-Err : goal.returns-in-Err
returns-in-Err g c = record {
  wants =
      let v : Reader = reader_of g.K.Keys.pairs c.args.means.now in
      let placed : ArePlaced c.args.means.now.has_psks (keyed c.for_trial-trial.result) 0 c.args.placed.now =
      subst (λ (z : SymmetricState). ArePlaced c.args.means.now.has_psks (keyed z) 0 c.args.placed.now) (sym c.for_trial-trial.ensures) c.requires.placed in
      c.lacked.ensures v c.args.known.now c.args.psks.now c.args.state.now c.args.message.now refl c.requires.known
      (subst (λ (z : SymmetricState). StopsKnowing v c.args.known.now c.args.psks.now z (tokens_of c.args.placed.now) c.args.message.now c.in-Err.k
      c.in-Err.cause c.read_tokens.new.known) c.for_trial-trial.ensures (c.in-Err.ensures.read 0 (omega arith) placed));
}
