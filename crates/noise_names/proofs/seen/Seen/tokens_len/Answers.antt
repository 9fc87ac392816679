use Rattle.std.proofs.Common.{List, ◌∷◌, [], ◌++◌, ℕ, get_or, ◌≡◌, ap, ◌∙◌, arith}
use Rattle.noise_names.proofs.Common.{E, Plan, Place, place, does, token_places, has_psk, overhead_from}
use Rattle.noise_names.specs.Checking.{seen_of}
use Rattle.noise_names.proofs.Checking.{seen-more, tokens-more, tokens-all}
use Rattle.noise_names.proofs.Lengths.{sum-more}
use Rattle.noise_names.proofs.seen.Seen.tokens_len.Goals as goal

pub loop-token-preserved : goal.loop-token-preserved
loop-token-preserved c = (
  omega (arith, c.loop-token.invariant.0, c.token_len-sum.ensures.bound),
  λ earlier n e.
      let h = c.loop-token.invariant.1 earlier n e in
      let i : ℕ = c.loop-token.token-index in
      let q : Place = place c.args.party (does (get_or c.args.tokens.now i E)) n i in (
        h.0 ++ q ∷ [],
        seen-more earlier h.0 c.loop-token.self c.add.new.self q h.1 (c.add.ensures n i),
        λ plan f. sum-more plan earlier h.0 c.loop-token.self c.args.psk q c.loop-token.sum c.token_len-sum.result h.1 f (h.2 plan f)
            c.token_len-sum.ensures.value,
        tokens-more c.args.party n c.args.tokens.now i E h.0 (token_places c.args.party n 0 c.args.tokens.now) c.loop-token-test.true h.3,
      ),
)

pub returns-clause-seen : goal.returns-clause-seen
returns-clause-seen c earlier n e =
    let h = c.loop-token.invariant.1 earlier n e in
    h.1 ∙ ap (λ (ps : List Place). seen_of (earlier ++ ps))
    (tokens-all c.args.party n c.args.tokens.now c.loop-token.token-index h.0 (token_places c.args.party n 0 c.args.tokens.now)
    c.loop-token-test.false h.3)

pub returns-clause-len : goal.returns-clause-len
returns-clause-len c plan earlier n e f =
    let h = c.loop-token.invariant.1 earlier n e in
    h.2 plan f
    ∙ ap (λ (ps : List Place). overhead_from plan earlier ps)
    (tokens-all c.args.party n c.args.tokens.now c.loop-token.token-index h.0 (token_places c.args.party n 0 c.args.tokens.now)
    c.loop-token-test.false h.3)
