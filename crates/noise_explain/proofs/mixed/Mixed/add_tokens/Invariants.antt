use Rattle.std.proofs.Common.{◌≡◌, take}
use Rattle.std.specs.Prelude.{fold}
use Rattle.noise_explain.specs.MixedKeys.{add_token}
use Rattle.noise_explain.proofs.mixed.Mixed.add_tokens.Given as goal

-- with the tokens so far
abbrev pub invariant-loop-token : goal.invariant-loop-token
invariant-loop-token l = l.mixed ≡ fold add_token l.fn.self (take l.token-index l.tokens)
