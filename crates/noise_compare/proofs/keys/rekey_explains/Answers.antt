use Rattle.std.proofs.Common.{◌≡◌, ℕ, List, IfOk, subst}
use Rattle.noise_compare.specs.Keys.{rekey_explains}
use Rattle.noise_compare.proofs.keys.rekey_explains.Goals as goal

pub returns : goal.returns
returns c = subst (λ (n : List ℕ). IfOk c.renewed_fits.result (λ b. b ≡ rekey_explains c.args.at.now c.args.logged.now n c.args.from))
    c.nonce-nonce.ensures c.renewed_fits.ensures
