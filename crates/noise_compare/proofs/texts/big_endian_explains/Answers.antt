use Rattle.std.proofs.Common.{◌≡◌, ℕ, List, IfOk, subst}
use Rattle.noise_compare.specs.Texts.{nonce_fits_text}
use Rattle.noise_compare.proofs.texts.big_endian_explains.Goals as goal

pub returns : goal.returns
returns c = subst (λ (n : List ℕ). IfOk c.nonce_fits_text.result (λ b. b ≡ nonce_fits_text c.args.at.now c.args.logged.now n))
    c.big_endian-nonce.ensures c.nonce_fits_text.ensures
