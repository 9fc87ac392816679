use Rattle.std.proofs.Common.{◌≡◌, ℕ, List, IfOk, ap, subst, ◌∙◌}
use Rattle.noise_aead.specs.Sealing.{nonce_of}
use Rattle.noise_compare.specs.Texts.{nonce_fits_text}
use Rattle.noise_compare.proofs.texts.next_nonce_explains.Goals as goal

pub returns : goal.returns
returns c = subst (λ (n : List ℕ). IfOk c.nonce_fits_text.result (λ b. b ≡ nonce_fits_text c.args.at.now c.args.logged.now n))
    (c.nonce-next.ensures ∙ ap (λ (n : ℕ). nonce_of n) c.one_more.ensures) c.nonce_fits_text.ensures
