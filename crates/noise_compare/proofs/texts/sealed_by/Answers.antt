use Rattle.std.proofs.Common.{◌≡◌, ℕ, List, IfOk, subst}
use Rattle.noise_compare.specs.Texts.{sealed_under}
use Rattle.noise_compare.proofs.texts.sealed_by.Goals as goal

pub returns : goal.returns
returns c = record {
  bytes = subst (λ (n : List ℕ). IfOk c.sealed_under.result
      (λ v. v.items ≡ sealed_under c.args.key.now n c.args.ad.now c.args.text.now))
      c.nonce-nonce.ensures c.sealed_under.ensures.bytes;
}
