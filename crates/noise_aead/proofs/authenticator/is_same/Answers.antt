use Rattle.std.proofs.Common.{sym, ap, ◌∙◌}
use Rattle.noise_aead.proofs.Common.{w128, from_le_bytes, eqb-true, eq-eqb}
use Rattle.noise_aead.proofs.Numbers.{from_le_bytes-same}
use Rattle.noise_aead.proofs.authenticator.is_same.Goals as goal

pub returns : goal.returns
returns c = (
  λ h. from_le_bytes-same c.args.a.now c.args.b.now c.told-a c.told-b c.fits-a c.fits-b
      (sym c.from_le_bytes.ensures ∙ eqb-true c.from_le_bytes.result c.from_le_bytes-2.result h ∙ c.from_le_bytes-2.ensures),
  λ e. eq-eqb c.from_le_bytes.result c.from_le_bytes-2.result
      (c.from_le_bytes.ensures ∙ ap (from_le_bytes w128) e ∙ sym c.from_le_bytes-2.ensures),
)
