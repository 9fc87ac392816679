-- What a message that passed leaves.
use Rattle.std.proofs.Common.{◌≡◌, Bool, true, false, refl}
use Rattle.std.specs.Prelude.{if◌then◌else◌}
use Rattle.noise_handshake.proofs.Common.{Option, Some, None, HandshakeValue, read_fault}

some-none : {A : Type 0} (x : A) → ◌≡◌ {A = Option A} (Some x) None → ⊥
some-none x e = cc

unended : {A : Type 0} (ended : Bool) (x : A) (o : Option A) → (if ended then Some x else o) ≡ None → ended ≡ false
unended true x o e = absurd (some-none x e)
unended false x o e = refl

-- where a message is due, the handshake hasn't ended
pub unended-read : {K : Type 0} (h : HandshakeValue K) → read_fault h ≡ None → h.ended ≡ false
unended-read h e = unended h.ended _ _ e
