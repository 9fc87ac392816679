-- What a caller's parts are tested for.
use Rattle.std.specs.Prelude.{◌≡◌, is_some}
use Rattle.noise_names.specs.declared.token.Token.TheVariants.{E, S}
use Rattle.noise_names.specs.Tokens.{other}
use Rattle.noise_names.specs.Validity.{is_among}
use Rattle.noise_names.specs.Overhead.{has_key}
use Rattle.noise_handshake.specs.declared.parts.Parts.{Parts}
use Rattle.noise_handshake.specs.Nonces.{nonce_due}
use Rattle.noise_handshake.specs.Passed.{passed_places}

-- exactly those keys of the other party are there whose tokens stand in its pre-message or in a message that has passed
abbrev pub HasShownKeys : {K : Type 0} → Parts K → Type 0
HasShownKeys p =
    (is_some p.progress.remote.e ≡ is_among (other p.role) E (passed_places p.pattern p.progress.passed))
    × (is_some p.progress.remote.s ≡ is_among (other p.role) S (passed_places p.pattern p.progress.passed))

-- there is a cipher key exactly where the pattern says so, and the nonce counts what was encrypted under it
abbrev pub HasDueState : {K : Type 0} → Parts K → Type 0
HasDueState p = (is_some p.progress.state.key ≡ has_key p.pattern (passed_places p.pattern p.progress.passed))
    × (p.progress.state.nonce ≡ nonce_due p.pattern p.progress.passed)
