-- What mixing the keys of a pre-message makes.
use Rattle.std.specs.Prelude.{◌≡◌, true, List, ◌++◌, Bool, is_some}
use Rattle.noise_names.specs.declared.token.Token.{Token}
use Rattle.noise_names.specs.declared.token.Token.TheVariants.{E, S}
use Rattle.noise_names.specs.declared.token.Role.{Role}
use Rattle.noise_state.specs.declared.symmetric.SymmetricState.{SymmetricState}
use Rattle.noise_handshake.specs.declared.remote.Remote.{Remote}
use Rattle.noise_keys.specs.KeyTokens.{has_token}
use Rattle.noise_handshake.specs.Party.{with_premessage}
use Rattle.noise_trace.specs.declared.start_step.StartStep.{StartStep}
use Rattle.noise_trace.specs.Start.{key_steps}

-- the keys that these tokens name are there
abbrev pub HasKeysFor : Remote → List Token → Type 0
HasKeysFor keys ts = (has_token E ts ≡ true → is_some keys.e ≡ true) × (has_token S ts ≡ true → is_some keys.s ≡ true)

-- the state after these tokens, and their steps after the others
abbrev pub Mixes : Bool → Role → Remote → List Token → SymmetricState → SymmetricState → List StartStep → List StartStep
    → Type 0
Mixes has_psks party keys ts r state old new =
    (state ≡ with_premessage has_psks keys ts r) × (new ≡ old ++ key_steps has_psks party keys ts r)
