-- Whether values are those that were logged.
use Rattle.std.specs.Prelude.{ℕ, ◌==◌, ◌&&◌, Bool, true, List, [], Option, Some, None, Vec}
use Rattle.std.specs.Str.{bytes_eq}
use Rattle.std.specs.Global.{Global}
use Rattle.noise_compare.specs.declared.state.State.{State}
use Rattle.noise_compare.specs.declared.state.Logged.{Logged}

-- what was not logged may be any
abbrev pub has : Option (Vec ℕ Global) → List ℕ → Bool
has None value = true
has (Some logged) value = bytes_eq logged.items value

abbrev pub key_fits : Option (Vec ℕ Global) → Option (List ℕ) → Bool
key_fits logged None = has logged []
key_fits logged (Some key) = has logged key

abbrev pub nonce_fits : Option ℕ → ℕ → Bool
nonce_fits None nonce = true
nonce_fits (Some logged) nonce = logged == nonce

abbrev pub state_fits : Logged → State → Bool
state_fits logged state = has logged.hash state.hash && has logged.chaining_key state.chaining_key
    && key_fits logged.key state.key && nonce_fits logged.nonce state.nonce

-- the bytes and the state of a step are those that were logged, as far as they were
abbrev pub fits : Logged → List ℕ → State → Bool
fits logged bytes state = has logged.bytes bytes && state_fits logged state
