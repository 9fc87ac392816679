-- The key of one direction of a transport (Noise 11.3).
use Rattle.std.specs.Prelude.{ℕ}
use Rattle.noise_names.specs.declared.token.Role.{Role}
use Rattle.noise_state.specs.declared.symmetric.SymmetricState.{SymmetricState}
use Rattle.noise_session.specs.Transport.{transport_key}
use Rattle.noise_trace.specs.declared.direction.Direction.{Direction}

-- the messages of a writer, before its message n
abbrev pub direction : SymmetricState → Role → ℕ → ℕ → Direction
direction r writer interval n = record { nonce = n; key = transport_key r writer interval n }
