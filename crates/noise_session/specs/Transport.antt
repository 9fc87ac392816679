-- Transport messages and their keys (Noise 5.2, 11.3 and 12.3).
use Rattle.std.specs.Prelude.{ℕ, ◌-◌, ◌/◌, ◌^◌, List, [], if◌then◌else◌, ◌==◌}
use Rattle.noise_names.specs.declared.token.Role.{Role}
use Rattle.noise_names.specs.declared.token.Role.TheVariants.{Initiator, Responder}
use Rattle.noise_state.specs.declared.symmetric.SymmetricState.{SymmetricState}
use Rattle.noise_state.specs.Symmetric.{initiator_key, responder_key}
use Rattle.noise_state.specs.Cipher.{rekeyed_times}
use Rattle.noise_aead.specs.Sealing.{sealed, nonce_of}

-- the key of the messages that a role writes, at nonce 0
abbrev pub split_key : SymmetricState → Role → List ℕ
split_key r Initiator = initiator_key r
split_key r Responder = responder_key r

-- how often the key was rekeyed before this nonce; an interval of 0 means never
abbrev pub rekeys : ℕ → ℕ → ℕ
rekeys interval n = if interval == 0 then 0 else n / interval

-- the key of transport message n of a writer
abbrev pub transport_key : SymmetricState → Role → ℕ → ℕ → List ℕ
transport_key r writer interval n = rekeyed_times (rekeys interval n) (split_key r writer)

-- transport message n of a writer
abbrev pub transport_message : SymmetricState → Role → ℕ → ℕ → List ℕ → List ℕ
transport_message r writer interval n payload = sealed (transport_key r writer interval n) (nonce_of n) [] payload

-- the nonce that no message has
abbrev pub last_nonce : ℕ
last_nonce = 2 ^ 64 - 1
