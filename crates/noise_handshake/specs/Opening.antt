-- What a handshake leaves once all its messages have passed (Noise, 5.2 and 5.3).
use Rattle.std.specs.Prelude.{◌≡◌, ℕ, List, length, Bool, false, Option, Some, IsSome}
use Rattle.noise_names.specs.declared.token.Role.{Role}
use Rattle.noise_names.specs.Plan.{is_one_way}
use Rattle.noise_state.specs.declared.cipher.CipherState.{CipherState}
use Rattle.noise_state.specs.Cipher.{key_in, nonce_in}
use Rattle.noise_state.specs.Symmetric.{initiator_key, responder_key}
use Rattle.noise_handshake.specs.Party.{Party}

-- the parts that it leaves; the cipher states are those of the messages that the initiator and the responder write
pub record OpenedValue : Type 0 where
  pub role : Role
  pub one_way : Bool
  pub hash : List ℕ
  pub remote_static : Option (List ℕ)
  pub initiator : CipherState
  pub responder : CipherState

-- a cipher state with a key, at nonce 0
pub record IsFresh (c : CipherState) : Type 0 where
  pub key : IsSome (key_in c)
  pub nonce : nonce_in c ≡ 0

-- they are those of the party, of which all messages have passed and none was refused
pub record IsOpenedOf (o : OpenedValue) (v : Party) : Type 0 where
  pub going : v.ended ≡ false
  pub whole : v.passed ≡ length v.pattern.messages
  pub role : o.role ≡ v.role
  pub one_way : o.one_way ≡ is_one_way v.pattern
  pub hash : o.hash ≡ v.state.hash
  pub remote_static : o.remote_static ≡ v.remote.s
  pub initiator : key_in o.initiator ≡ Some (initiator_key v.state)
  pub responder : key_in o.responder ≡ Some (responder_key v.state)
  pub initiator_nonce : nonce_in o.initiator ≡ 0
  pub responder_nonce : nonce_in o.responder ≡ 0
