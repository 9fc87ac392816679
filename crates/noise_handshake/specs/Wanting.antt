-- Which DH result a party lacks for the next message (the table of Noise 5.3): that of one of its key pairs to a public
-- key of the other party.
use Rattle.std.specs.Prelude.{◌≡◌, ℕ, List, ◌∷◌, ◌++◌, length, Some}
use Rattle.noise_names.specs.declared.token.Token.{Token}
use Rattle.noise_keys.specs.declared.keys.Own.{Own}
use Rattle.noise_keys.specs.KeyTokens.{own_at}
use Rattle.noise_handshake.specs.declared.faults.Cause.TheVariants.{Agreement}
use Rattle.noise_handshake.specs.declared.remote.Remote.{Remote}
use Rattle.noise_state.specs.declared.symmetric.SymmetricState.{SymmetricState}
use Rattle.noise_handshake.specs.Party.{Party, Reader, reader, Listens, Speaks, Stops, remote_after, remote_at, tokens_now}
use Rattle.noise_handshake.specs.Writing.{Writer, writer, LacksDhResultAt}

-- Reading stops at a DH for want of its DH result: that of this key pair to this key of the other party, as it is known
-- after the tokens before.
pub record StopsFor (v : Reader) (known : Remote) (psks : List (List ℕ)) (r : SymmetricState) (ts : List Token)
    (message : List ℕ)
    (own : Own) (key : List ℕ) : Type 0 where
  pub before : List Token
  pub token : Token
  pub later : List Token
  pub tokens : ts ≡ before ++ token ∷ later
  pub stops : Stops v known psks r ts message (length before) Agreement
  pub own_is : own ≡ own_at v.role token
  pub key_is : remote_at v.role (remote_after known before stops.carried) token ≡ Some key

-- The party would refuse the message for want of this DH result.
pub record WantsToRead (v : Party) (message : List ℕ) (own : Own) (key : List ℕ) : Type 0 where
  pub listens : Listens v
  pub stops : StopsFor (reader v) v.remote v.psks v.state (tokens_now v) message own key

-- The first token without a text is a DH without its result: that of this key pair to this key of the other party.
pub record LacksDhResultFor (w : Writer) (known : Remote) (psks : List (List ℕ)) (ts : List Token) (own : Own)
    (key : List ℕ) : Type 0 where
  pub before : List Token
  pub token : Token
  pub later : List Token
  pub tokens : ts ≡ before ++ token ∷ later
  pub lacks : LacksDhResultAt w known psks ts (length before)
  pub own_is : own ≡ own_at w.role token
  pub key_is : remote_at w.role known token ≡ Some key

-- The party would not write its message for want of this DH result.
pub record WantsToWrite (v : Party) (own : Own) (key : List ℕ) : Type 0 where
  pub speaks : Speaks v
  pub lacks : LacksDhResultFor (writer v) v.remote v.psks (tokens_now v) own key
