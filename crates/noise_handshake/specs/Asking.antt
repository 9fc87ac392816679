-- What a party lacks for the next message: a DH result or a psk (Noise 5.3, 9).
use Rattle.std.specs.Prelude.{◌≡◌, ℕ, ◌<◌, List, ◌∷◌, ◌++◌, length, Option, count_by}
use Rattle.noise_names.specs.declared.token.Token.{Token}
use Rattle.noise_names.specs.declared.token.Token.TheVariants.{Psk}
use Rattle.noise_names.specs.Tokens.{is_psk}
use Rattle.noise_handshake.specs.declared.faults.Want.{Want}
use Rattle.noise_handshake.specs.declared.faults.Want.TheVariants.{DhResult}
use Rattle.noise_handshake.specs.declared.faults.Want.TheVariants as want
use Rattle.noise_handshake.specs.Party.{Party, BeginsAs, Listens, Speaks, remote_after, reader, tokens_now}
use Rattle.noise_handshake.specs.Wanting.{WantsToRead, WantsToWrite}
use Rattle.noise_handshake.specs.Writing.{LacksDhResult}

-- The message begins as some sender's tokens would before a psk token, the first after n others; this static key of the
-- other party is known there.
pub record WantsPskToRead (v : Party) (n : ℕ) (message : List ℕ) (remote : Option (List ℕ)) : Type 0 where
  pub listens : Listens v
  pub before : List Token
  pub later : List Token
  pub tokens : tokens_now v ≡ before ++ Psk ∷ later
  pub count : count_by is_psk before ≡ n
  pub carried : List (List ℕ)
  pub rest : List ℕ
  pub leads : BeginsAs (reader v) v.remote v.psks v.state before carried message rest
  pub remote_is : remote ≡ (remote_after v.remote before carried).s

-- The party's message has a psk token, the first after n others, and the party lacks no DH result before it.
pub record WantsPskToWrite (v : Party) (n : ℕ) : Type 0 where
  pub speaks : Speaks v
  pub before : List Token
  pub later : List Token
  pub tokens : tokens_now v ≡ before ++ Psk ∷ later
  pub count : count_by is_psk before ≡ n
  pub computed : (k : ℕ) → k < length before → LacksDhResult v k → ⊥

-- What the party wants to read the message, where n psks have been handed in for the psk tokens that are to come.
abbrev pub IsWantedToRead : Party → ℕ → List ℕ → Want → Type 0
IsWantedToRead v n message (DhResult own key) = WantsToRead v message own key
IsWantedToRead v n message (want.Psk remote) = WantsPskToRead v n message remote

-- What it wants to write its message.
abbrev pub IsWantedToWrite : Party → ℕ → Want → Type 0
IsWantedToWrite v n (DhResult own key) = WantsToWrite v own key
IsWantedToWrite v n (want.Psk remote) = WantsPskToWrite v n × (remote ≡ v.remote.s)
