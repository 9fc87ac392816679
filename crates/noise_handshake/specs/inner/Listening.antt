-- What the private functions of reading say of a party that listens.
use Rattle.std.specs.Prelude.{◌≡◌, ◌<◌, ℕ, List, ◌++◌, take, Bool, Option, is_some, if◌then◌else◌, MatchOption}
use Rattle.noise_names.specs.declared.token.Token.{Token}
use Rattle.noise_names.specs.declared.token.Role.{Role}
use Rattle.noise_names.specs.Plan.{has_psk}
use Rattle.noise_state.specs.declared.symmetric.SymmetricState.{SymmetricState}
use Rattle.noise_keys.specs.declared.keys.Own.{Own}
use Rattle.noise_handshake.specs.declared.remote.Remote.{Remote}
use Rattle.noise_handshake.specs.declared.faults.Cause.{Cause}
use Rattle.noise_handshake.specs.declared.stop.Stop.{Stop}
use Rattle.noise_handshake.specs.declared.faults.Cause.TheVariants.{Agreement}
use Rattle.noise_handshake.specs.Message.{token_bytes}
use Rattle.noise_handshake.specs.Party.{Party, Reader, Fits, BeginsAs, Listens, Refuses, Stops, remote_after, tokens_now}
use Rattle.noise_handshake.specs.Calls.{ReadingWants}
use Rattle.noise_handshake.specs.Wanting.{StopsFor}

-- no text of token t fits here
abbrev pub Fails : Reader → Remote → List (List ℕ) → SymmetricState → Token → List ℕ → Type 0
Fails v known psks r t m = (x rest : List ℕ) → Fits v known psks t x → m ≡ token_bytes r t x ++ rest → ⊥

-- Reading stops at token k for this cause, and these keys of the other party are known there.
abbrev pub StopsKnowing : Reader → Remote → List (List ℕ) → SymmetricState → List Token → List ℕ → ℕ → Cause
    → Remote → Type 0
StopsKnowing v known psks r ts m k cause here = (s : Stops v known psks r ts m k cause)
    × (here ≡ remote_after known (take k ts) s.carried)

-- Reading stops because it lacks this DH result; or it doesn't stop for that.
abbrev pub ReaderWants : Reader → Remote → List (List ℕ) → SymmetricState → List Token → List ℕ → Option (Own × List ℕ)
    → Type 0
ReaderWants v known psks r ts m want = MatchOption want ((k : ℕ) → Stops v known psks r ts m k Agreement → ⊥)
    (λ w. StopsFor v known psks r ts m w.0 w.1)

-- The message begins as some sender's tokens before token k would, and this static key of the other party is known
-- there.
pub record BeginsBefore (v : Reader) (known : Remote) (psks : List (List ℕ)) (r : SymmetricState) (ts : List Token)
    (m : List ℕ) (k : ℕ)
    (remote : Option (List ℕ)) : Type 0 where
  pub carried : List (List ℕ)
  pub rest : List ℕ
  pub leads : BeginsAs v known psks r (take k ts) carried m rest
  pub remote_is : remote ≡ (remote_after known (take k ts) carried).s

-- The party would refuse the message at a token before token k, and this says which DH result it lacks there, if any.
abbrev pub StopsBefore : Party → List ℕ → ℕ → Stop → Type 0
StopsBefore v message k stop = (stop.token < k) × Refuses v message stop.token stop.cause
    × ReadingWants v message stop.want

-- how many bytes a static key takes
abbrev pub width_of_key : SymmetricState → ℕ
width_of_key r = if is_some r.cipher.key then 48 else 32

-- A party that listens, with these parts, for a party.
pub record Listening (v : Party) (role : Role) (has_psks : Bool) (agree : Own → List ℕ → Option (List ℕ))
    (psks : List (List ℕ)) (known : Remote) (tokens : List Token) : Type 0 where
  pub listens : Listens v
  pub role_is : role ≡ v.role
  pub psks_is : has_psks ≡ has_psk v.pattern
  pub agree_is : agree ≡ v.agree
  pub psks_are : psks ≡ v.psks
  pub known_is : known ≡ v.remote
  pub tokens_are : tokens ≡ tokens_now v
