-- What one party of a handshake knows, which messages it accepts, and where it refuses the others.
use Rattle.std.specs.Prelude.{◌≡◌, ℕ, zero, suc, ◌<◌, ◌≤◌, nat_lt, List, [], ◌∷◌, ◌++◌, length, take, Bool, false, if◌then◌else◌}
use Rattle.std.specs.Prelude.{Option, Some, None, is_some, unwrap_or}
use Rattle.noise_names.specs.declared.token.Token.{Token}
use Rattle.noise_names.specs.declared.token.Token.TheVariants.{E, S, Es, Se, Ss, Psk}
use Rattle.noise_names.specs.declared.token.Role.{Role}
use Rattle.noise_names.specs.declared.token.Role.TheVariants.{Initiator, Responder}
use Rattle.noise_keys.specs.declared.keys.Own.{Own}
use Rattle.noise_keys.specs.KeyTokens.{own_at}
use Rattle.noise_handshake.specs.declared.faults.Cause.{Cause}
use Rattle.noise_handshake.specs.declared.faults.Cause.TheVariants.{Short, Tag, Agreement}
use Rattle.noise_state.specs.declared.symmetric.SymmetricState.{SymmetricState}
use Rattle.noise_state.specs.Symmetric.{initialize, mix_hash}
use Rattle.noise_handshake.specs.declared.remote.Remote.{Remote}
use Rattle.noise_handshake.specs.Message.{with_ephemeral, before_payload, after_tokens, message_bytes}
use Rattle.noise_names.specs.Tokens.{other, turn_from}
use Rattle.noise_names.specs.Plan.{Plan, pre_of, has_psk}

-- One party of a handshake. What it knows of the other's public keys grows with the messages.
pub record Party : Type 0 where
  pub pattern : Plan
  pub role : Role
  pub psks : List (List ℕ)  -- of the psk tokens that are still to come
  pub own : Own → Option (List ℕ)
  pub agree : Own → List ℕ → Option (List ℕ)
  pub remote : Remote
  pub passed : ℕ  -- messages
  pub state : SymmetricState
  pub ended : Bool  -- it neither reads nor writes any more

-- the tokens of message i, counted from 0
abbrev pub tokens_at : List (List Token) → ℕ → List Token
tokens_at [] i = []
tokens_at (tokens ∷ more) zero = tokens
tokens_at (tokens ∷ more) (suc i) = tokens_at more i

-- ---- the start (Noise 5.3, 9.2)

abbrev pub with_premessage : Bool → Remote → List Token → SymmetricState → SymmetricState
with_premessage has_psks p [] r = r
with_premessage has_psks p (E ∷ ts) r = with_premessage has_psks p ts (with_ephemeral has_psks r (unwrap_or p.e []))
with_premessage has_psks p (S ∷ ts) r = with_premessage has_psks p ts (mix_hash r (unwrap_or p.s []))
with_premessage has_psks p (_ ∷ ts) r = with_premessage has_psks p ts r

-- the prologue, and then the pre-message keys, the initiator's first
abbrev pub start : List ℕ → Plan → List ℕ → Remote → Remote → SymmetricState
start name pattern prologue initiator responder =
    let has_psks = has_psk pattern in
    with_premessage has_psks responder (pre_of Responder pattern) (with_premessage has_psks initiator
    (pre_of Initiator pattern)
    (mix_hash (initialize name) prologue))

-- ---- DH results (the table of Noise 5.3)

abbrev pub remote_at : Role → Remote → Token → Option (List ℕ)
remote_at Initiator p Es = p.s
remote_at Initiator p Ss = p.s
remote_at Responder p Se = p.s
remote_at Responder p Ss = p.s
remote_at _ p _ = p.e

abbrev pub dh_result_of : (Own → List ℕ → Option (List ℕ)) → Own → Option (List ℕ) → Option (List ℕ)
dh_result_of agree own None = None
dh_result_of agree own (Some key) = agree own key

-- ---- what tokens carry

-- what reading asks of the party: its role, whether the pattern has psk tokens, and its agreement
pub record Reader : Type 0 where
  pub role : Role
  pub has_psks : Bool
  pub agree : Own → List ℕ → Option (List ℕ)

abbrev pub reader : Party → Reader
reader v = record { role = v.role; has_psks = has_psk v.pattern; agree = v.agree }

abbrev pub first_psk : List (List ℕ) → List ℕ
first_psk [] = []
first_psk (psk ∷ psks) = psk

abbrev pub other_psks : List (List ℕ) → List (List ℕ)
other_psks [] = []
other_psks (psk ∷ psks) = psks

-- what a token of the other party may carry, when these keys of it are known and these psks are to come
abbrev pub Fits : Reader → Remote → List (List ℕ) → Token → List ℕ → Type 0
Fits v known psks E x = length x ≡ 32
Fits v known psks S x = length x ≡ 32
Fits v known psks Psk x = x ≡ first_psk psks
Fits v known psks dh x = dh_result_of v.agree (own_at v.role dh) (remote_at v.role known dh) ≡ Some x

-- the keys known after a token, and the psks still to come
abbrev pub known_after : Remote → Token → List ℕ → Remote
known_after known E x = record known { e = Some x }
known_after known S x = record known { s = Some x }
known_after known _ x = known

abbrev pub psks_after : List (List ℕ) → Token → List (List ℕ)
psks_after psks Psk = other_psks psks
psks_after psks _ = psks

-- one text for each token, each of which fits after those before it
abbrev pub Fit : Reader → Remote → List (List ℕ) → List Token → List (List ℕ) → Type 0
Fit v known psks [] [] = Unit {0}
Fit v known psks [] (x ∷ xs) = ⊥
Fit v known psks (t ∷ ts) [] = ⊥
Fit v known psks (t ∷ ts) (x ∷ xs) = Fits v known psks t x
    × Fit v (known_after known t x) (psks_after psks t) ts xs

-- the keys known after all tokens
abbrev pub remote_after : Remote → List Token → List (List ℕ) → Remote
remote_after known [] xs = known
remote_after known (t ∷ ts) [] = known
remote_after known (t ∷ ts) (x ∷ xs) = remote_after (known_after known t x) ts xs

-- ---- reading

abbrev pub tokens_now : Party → List Token
tokens_now v = tokens_at v.pattern.messages v.passed

-- a message of the other party is due
pub record Listens (v : Party) : Type 0 where
  pub going : v.ended ≡ false
  pub more : v.passed < length v.pattern.messages
  pub turn : turn_from Initiator v.passed ≡ other v.role

-- a message of this party is due
pub record Speaks (v : Party) : Type 0 where
  pub going : v.ended ≡ false
  pub more : v.passed < length v.pattern.messages
  pub turn : turn_from Initiator v.passed ≡ v.role

-- The message begins as some sender's tokens would that carry these texts, and this is left of it.
pub record BeginsAs (v : Reader) (known : Remote) (psks : List (List ℕ)) (r : SymmetricState) (ts : List Token)
    (xs : List (List ℕ))
    (message rest : List ℕ) : Type 0 where
  pub fit : Fit v known psks ts xs
  pub spelled : message ≡ before_payload v.has_psks r ts xs ++ rest

-- It begins as some sender's tokens would.
pub record CanBegin (v : Reader) (known : Remote) (psks : List (List ℕ)) (r : SymmetricState) (ts : List Token)
    (message : List ℕ) : Type 0 where
  pub carried : List (List ℕ)
  pub rest : List ℕ
  pub leads : BeginsAs v known psks r ts carried message rest

-- why reading stops at a token, with this left of the message
abbrev pub cause_of : Bool → Token → List ℕ → Cause
cause_of keyed E rest = Short
cause_of keyed S rest = if nat_lt (length rest) (if keyed then 48 else 32) then Short else Tag
cause_of keyed _ rest = Agreement

-- the same of token k; the payload is after the last
abbrev pub cause_at : Bool → List Token → ℕ → List ℕ → Cause
cause_at keyed [] k rest = if nat_lt (length rest) 16 then Short else Tag
cause_at keyed (t ∷ ts) zero rest = cause_of keyed t rest
cause_at keyed (t ∷ ts) (suc k) rest = cause_at keyed ts k rest

-- The message is one whose tokens carry these texts, with this payload.
pub record Reads (v : Reader) (known : Remote) (psks : List (List ℕ)) (r : SymmetricState) (ts : List Token)
    (message : List ℕ)
    (xs : List (List ℕ)) (payload : List ℕ) : Type 0 where
  pub fit : Fit v known psks ts xs
  pub spelled : message ≡ message_bytes v.has_psks r ts xs payload

-- Reading stops at token k: some sender's tokens before it lead there, and none's lead further. The payload counts as
-- the token after the last.
pub record Stops (v : Reader) (known : Remote) (psks : List (List ℕ)) (r : SymmetricState) (ts : List Token)
    (message : List ℕ)
    (k : ℕ) (cause : Cause) : Type 0 where
  pub within : k ≤ length ts
  pub carried : List (List ℕ)
  pub rest : List ℕ
  pub leads : BeginsAs v known psks r (take k ts) carried message rest
  pub further : k < length ts → CanBegin v known psks r (take (suc k) ts) message → ⊥
  pub unread : k ≡ length ts → (xs : List (List ℕ)) (payload : List ℕ) → Reads v known psks r ts message xs payload
      → ⊥
  pub why : cause ≡ cause_at (is_some ((after_tokens v.has_psks r (take k ts) carried).cipher.key)) ts k rest

-- The party accepts the message as this payload, where the tokens carry these texts.
pub record Accepts (v : Party) (message : List ℕ) (xs : List (List ℕ)) (payload : List ℕ) : Type 0 where
  pub listens : Listens v
  pub fits : length message ≤ 65535
  pub reads : Reads (reader v) v.remote v.psks v.state (tokens_now v) message xs payload

-- The party refuses the message at this token, for this cause.
pub record Refuses (v : Party) (message : List ℕ) (token : ℕ) (cause : Cause) : Type 0 where
  pub listens : Listens v
  pub stops : Stops (reader v) v.remote v.psks v.state (tokens_now v) message token cause
