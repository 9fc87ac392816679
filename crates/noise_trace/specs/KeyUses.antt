-- The keys that one call of an end uses (Noise 5.2, 5.3 and 11.3).
use Rattle.std.specs.Prelude.{ℕ, ◌+◌, nat_lt, List, Option, Some, None, if◌then◌else◌}
use Rattle.noise_names.specs.declared.token.Role.{Role}
use Rattle.noise_names.specs.Tokens.{other}
use Rattle.noise_state.specs.declared.symmetric.SymmetricState.{SymmetricState}
use Rattle.noise_state.specs.Symmetric.{initiator_key, responder_key}
use Rattle.noise_handshake.specs.Party.{Party}
use Rattle.noise_handshake.specs.Matching.{after_own}
use Rattle.noise_trace.specs.declared.step.Step.{Step}
use Rattle.noise_trace.specs.Following.{is_complete}
use Rattle.noise_trace.specs.Steps.{next_steps, steps_before}
use Rattle.noise_trace.specs.Values.{values_of}
use Rattle.noise_session.specs.Transport.{rekeys, transport_key}
use Rattle.noise_session.specs.Ends.{EndState}
use Rattle.noise_trace.specs.declared.key_use.KeyUse.{KeyUse}
use Rattle.noise_trace.specs.declared.key_use.KeyUse.TheVariants as key_use
use Rattle.noise_trace.specs.declared.opening.Opening.{Opening}

-- a `KeyUse`, with its steps as a list
pub data KeyUseValue : Type 0 where
  Nothing : KeyUseValue
  Message : List Step → Option Opening → KeyUseValue
  Transport : ℕ → List ℕ → Option (List ℕ) → KeyUseValue

abbrev pub use_value : KeyUse → KeyUseValue
use_value key_use.Nothing = Nothing
use_value (key_use.Message steps opening) = Message steps.items opening
use_value (key_use.Transport nonce key renewed) = Transport nonce key renewed

-- ---- the handshake

-- the keys of Split, of a state
abbrev pub opening_of : SymmetricState → Opening
opening_of r = record { state = values_of r; initiator = initiator_key r; responder = responder_key r }

-- those of a party, once all handshake messages have passed
abbrev pub opening_in : Party → Option Opening
opening_in v = if is_complete v then Some (opening_of v.state) else None

-- a handshake message, written or accepted, whose tokens carry these texts; with the opening, if it is the last one
abbrev pub message_use : EndState → List (List ℕ) → List ℕ → KeyUseValue
message_use v xs payload = Message (next_steps v.party xs payload) (opening_in (after_own v.party xs payload))

-- a handshake message that stops at this token, where those before it carry these texts
abbrev pub stopped_use : EndState → ℕ → List (List ℕ) → KeyUseValue
stopped_use v token xs = Message (steps_before v.party token xs) None

-- ---- transport

-- the key from the message after message n on, where it is rekeyed between the two
abbrev pub rekeyed_after : SymmetricState → Role → ℕ → ℕ → Option (List ℕ)
rekeyed_after r writer interval n = if nat_lt (rekeys interval n) (rekeys interval (n + 1))
    then Some (transport_key r writer interval (n + 1)) else None

-- message n of a writer
abbrev pub counted_use : SymmetricState → Role → ℕ → ℕ → KeyUseValue
counted_use r writer interval n = Transport n (transport_key r writer interval n) (rekeyed_after r writer interval n)

-- a message at nonce n that doesn't count: the nonce and the key stay
abbrev pub uncounted_use : SymmetricState → Role → ℕ → ℕ → KeyUseValue
uncounted_use r writer interval n = Transport n (transport_key r writer interval n) None

-- the message that an end writes next, and the one that it opens next
abbrev pub sent_use : EndState → KeyUseValue
sent_use v = counted_use v.party.state v.party.role v.interval v.sent

abbrev pub opened_use : EndState → KeyUseValue
opened_use v = counted_use v.party.state (other v.party.role) v.interval v.received

-- a message that an end was to open next, and dropped
abbrev pub tried_use : EndState → KeyUseValue
tried_use v = uncounted_use v.party.state (other v.party.role) v.interval v.received

-- the keys that the session of a party opened with, the initiator's first, once it has
abbrev pub keys_in : Party → Option (List ℕ × List ℕ)
keys_in v = if is_complete v then Some (initiator_key v.state, responder_key v.state) else None
