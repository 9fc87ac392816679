-- The steps of a message (Noise, 5.3): the bytes of each token and of the payload, and the key schedule after it.
use Rattle.std.specs.Prelude.{ℕ, ◌+◌, List, [], ◌∷◌, ◌++◌, length, take, Bool, slice_range}
use Rattle.noise_names.specs.declared.token.Token.{Token}
use Rattle.noise_names.specs.Plan.{has_psk}
use Rattle.noise_state.specs.declared.symmetric.SymmetricState.{SymmetricState}
use Rattle.noise_handshake.specs.Message.{token_bytes, after_token, before_payload, message_bytes, after_payload}
use Rattle.noise_handshake.specs.Party.{Party, tokens_now}
use Rattle.noise_trace.specs.declared.step.Part.{Part}
use Rattle.noise_trace.specs.declared.step.Part.TheVariants as part
use Rattle.noise_trace.specs.declared.step.Step.{Step}
use Rattle.noise_trace.specs.declared.values.StateValues.{StateValues}
use Rattle.noise_trace.specs.Values.{values_of}

-- a part of so many bytes, from this place on, with the state after it
abbrev pub step : Part → ℕ → ℕ → SymmetricState → Step
step which from width r = record { part = which; from = from; to = from + width; state = values_of r }

-- the steps of tokens that carry these texts, from this place on
abbrev pub token_steps : Bool → SymmetricState → ℕ → List Token → List (List ℕ) → List Step
token_steps has_psks r from [] xs = []
token_steps has_psks r from (t ∷ ts) [] = []
token_steps has_psks r from (t ∷ ts) (x ∷ xs) =
    step (part.Token t) from (length (token_bytes r t x)) (after_token has_psks r t x)
    ∷ token_steps has_psks (after_token has_psks r t x) (from + length (token_bytes r t x)) ts xs

-- the step of the payload
abbrev pub payload_step : Bool → SymmetricState → List Token → List (List ℕ) → List ℕ → Step
payload_step has_psks r ts xs payload = record {
  part = part.Payload;
  from = length (before_payload has_psks r ts xs);
  to = length (message_bytes has_psks r ts xs payload);
  state = values_of (after_payload has_psks r ts xs payload);
}

-- the steps of the whole message
abbrev pub message_steps : Bool → SymmetricState → List Token → List (List ℕ) → List ℕ → List Step
message_steps has_psks r ts xs payload = token_steps has_psks r 0 ts xs ++ payload_step has_psks r ts xs payload ∷ []

-- the steps of a party's next message, whose tokens carry these texts
abbrev pub next_steps : Party → List (List ℕ) → List ℕ → List Step
next_steps v xs payload = message_steps (has_psk v.pattern) v.state (tokens_now v) xs payload

-- those of its tokens before this one
abbrev pub steps_before : Party → ℕ → List (List ℕ) → List Step
steps_before v token xs = token_steps (has_psk v.pattern) v.state 0 (take token (tokens_now v)) xs

-- the state after the payload of that message
abbrev pub values_after_payload : Party → List (List ℕ) → List ℕ → StateValues
values_after_payload v xs payload = (payload_step (has_psk v.pattern) v.state (tokens_now v) xs payload).state

-- the bytes of the steps, joined
abbrev pub joined : List ℕ → List Step → List ℕ
joined message [] = []
joined message (s ∷ more) = slice_range message s.from s.to ++ joined message more
