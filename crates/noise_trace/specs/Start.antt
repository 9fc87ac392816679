-- The steps of the start (Noise, 5.3): the name, the prologue, and each public key of the pre-messages.
use Rattle.std.specs.Prelude.{ℕ, List, [], ◌∷◌, ◌++◌, Bool, unwrap_or}
use Rattle.noise_names.specs.declared.token.Token.{Token}
use Rattle.noise_names.specs.declared.token.Token.TheVariants.{E, S}
use Rattle.noise_names.specs.declared.token.Role.{Role}
use Rattle.noise_names.specs.declared.token.Role.TheVariants.{Initiator, Responder}
use Rattle.noise_names.specs.Plan.{Plan, pre_of, has_psk}
use Rattle.noise_names.specs.Names.{name_bytes}
use Rattle.noise_state.specs.declared.symmetric.SymmetricState.{SymmetricState}
use Rattle.noise_state.specs.Symmetric.{initialize, mix_hash}
use Rattle.noise_handshake.specs.declared.remote.Remote.{Remote}
use Rattle.noise_handshake.specs.Message.{with_ephemeral}
use Rattle.noise_handshake.specs.Setup.{keys_of}
use Rattle.noise_handshake.specs.Party.{with_premessage}
use Rattle.noise_trace.specs.declared.start_step.StartPart.{StartPart}
use Rattle.noise_trace.specs.declared.start_step.StartPart.TheVariants as part
use Rattle.noise_trace.specs.declared.start_step.StartStep.{StartStep}
use Rattle.noise_trace.specs.declared.values.StateValues.{StateValues}
use Rattle.noise_trace.specs.Values.{values_of}

-- a part of the start, with the state after it
abbrev pub start_step : StartPart → SymmetricState → StartStep
start_step which r = record { part = which; state = values_of r }

-- the steps of the keys of a party's pre-message
abbrev pub key_steps : Bool → Role → Remote → List Token → SymmetricState → List StartStep
key_steps has_psks party keys [] r = []
key_steps has_psks party keys (E ∷ ts) r =
    start_step (part.Key party E) (with_ephemeral has_psks r (unwrap_or keys.e []))
    ∷ key_steps has_psks party keys ts (with_ephemeral has_psks r (unwrap_or keys.e []))
key_steps has_psks party keys (S ∷ ts) r =
    start_step (part.Key party S) (mix_hash r (unwrap_or keys.s []))
    ∷ key_steps has_psks party keys ts (mix_hash r (unwrap_or keys.s []))
key_steps has_psks party keys (_ ∷ ts) r = key_steps has_psks party keys ts r

-- the state after a pattern's name alone
abbrev pub after_name : Plan → SymmetricState
after_name p = initialize (name_bytes (record { base = p.base; places = p.places }))

-- the state after the prologue
abbrev pub after_prologue : Plan → List ℕ → SymmetricState
after_prologue p prologue = mix_hash (after_name p) prologue

-- the steps of the keys of both pre-messages, the initiator's first
abbrev pub pre_steps : Plan → Remote → Remote → SymmetricState → List StartStep
pre_steps p initiator responder r =
    key_steps (has_psk p) Initiator initiator (pre_of Initiator p) r
    ++ key_steps (has_psk p) Responder responder (pre_of Responder p)
    (with_premessage (has_psk p) initiator (pre_of Initiator p) r)

-- the steps of the start, for a role with these keys of its own and these of the other party
abbrev pub start_steps : Plan → Role → List ℕ → Remote → Remote → List StartStep
start_steps p role prologue own remote =
    start_step part.Name (after_name p) ∷ start_step part.Prologue (after_prologue p prologue)
    ∷ pre_steps p (keys_of Initiator role own remote) (keys_of Responder role own remote) (after_prologue p prologue)

-- the values after steps, when these are the values before them
abbrev pub values_after : StateValues → List StartStep → StateValues
values_after before [] = before
values_after before (s ∷ more) = values_after s.state more
