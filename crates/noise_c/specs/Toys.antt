-- Two programs with keys for tests, so that the law of two programs speaks of something.
use Rattle.std.specs.Prelude.{ℕ, List, [], ◌∷◌, ◌++◌, None, replicate}
use Rattle.noise_names.specs.Plan.{Plan}
use Rattle.noise_keys.specs.declared.xor_keys.XorKeys.{XorKeys}
use Rattle.noise_handshake.specs.Counterparts.{xor_agreement}
use Rattle.noise_c.specs.declared.structs.NoiseHandshake.{NoiseHandshake}
use Rattle.noise_c.specs.declared.structs.NoiseSetup.{NoiseSetup}
use Rattle.noise_c.specs.HandshakeStructs.{key_to_c}
use Rattle.noise_c.specs.TwoPrograms.{Calls, Passed, Secrets}

-- what such a program hands to `noise_start`: its role and its public keys
abbrev pub toy_setup : ℕ → XorKeys → NoiseSetup
toy_setup responder keys = record {
  responder = responder;
  e = key_to_c keys.e;
  s = key_to_c keys.s;
  remote_e = key_to_c None;
  remote_s = key_to_c None;
  psk_count = 0;
  psks = replicate 9 (replicate 32 0);
}

-- its DH results, and no psks
abbrev pub toy_secrets : XorKeys → Secrets
toy_secrets keys = record { dh_results = xor_agreement keys; psks = [] }

-- Calls of such a program lead from one struct to another, with these messages written and read.
abbrev pub Leads : XorKeys → NoiseHandshake → List Passed → List Passed → NoiseHandshake → Type 0
Leads keys old written read new = (p : Plan) (ws rs : List Passed) (last : NoiseHandshake)
    → Calls p (toy_secrets keys) new ws rs last → Calls p (toy_secrets keys) old (written ++ ws) (read ++ rs) last

-- A message with this payload went from one program to the other, which was handed that one.
pub record Passes (keys their_keys : XorKeys) (payload handed : List ℕ) (from sent to taken : NoiseHandshake)
    : Type 0 where
  pub message : List ℕ
  pub writes : Leads keys from (record { message = message; payload = payload } ∷ []) [] sent
  pub reads : Leads their_keys to [] (record { message = message; payload = handed } ∷ []) taken
