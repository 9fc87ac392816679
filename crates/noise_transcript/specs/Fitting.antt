-- Vector files whose lines come through.
use Rattle.std.specs.Prelude.{◌≡◌, ⊤, ℕ, List, None, true}
use Rattle.noise_names.specs.declared.token.Role.{Role}
use Rattle.noise_names.specs.Limits.{IsPattern}
use Rattle.noise_names.specs.Plan.{Plan}
use Rattle.noise_names.specs.Validity.{IsValid}
use Rattle.noise_events.specs.Events.{events_of}
use Rattle.noise_duel.specs.Conversation.{say_events}
use Rattle.noise_theorems.specs.FittingMessages.{messages_fit_from}
use Rattle.noise_vectors.specs.VectorFile.{IsVectorFile}
use Rattle.noise_vectors.specs.declared.file_keys.FileKeys.{FileKeys}
use Rattle.noise_vectors.specs.declared.file_keys.FileKeys.TheVariants.{Xor, Table}
use Rattle.noise_vectors.specs.declared.vector.VectorFile.{VectorFile}
use Rattle.noise_run.specs.Ends.{IsFilePattern, setup_of}
use Rattle.noise_run.specs.Running.{datagrams_of_version}

-- keys whose DH is the xor of bytes
abbrev pub IsXor : FileKeys → Type 0
IsXor (Xor keys) = ⊤
IsXor (Table keys) = ⊥

-- A right vector file with `xor` keys of both parties, whose pattern is this valid one, and nothing is wrong with
-- either setup. Its events say these lines and nothing else, no datagrams follow, and the lines fit.
pub record HasFittingMessages (file : VectorFile) (p : Plan) (lines : List (Role × List ℕ)) : Type 0 where
  pub right : IsVectorFile file
  pub initiator : IsXor file.initiator
  pub responder : IsXor file.responder
  pub named : IsFilePattern file.block file.protocol p
  pub pattern : IsPattern p
  pub valid : IsValid p
  pub set_up : (role : Role) → setup_of file p role ≡ None
  pub said : events_of file.events.items ≡ say_events lines
  pub alone : datagrams_of_version file.version ≡ None
  pub fit : messages_fit_from p 0 lines ≡ true
