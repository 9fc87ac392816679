-- Which pattern the two ends of a file run, what each of them starts from, and why a file has no ends.
use Rattle.std.specs.Prelude.{◌≡◌, length, Option, Some, None, ⊤}
use Rattle.noise_names.specs.declared.token.Role.{Role}
use Rattle.noise_names.specs.declared.token.Role.TheVariants.{Initiator, Responder}
use Rattle.noise_names.specs.Tokens.{other}
use Rattle.noise_names.specs.Names.{Section}
use Rattle.noise_names.specs.Plan.{Plan}
use Rattle.noise_names.specs.Validity.{IsValid, IsFirstFault}
use Rattle.noise_handshake.specs.declared.remote.Remote.{Remote}
use Rattle.noise_keys.specs.declared.faults.SetupFault.{SetupFault}
use Rattle.noise_handshake.specs.HandshakeValue.{HandshakeValue}
use Rattle.noise_handshake.specs.Matching.{Matches}
use Rattle.noise_handshake.specs.Counterparts.{shown_before}
use Rattle.noise_handshake.specs.Setup.{setup_fault}
use Rattle.noise_handshake.specs.Party.{Party}
use Rattle.noise_duel.specs.Conversation.{sides_at_start}
use Rattle.noise_duel.specs.DuelValue.{DuelValue, DuelMatches}
use Rattle.noise_duel.specs.Messages.{Start, begun_as}
use Rattle.noise_duel.specs.Sides.{Sides}
use Rattle.noise_vectors.specs.FileKeys.{public_of, agreement_of}
use Rattle.noise_lines.specs.Named.{IsNamed, IsUnnamed}
use Rattle.noise_lines.specs.declared.faults.Fault.{Fault}
use Rattle.noise_lines.specs.declared.faults.Fault.TheVariants.{Rule, Setup, Memory}
use Rattle.noise_vectors.specs.declared.file_keys.FileKeys.{FileKeys}
use Rattle.noise_vectors.specs.declared.vector.VectorFile.{VectorFile}
use Rattle.noise_vectors.specs.FileKeys.{pairs_of}

-- the pattern is the one that a file spells, or else that of its protocol's name
abbrev pub IsFilePattern : Option Plan → Section → Plan → Type 0
IsFilePattern (Some block) name plan = plan ≡ block
IsFilePattern None name plan = IsNamed name plan

-- why there is no valid one: there is none, or it breaks a rule
abbrev pub IsFilePatternFault : Option Plan → Section → Fault → Type 0
IsFilePatternFault block name (Rule fault) = (plan : Plan) × IsFilePattern block name plan × IsFirstFault plan fault
IsFilePatternFault None name fault = IsUnnamed name fault
IsFilePatternFault (Some block) name fault = ⊥

abbrev pub keys_of_role : VectorFile → Role → FileKeys
keys_of_role file Initiator = file.initiator
keys_of_role file Responder = file.responder

abbrev pub known_to : VectorFile → Plan → Role → Remote
known_to file plan role = shown_before plan (other role) (public_of (keys_of_role file (other role)))

-- what a party starts from
abbrev pub file_start : VectorFile → Plan → Role → Start
file_start file plan role = record {
  prologue = file.prologue.items;
  own = public_of (keys_of_role file role);
  agree = agreement_of (keys_of_role file role);
  remote = known_to file plan role;
  psks = file.psks.items;
}

-- a party with a file's keys, and two of them
abbrev pub FileMatches : HandshakeValue FileKeys → Party → Type 0
FileMatches h v = Matches pairs_of h v

abbrev pub FileDuelMatches : DuelValue FileKeys FileKeys → Sides → Type 0
FileDuelMatches duel d = DuelMatches pairs_of pairs_of duel d

-- both ends before the first message, by this pattern
abbrev pub sides_of_file : VectorFile → Plan → Sides
sides_of_file file plan =
    sides_at_start plan (file_start file plan Initiator) (file_start file plan Responder) file.interval file.interval

-- what is wrong with it, if anything is
abbrev pub setup_of : VectorFile → Plan → Role → Option SetupFault
setup_of file plan role =
    setup_fault plan role (public_of (keys_of_role file role)) (known_to file plan role) (length file.psks.items)

-- the plan is the file's valid pattern, and nothing is wrong with either setup
pub record IsPlanOf (file : VectorFile) (plan : Plan) : Type 0 where
  pub pattern : IsFilePattern file.block file.protocol plan
  pub valid : IsValid plan
  pub set_up : (role : Role) → setup_of file plan role ≡ None

-- the two ends start from what the file says
pub record AreEnds (file : VectorFile) (duel : DuelValue FileKeys FileKeys) : Type 0 where
  pub plan : Plan
  pub of_file : IsPlanOf file plan
  pub matches : FileDuelMatches duel (sides_of_file file plan)

-- and so do the handshakes of both
pub record AreHandshakes (file : VectorFile) (first second : HandshakeValue FileKeys) : Type 0 where
  pub plan : Plan
  pub of_file : IsPlanOf file plan
  pub initiator : FileMatches first (begun_as plan Initiator (file_start file plan Initiator))
  pub responder : FileMatches second (begun_as plan Responder (file_start file plan Responder))

-- by a valid pattern of the file, this is wrong with the setups
abbrev pub HasSetupFault : VectorFile → Role → SetupFault → Plan → Type 0
HasSetupFault file Initiator fault plan = setup_of file plan Initiator ≡ Some fault
HasSetupFault file Responder fault plan =
    (setup_of file plan Initiator ≡ None) × (setup_of file plan Responder ≡ Some fault)

-- why a file has no ends: its pattern, then the initiator's setup, then the responder's, the first of these
abbrev pub IsStartFault : VectorFile → Fault → Type 0
IsStartFault file (Setup role fault) =
    (plan : Plan) × IsFilePattern file.block file.protocol plan × IsValid plan × HasSetupFault file role fault plan
IsStartFault file Memory = ⊤
IsStartFault file fault = IsFilePatternFault file.block file.protocol fault
