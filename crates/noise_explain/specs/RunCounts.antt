-- What is counted of the acts of a run's parties.
use Rattle.std.specs.Prelude.{◌≡◌, ℕ, List, Bool, true, false, Some, None, if◌then◌else◌, length, take, drop}
use Rattle.std.specs.List.{count_by, filter, filter_map}
use Rattle.noise_names.specs.Tokens.{same_role}
use Rattle.noise_names.specs.declared.token.Role.{Role}
use Rattle.noise_names.specs.declared.token.Role.TheVariants.{Initiator, Responder}
use Rattle.noise_explain.specs.declared.run_counts.Act.{Act}
use Rattle.noise_explain.specs.declared.run_counts.Act.TheVariants.{Wrote, Accepted, Dropped, Sealed, Opened, Rejected}
use Rattle.noise_explain.specs.declared.run_counts.PartyCounts.{PartyCounts}
use Rattle.noise_explain.specs.declared.run_counts.RunCounts.{RunCounts}

abbrev pub same_act : Act → Act → Bool
same_act Wrote Wrote = true
same_act Accepted Accepted = true
same_act Dropped Dropped = true
same_act Sealed Sealed = true
same_act Opened Opened = true
same_act Rejected Rejected = true
same_act _ _ = false

-- how often this is among the acts of a party
abbrev pub count_of : Act → List Act → ℕ
count_of act acts = count_by (same_act act) acts

-- whether it passes a message: the party wrote or accepted one
abbrev pub passes : Act → Bool
passes Wrote = true
passes Accepted = true
passes _ = false

-- the messages that a party passed, in order; the first so many are those of the handshake
abbrev pub passed_in : List Act → List Act
passed_in acts = filter passes acts

-- the acts of the party of this role
abbrev pub acts_by : Role → List (Role × Act) → List Act
acts_by role acts = filter_map (λ a. if same_role a.0 role then Some a.1 else None) acts

-- what each count of a party counts of its acts, in a run whose handshake has so many messages
pub record CountsParty (messages : ℕ) (acts : List Act) (counts : PartyCounts) : Type 0 where
  pub passed : counts.passed ≡ length (take messages (passed_in acts))
  pub wrote : counts.wrote ≡ count_of Wrote (take messages (passed_in acts))
  pub accepted : counts.accepted ≡ count_of Accepted (take messages (passed_in acts))
  pub sent : counts.sent ≡ count_of Wrote (drop messages (passed_in acts))
  pub received : counts.received ≡ count_of Accepted (drop messages (passed_in acts))
  pub dropped : counts.dropped ≡ count_of Dropped acts
  pub sealed : counts.sealed ≡ count_of Sealed acts
  pub opened : counts.opened ≡ count_of Opened acts
  pub rejected : counts.rejected ≡ count_of Rejected acts

-- the counts of both parties are those of these acts
pub record CountsRun (messages : ℕ) (acts : List (Role × Act)) (counts : RunCounts) : Type 0 where
  pub messages_are : counts.messages ≡ messages
  pub initiator : CountsParty messages (acts_by Initiator acts) counts.initiator
  pub responder : CountsParty messages (acts_by Responder acts) counts.responder
