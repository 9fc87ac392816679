-- A vector file has one run: files that say the same print the same lines.
use Rattle.std.specs.Prelude.{◌≡◌, ℕ, List}
use Rattle.noise_events.specs.Events.{events_of}
use Rattle.noise_vectors.specs.SameFile.{held_datagrams}
use Rattle.noise_vectors.specs.declared.vector.VectorFile.{VectorFile}
use Rattle.noise_run.specs.Running.{IsRunOf, datagrams_of_version}

-- Both files say the same of the ends and of what is done to them. Their headers, the pieces that frames come in, and
-- what they expect may differ.
pub record RunAlike (f g : VectorFile) : Type 0 where
  pub protocol : f.protocol ≡ g.protocol
  pub block : f.block ≡ g.block
  pub prologue : f.prologue.items ≡ g.prologue.items
  pub interval : f.interval ≡ g.interval
  pub psks : f.psks.items ≡ g.psks.items
  pub initiator : f.initiator ≡ g.initiator
  pub responder : f.responder ≡ g.responder
  pub events : events_of f.events.items ≡ events_of g.events.items
  pub datagrams : held_datagrams (datagrams_of_version f.version) ≡ held_datagrams (datagrams_of_version g.version)

-- files that say the same have the same lines, and so one file has one list of lines
abbrev pub OneRun : Type 0
OneRun = (f g : VectorFile) (xs ys : List (List ℕ)) → RunAlike f g → IsRunOf f xs → IsRunOf g ys → xs ≡ ys
