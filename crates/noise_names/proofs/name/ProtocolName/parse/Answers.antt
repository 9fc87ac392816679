use Rattle.std.proofs.Common.{◌≡◌, ℕ, List, Result, Ok, Err, sym, ◌∙◌}
use Rattle.noise_names.proofs.Common.{IfOk, IfErr, NameFault, Section, Names, IsFirstNameFault, name_read}
use Rattle.noise_names.proofs.ProtocolNames.{name_spelled, name_every, name_fault}
use Rattle.noise_names.proofs.name.ProtocolName.parse.Goals as goal

named : (bytes : List ℕ) (read : Result Section NameFault) → read ≡ name_read bytes → IfOk read (λ s. Names bytes s)
named bytes (Ok s) e = name_spelled bytes s (sym e)
named bytes (Err fault) e = tt

reported : (bytes : List ℕ) (read : Result Section NameFault) → read ≡ name_read bytes → IfErr read (λ fault. IsFirstNameFault bytes fault)
reported bytes (Ok s) e = tt
reported bytes (Err fault) e = name_fault bytes fault (sym e)

pub returns-clause-named : goal.returns-clause-named
returns-clause-named c = named c.args.bytes.now c.read_name.result c.read_name.ensures

pub returns-clause-every : goal.returns-clause-every
returns-clause-every c = λ s h. c.read_name.ensures ∙ name_every c.args.bytes.now s h

pub returns-clause-fault : goal.returns-clause-fault
returns-clause-fault c = reported c.args.bytes.now c.read_name.result c.read_name.ensures
