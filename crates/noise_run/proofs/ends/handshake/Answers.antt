use Rattle.std.proofs.Common.{◌≡◌, refl, Option, Some, None, Result, Ok, Err}
use Rattle.std.specs.Option.{option_map}
use Rattle.noise_run.proofs.Common.{IsOk, MatchOption, Role, Setup}
use Rattle.noise_keys.specs.declared.faults.SetupFault.{SetupFault}
use Rattle.noise_run.proofs.ends.handshake.Goals as goal

module _ {T : Type 0} (role : Role) where
  made : (found : Option SetupFault) (result : Result T SetupFault) (value : T) → result ≡ Ok value
      → MatchOption found (IsOk result) (λ (why : SetupFault). result ≡ Err why) → None ≡ option_map (λ (why : SetupFault). Setup role why) found
  made None result value is m = refl
  made (Some why) result value is m = absurd (cc)

  refused : (found : Option SetupFault) (result : Result T SetupFault) (fault : SetupFault) → result ≡ Err fault
      → MatchOption found (IsOk result) (λ (why : SetupFault). result ≡ Err why)
      → Some (Setup role fault) ≡ option_map (λ (why : SetupFault). Setup role why) found
  refused None result fault is m = absurd (let bad = rw is at m in cc)
  refused (Some why) result fault is m = cc

pub returns-in-Ok-clause-fault : goal.returns-in-Ok-clause-fault
returns-in-Ok-clause-fault c = made c.args.role _ (Ok c.in-Ok.handshake) c.in-Ok.handshake refl c.in-Ok.ensures.fault

pub returns-in-Err-clause-fault : goal.returns-in-Err-clause-fault
returns-in-Err-clause-fault c = refused c.args.role _ (Err c.in-Err.fault) c.in-Err.fault refl c.in-Err.ensures.fault
