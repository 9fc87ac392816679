-- Which fault of a setup is reported.
use Rattle.std.proofs.Common.{◌≡◌, ◌∙◌, refl, ap, sym, Option, Some, None, Result, Ok, Err}
use Rattle.noise_theorems.proofs.Common.{IsOk, MatchOption, IsReportedFault, or_next}
use Rattle.noise_keys.specs.declared.faults.SetupFault.{SetupFault}
use Rattle.noise_theorems.specs.declared.fault.ConversationFault.{ConversationFault}
use Rattle.noise_theorems.specs.declared.fault.ConversationFault.TheVariants.{Setup, Memory}

-- where something was made there is no fault, and else it is the one that is reported
pub none-found : {T : Type 0} (found : Option SetupFault) (result : Result T SetupFault) (value : T) → result ≡ Ok value
    → MatchOption found (IsOk result) (λ why. result ≡ Err why) → found ≡ None
none-found None result value is m = refl
none-found (Some why) result value is m = absurd (let bad = rw is at m in cc)

err-same : {T : Type 0} (a b : SetupFault) (result : Result T SetupFault) → result ≡ Err a → result ≡ Err b → a ≡ b
err-same a b result e f = let both = sym e ∙ f in cc

pub one-found : {T : Type 0} (found : Option SetupFault) (result : Result T SetupFault) (fault : SetupFault) → result ≡ Err fault
    → MatchOption found (IsOk result) (λ why. result ≡ Err why) → found ≡ Some fault
one-found None result fault is m = let bad = rw is at m in cc
one-found (Some why) result fault is m = ap Some (err-same why fault result m is)

pub first-reported : (found next : Option SetupFault) (fault : ConversationFault) → IsReportedFault found fault → IsReportedFault (or_next found next) fault
first-reported None next (Setup why) h = absurd (cc)
first-reported (Some first) next (Setup why) h = h
first-reported found next Memory h = tt

pub next-reported : (found next : Option SetupFault) (fault : ConversationFault) → found ≡ None → IsReportedFault next fault → IsReportedFault (or_next found next) fault
next-reported None next fault e h = h
next-reported (Some why) next fault e h = absurd (cc)

pub none-reported : (found next : Option SetupFault) → found ≡ None → next ≡ None → or_next found next ≡ None
none-reported None next e f = f
none-reported (Some why) next e f = e
