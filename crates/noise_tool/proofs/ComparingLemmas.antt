-- What comes of a log and a vector file.
use Rattle.std.proofs.Common.{◌≡◌, subst, ℕ, Bool, List, Option, Some, None, Result, Ok, Err}
use Rattle.std.specs.Prelude.{IfOk}
use Rattle.noise_tool.proofs.Common.{IfSome, Fault}
use Rattle.noise_tool.specs.Comparing.{Compares, IfMade}
use Rattle.noise_tool.specs.declared.comparison.Comparison.{Comparison}
use Rattle.noise_tool.specs.declared.comparison.Comparison.TheVariants.{Made, Unread, Wrong}

-- what is made of a log and of a run of the file's text is the report on their bytes, where these are known
pub made-known : (all : Bool) (r : Result Comparison Fault) (Runs Gives : List ℕ → Type 0) (log file : Option (List ℕ)) (text : List ℕ)
    → IfSome log (λ bytes. text ≡ bytes) → IfSome file Runs → IfSome file Gives
    → ((f : List ℕ) → Runs f → Gives f → IfOk r (λ made. IfMade made (Compares all text f)))
    → IfOk r (λ made. IfMade made (λ report. IfSome log (λ l. IfSome file (λ f. Compares all l f report))))
made-known all (Err why) Runs Gives log file text read runs gives made = tt
made-known all (Ok (Wrong why)) Runs Gives log file text read runs gives made = tt
made-known all (Ok (Unread which)) Runs Gives log file text read runs gives made = tt
made-known all (Ok (Made report facts)) Runs Gives None file text read runs gives made = tt
made-known all (Ok (Made report facts)) Runs Gives (Some bytes) None text read runs gives made = tt
made-known all (Ok (Made report facts)) Runs Gives (Some bytes) (Some f) text read runs gives made = subst (λ (l : List ℕ). Compares all l f report) read (made f runs gives)
