-- What a document says.
use Rattle.std.proofs.Common.{◌≡◌, inl, inr, Bool, subst, ℕ, List, Option, Some, None, Result, Ok, Err}
use Rattle.std.specs.Prelude.{IfOk}
use Rattle.noise_tool.proofs.Common.{EndsTest, Fault, IfSome}
use Rattle.noise_tool.specs.Answers.{AnswerValue, TellsFault}
use Rattle.noise_tool.specs.ComparedDocuments.{IsDocumentAnswer}
use Rattle.noise_words.specs.declared.orders.Documented.{Documented}
use Rattle.noise_words.specs.declared.orders.Documented.TheVariants as documented
use Rattle.noise_compare.specs.Findings.{IsReport}
use Rattle.noise_compare.specs.declared.comparison.Finding.{Finding}
use Rattle.noise_compare.specs.declared.comparison.Finding.TheVariants.{Agrees, Ends, Differs}
use Rattle.noise_compare.specs.declared.facts.Facts.{Facts}
use Rattle.noise_compare.specs.declared.line.Line.{Line}
use Rattle.noise_documents.specs.Comparison.{IsFindingOf}
use Rattle.noise_tool.specs.Comparing.{HasFacts, IfFacts}
use Rattle.noise_tool.specs.declared.comparison.Comparison.{Comparison}
use Rattle.noise_tool.specs.declared.comparison.Comparison.TheVariants.{Made, Unread, Wrong}

-- what was found is so
pub finding-of : (facts : Facts) (right log : List Line) (finding : Finding) (text : List ℕ) → IsReport facts right log finding text
    → IsFindingOf finding right log
finding-of facts right log Agrees text report = report.0
finding-of facts right log Ends text report = report.0
finding-of facts right log Differs text report = report.3.differs

-- what is said of a log and of a run of the file's text is said of their bytes, where these are known
pub facts-known : (r : Result Comparison Fault) (Runs : List ℕ → Type 0) (log file : Option (List ℕ)) (text : List ℕ)
    → IfSome log (λ bytes. text ≡ bytes) → IfSome file Runs
    → ((f : List ℕ) → Runs f → IfOk r (λ made. IfFacts made (HasFacts text f)))
    → IfOk r (λ made. IfFacts made (λ report facts. IfSome log (λ l. IfSome file (λ f. HasFacts l f report facts))))
facts-known (Err why) Runs log file text read runs made = tt
facts-known (Ok (Wrong why)) Runs log file text read runs made = tt
facts-known (Ok (Unread which)) Runs log file text read runs made = tt
facts-known (Ok (Made report facts)) Runs None file text read runs made = tt
facts-known (Ok (Made report facts)) Runs (Some bytes) None text read runs made = tt
facts-known (Ok (Made report facts)) Runs (Some bytes) (Some f) text read runs made =
    subst (λ (l : List ℕ). HasFacts l f report facts) read (made f runs)

-- a fault that ends a command that writes a document
pub tells-document : (asked : Documented) (bytes_at : List ℕ → Option (List ℕ)) (unreadable : List ℕ → Bool) (told : AnswerValue)
    → TellsFault EndsTest told → IsDocumentAnswer asked bytes_at unreadable told
tells-document (documented.Compare names) bytes_at unreadable told tells = inr (inl tells)
