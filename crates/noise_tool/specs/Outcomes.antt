-- What the command line does, by the exit status: what was printed and reported, whatever the status is. The bytes of
-- the files, and of both outputs before and after, are said each where they are known.
use Rattle.std.specs.Prelude.{◌≡◌, ◌⊎◌, ℕ, Bool, List, Option, map, string_bytes}
use Rattle.noise_lines.specs.Prefixes.{AppendsPrefix}
use Rattle.noise_lines.specs.Reported.{error_text}
use Rattle.noise_lines.specs.declared.faults.Fault.{Fault}
use Rattle.noise_tool.specs.Answers.{Outcome}
use Rattle.noise_tool.specs.ComparedDocuments.{IsDocumentAnswer}
use Rattle.noise_tool.specs.Comparing.{IsCompareAnswer}
use Rattle.noise_tool.specs.Explaining.{IsExplainAnswer}
use Rattle.noise_tool.specs.Filling.{IsFillAnswer}
use Rattle.noise_tool.specs.Performing.{IsCommandAnswer}
use Rattle.noise_tool.specs.Testing.{EndsTest, TestsFiles, TestsPrefix}
use Rattle.noise_words.specs.declared.orders.Chosen.{Chosen}
use Rattle.noise_words.specs.declared.orders.Compared.{Compared}
use Rattle.noise_words.specs.declared.orders.Documented.{Documented}
use Rattle.noise_words.specs.declared.orders.Explained.{Explained}
use Rattle.noise_words.specs.declared.orders.Filled.{Filled}
use Rattle.noise_words.specs.declared.orders.Tested.{Tested}

-- a fault of this status is reported, if not all of its line
abbrev pub ReportsOutside : (Fault → Type 0) → Option (List ℕ) → Option (List ℕ) → Type 0
ReportsOutside Is before after = (fault : Fault) × Is fault × AppendsPrefix before after (error_text fault)

module _ {O E : Type 0} (printed : O → Option (List ℕ)) (reported : E → Option (List ℕ))
    (bytes_at : List ℕ → Option (List ℕ)) (unreadable : List ℕ → Bool) where
  -- of a command on at most one file: what it does, and the faults that it has, are those of the file's bytes
  abbrev pub CommandOutcome : Chosen → O → O → E → E → ℕ → Type 0
  CommandOutcome chosen = Outcome printed reported (IsCommandAnswer bytes_at unreadable chosen)

  -- of `test`
  pub record TestOutcome (asked : Tested) (out out_after : O) (err err_after : E) (status : ℕ) : Type 0 where
    pub tested : (status ≡ 3)
        ⊎ TestsFiles asked bytes_at unreadable (printed out) (printed out_after) err err_after status
    pub outside : status ≡ 3 → ReportsOutside EndsTest (reported err) (reported err_after)
    pub prefix : TestsPrefix asked.traces bytes_at unreadable (map string_bytes asked.files.items) (printed out)
        (printed out_after)

  -- of `explain`
  abbrev pub ExplainOutcome : Explained → O → O → E → E → ℕ → Type 0
  ExplainOutcome asked =
      Outcome printed reported (IsExplainAnswer asked.fixes bytes_at unreadable (map string_bytes asked.files.items))

  -- of `compare`
  abbrev pub CompareOutcome : Compared → O → O → E → E → ℕ → Type 0
  CompareOutcome names = Outcome printed reported (IsCompareAnswer names bytes_at unreadable)

  -- of a command that writes a document
  abbrev pub DocumentOutcome : Documented → O → O → E → E → ℕ → Type 0
  DocumentOutcome asked = Outcome printed reported (IsDocumentAnswer asked bytes_at unreadable)

  -- of `template` with a file of values
  abbrev pub FillOutcome : Filled → O → O → E → E → ℕ → Type 0
  FillOutcome names = Outcome printed reported (IsFillAnswer names bytes_at unreadable)
