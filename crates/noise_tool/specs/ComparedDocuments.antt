-- The document that `compare --json` writes.
use Rattle.std.specs.Prelude.{◌≡◌, ◌⊎◌, ℕ, Bool, List, [], Option, IfSome, codes, string_bytes}
use Rattle.noise_compare.specs.declared.comparison.LogReport.{LogReport}
use Rattle.noise_documents.specs.Comparison.{named_facts, refused_facts}
use Rattle.noise_json.specs.Documents.{document, document_text}
use Rattle.noise_json.specs.Json.{members_in}
use Rattle.noise_json.specs.declared.object.Object.{Object}
use Rattle.noise_words.specs.declared.orders.Compared.{Compared}
use Rattle.noise_words.specs.declared.orders.Documented.{Documented}
use Rattle.noise_words.specs.declared.orders.Documented.TheVariants as documented
use Rattle.noise_tool.specs.Answers.{AnswerValue}
use Rattle.noise_tool.specs.Comparing.{Compares, HasFacts, IsUncompared, StopsComparing, finding_status, uncompared_line}
use Rattle.noise_tool.specs.declared.comparison.Uncompared.{Uncompared}
use Rattle.serde_json.specs.Data.{Data, Members}

-- with these lines and facts, and the names of the log and the vector file
abbrev pub compared_document : Compared → ℕ → List ℕ → Members → Data
compared_document names status lines facts =
    document (codes "compare") status lines (named_facts (string_bytes names.log) (string_bytes names.file) facts)

-- of a log that is compared
pub record IsDocumentOf (names : Compared) (log file : Option (List ℕ)) (status : ℕ) (text : List ℕ) : Type 0 where
  pub report : LogReport
  pub facts : Object
  pub compares : IfSome log (λ l. IfSome file (λ f. Compares names.all l f report))
  pub found : IfSome log (λ l. IfSome file (λ f. HasFacts l f report facts))
  pub status_is : status ≡ finding_status report.finding
  pub text_is : text
      ≡ document_text (compared_document names (finding_status report.finding) report.text.items (members_in facts))

-- of a log or a file that is wrong: its lines are the one that says why
pub record IsRefusal (names : Compared) (log file : Option (List ℕ)) (status : ℕ) (text : List ℕ) : Type 0 where
  pub why : Uncompared
  pub is_why : IsUncompared names log file why
  pub status_is : status ≡ 2
  pub text_is : text ≡ document_text (compared_document names 2 (uncompared_line names why) refused_facts)

-- the document is printed; or the comparison ends with status 3
abbrev pub IsCompareDocument : Compared → (List ℕ → Option (List ℕ)) → (List ℕ → Bool) → AnswerValue → Type 0
IsCompareDocument names bytes_at unreadable told =
    ((told.err ≡ []) × (IsDocumentOf names (bytes_at (string_bytes names.log)) (bytes_at (string_bytes names.file))
    told.status told.out ⊎ IsRefusal names (bytes_at (string_bytes names.log)) (bytes_at (string_bytes names.file))
    told.status told.out))
    ⊎ StopsComparing names unreadable told

abbrev pub IsDocumentAnswer : Documented → (List ℕ → Option (List ℕ)) → (List ℕ → Bool) → AnswerValue → Type 0
IsDocumentAnswer (documented.Compare names) bytes_at unreadable told = IsCompareDocument names bytes_at unreadable told
