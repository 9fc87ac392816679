-- What is said of vector files.
use Rattle.std.proofs.Common.{◌≡◌, ◌∙◌, subst, true, inl, ℕ, Bool, List, Option, Some, None}
use Rattle.std.specs.Prelude.{IfOk, Result, Ok, Err}
use Rattle.noise_tool.proofs.Common.{IfSome, Fault, IsVectorFile, file_text, VectorFile, IsExplainedFile, IsExplainedRun, IsExplainedText, IsExplainedVector}
use Rattle.noise_explain.specs.VectorExplained.{is_vector_text}
use Rattle.noise_explain.specs.declared.explanation.Explained.{Explained}

-- a right file is reported
pub file-said : (name text : List ℕ) (file : VectorFile) (r : Result Explained Fault) → IsVectorFile file → text ≡ file_text file
    → IfOk r (IsExplainedRun name file) → IfOk r (IsExplainedVector name text)
file-said name text file (Ok e) right is said = inl (record { file = file; right = right; text_is = is; said = said })
file-said name text file (Err why) right is said = tt

-- by the first word
pub vector-said : (fixes : Bool) (name text : List ℕ) (r : Result Explained Fault) → is_vector_text text ≡ true → IfOk r (IsExplainedVector name text)
    → IfOk r (IsExplainedText fixes name text)
vector-said fixes name text (Ok e) is said = inl (is, said)
vector-said fixes name text (Err why) is said = tt

-- of the bytes that are known
pub bytes-said : (fixes : Bool) (known : Option (List ℕ)) (name text items : List ℕ) (e : Explained) → text ≡ items → IfSome known (λ bytes. items ≡ bytes)
    → IsExplainedText fixes name text e → IsExplainedFile fixes known name e
bytes-said fixes None name text items e is same said = tt
bytes-said fixes (Some bytes) name text items e is same said = inl (subst (λ (t : List ℕ). IsExplainedText fixes name t e) (is ∙ same) said)
