-- A conversion that is replayed meets what it expects.
use Rattle.std.proofs.Common.{rules, ◌≡◌, ◌∙◌, ap, sym, refl, subst, ℕ, Vec, List, [], ◌∷◌, None, codes}
use Rattle.noise_run.proofs.Common.{Global, All, bytes_of, IsExpected, IsVectorFile, expect_line, expect_words, line_then, lines_of, text_body, file_text, VectorFile, SaySame, VectorTextsAreUnique, expected_of, IsRunOf, expected_in}
use Rattle.noise_vectors.specs.declared.vector.Version.{Version}
use Rattle.noise_vectors.specs.declared.vector.Version.TheVariants.{One, Two}
use Rattle.noise_run.specs.Conversion.{ConversionsMeetThemselves}
use Rattle.noise_run.specs.OneRun.{OneRun, RunAlike}
use Rattle.noise_lines.specs.Converted.{converted_text}
use Rattle.noise_run.proofs.OneRunLemmas.{run-moves}

-- the file of version 2 that expects these lines
abbrev converted : VectorFile → Vec (Vec ℕ Global) Global → VectorFile
converted file lines = record file { version = Two (record { datagrams = None; expected = lines }) }

converted-right : (file : VectorFile) (lines : Vec (Vec ℕ Global) Global) → IsVectorFile file → All (λ words. IsExpected words.items) lines.items
    → IsVectorFile (converted file lines)
converted-right file lines right printed = search

expect-lines : (lines : List (Vec ℕ Global)) → lines_of expect_words lines [] ≡ lines_of expect_line (bytes_of lines) []
expect-lines [] = refl
expect-lines (l ∷ ls) = ap (λ (rest : List ℕ). line_then (expect_line l.items) rest) (expect-lines ls)

converted-text : (file : VectorFile) (lines : Vec (Vec ℕ Global) Global) → file_text (converted file lines) ≡ converted_text file (bytes_of lines.items)
converted-text file lines = ap (λ (rest : List ℕ). line_then (codes "vector 2") (text_body file rest)) (expect-lines lines.items)

-- ---- the two ways to name what a version has

expected-same : (v : Version) → expected_of v ≡ expected_in v
expected-same One = refl
expected-same (Two additions) = refl

-- ---- a file of the conversion's text

run-alike : (file other : VectorFile) (lines : Vec (Vec ℕ Global) Global) → file.version ≡ One → SaySame (converted file lines) other → RunAlike file other
run-alike file other lines one same = search rules

says-same : VectorTextsAreUnique → (file other : VectorFile) (lines : Vec (Vec ℕ Global) Global) → IsVectorFile file
    → All (λ words. IsExpected words.items) lines.items → IsVectorFile other → converted_text file (bytes_of lines.items) ≡ file_text other
    → SaySame (converted file lines) other
says-same unique file other lines right printed also e = search converted-text

pub conversions-meet : VectorTextsAreUnique → OneRun → ConversionsMeetThemselves
conversions-meet unique once file lines right one printed run = record {
  readable = (converted file lines, converted-right file lines right printed, sym (converted-text file lines));
  expects = λ other also e.
      sym (expected-same other.version) ∙ sym (says-same unique file other lines right printed also e).expected;
  runs = λ other also e others.
      let alike = run-alike file other lines one (says-same unique file other lines right printed also e) in (
        (λ h. sym (once file other (bytes_of lines.items) others alike run h)),
        (λ same. subst (λ (z : List (List ℕ)). IsRunOf other z) (sym same) (run-moves file other (bytes_of lines.items) alike run)),
      );
}
