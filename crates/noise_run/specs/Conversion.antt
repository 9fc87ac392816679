-- What a conversion does when it is replayed.
use Rattle.std.specs.Prelude.{◌≡◌, ◌↔◌, ℕ, List, Vec}
use Rattle.std.specs.Global.{Global}
use Rattle.noise_names.specs.Lists.{bytes_of}
use Rattle.noise_vectors.specs.VectorFile.{IsVectorFile}
use Rattle.noise_vectors.specs.VectorText.{file_text}
use Rattle.noise_vectors.specs.declared.vector.VectorFile.{VectorFile}
use Rattle.noise_vectors.specs.declared.vector.Version.TheVariants.{One}
use Rattle.noise_lines.specs.PrintedWords.{AreExpected}
use Rattle.noise_run.specs.Running.{IsRunOf, expected_in}
use Rattle.noise_lines.specs.Converted.{converted_text}

-- The conversion of a file of version 1 with these lines is the text of a right file. Every right file of that text
-- expects these lines, and they are the lines of its run.
pub record MeetsItself (file : VectorFile) (lines : List (List ℕ)) : Type 0 where
  pub readable : (converted : VectorFile) × IsVectorFile converted × (converted_text file lines ≡ file_text converted)
  pub expects : (converted : VectorFile) → IsVectorFile converted → converted_text file lines ≡ file_text converted
      → expected_in converted.version ≡ lines
  pub runs : (converted : VectorFile) → IsVectorFile converted → converted_text file lines ≡ file_text converted
      → (others : List (List ℕ)) → IsRunOf converted others ↔ (others ≡ lines)

-- so does every conversion of a right file with the lines of its run, where each of these may be expected
abbrev pub ConversionsMeetThemselves : Type 0
ConversionsMeetThemselves = (file : VectorFile) (lines : Vec (Vec ℕ Global) Global) → IsVectorFile file
    → file.version ≡ One → AreExpected lines.items → IsRunOf file (bytes_of lines.items)
    → MeetsItself file (bytes_of lines.items)
