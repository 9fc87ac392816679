use Rattle.std.proofs.Common.{arith, ◌≡◌, ◌⊎◌, ◌+◌, ◌<◌, Some, length, slice_get, sym}
use Rattle.std.proofs.lemmas.Bool.Decides.{nat_tests}
use Rattle.noise_explain.specs.VectorColumns.{IsShortLine, IsWrongWord, first_word, shapes_of, word_from}
use Rattle.noise_explain.specs.WordFaults.{IsWrong, WordAsserts, spaces_before}
use Rattle.noise_explain.proofs.SaidWordLemmas.{said}
use Rattle.noise_explain.proofs.word_faults.wrong_word.Goals as goal

pub returns : goal.returns
returns c =
    let line = c.args.line.now in
    let at = c.in_ok-at.at in
    let shape = c.in_ok-shape.shape in
    let listed = shapes_of c.args.kind (first_word line) in
    let shapes_are : c.shapes_of-shapes.result.now ≡ listed = rw c.first_word.ensures.value at c.shapes_of-shapes.ensures in
    let place : IsWrongWord listed line (at + 1) ⊎ IsShortLine listed line (at + 1) = rw shapes_are at c.in_ok-at.ensures.value in
    let found : Some shape ≡ slice_get listed (spaces_before line at) =
    rw shapes_are at (c.in_ok-shape.ensures c.in_ok-at.ensures.within) in
    let there : slice_get listed (spaces_before line at) ≡ Some shape = sym found in
    let any : 0 < length c.word_from-word.result.now = grind (arith, nat_tests) in
    let some : 0 < length (word_from line at) = rw c.word_from-word.ensures.value at any in
    let asserts : IsWrong shape (word_from line at) → WordAsserts c.word_fault.result shape (word_from line at) =
    rw c.word_from-word.ensures.value at c.word_fault.ensures in
    said c.args.kind line c.word_fault.result at shape place there some asserts
