use Rattle.std.proofs.Common.{rules}
use Rattle.std.proofs.lemmas.Result.{err_from_is_err_and}
use Rattle.noise_vectors.proofs.HexWordLemmas.{length-hex_of}
use Rattle.noise_vectors.proofs.hex_words.hex_word.Goals as goal

pub returns-in_default-clause-full : goal.returns-in_default-clause-full
returns-in_default-clause-full c = search (rules, length-hex_of)

pub returns-in_err-resize-clause-full : goal.returns-in_err-resize-clause-full
returns-in_err-resize-clause-full c = search (rules, length-hex_of, err_from_is_err_and)
