use Rattle.std.proofs.Common.{◌≡◌, ◌+◌, ◌*◌, ◌++◌, take, drop}
use Rattle.noise_aead.proofs.Common.{byte_from, xored}
use Rattle.noise_aead.proofs.keystream.apply.Given as goal

abbrev pub invariant-loop-i : goal.invariant-loop-i
invariant-loop-i l = record {
  place : l.words ≡ record l.fn.words { word_pos = l.fn.words.word_pos + 16 * (l.first + 4 * l.i) };
  text : l.text ≡ xored (byte_from l.fn.words) 0 (take (64 * (l.first + 4 * l.i)) l.fn.text) ++ drop (64 * (l.first + 4 * l.i)) l.fn.text;
}
