use Rattle.std.proofs.Common.{◌≡◌, ◌≤◌, length}
use Rattle.noise_vectors.proofs.Common.{All, last_number, IsEntry, answer_words, lines_of}
use Rattle.noise_vectors.proofs.parties.read_table.Given as goal

abbrev pub invariant-loop-lines : goal.invariant-loop-lines
invariant-loop-lines l = record {
  e : l.table.e ≡ l.fn.e;
  s : l.table.s ≡ l.fn.s;
  text : l.fn.lines.rest.now ≡ lines_of answer_words l.table.entries l.lines.rest.now;
  few : length l.table.entries ≤ 8;
  right : All IsEntry l.table.entries;
  counted : last_number l.lines ≡ last_number l.fn.lines;
}

abbrev pub decreases-loop-lines : goal.decreases-loop-lines
decreases-loop-lines l = length l.lines.rest.now
