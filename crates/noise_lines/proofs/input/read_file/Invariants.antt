use Rattle.std.proofs.Common.{◌≡◌, ◌≤◌, vec_len}
use Rattle.noise_lines.proofs.Common.{Consumes}
use Rattle.noise_lines.proofs.input.read_file.Given as goal

abbrev pub invariant-loop : goal.invariant-loop
invariant-loop g l = record {
  few : vec_len l.text ≤ 4194304;
  wide : vec_len l.piece ≡ 65536;
  taken : Consumes (g.R.Read.remaining l.fn.file) (g.R.Read.remaining l.file) l.text.items;
}
