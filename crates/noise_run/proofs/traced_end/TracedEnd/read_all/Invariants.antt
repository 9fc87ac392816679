use Rattle.std.proofs.Common.{◌≡◌, ◌++◌, ℕ, List, drop, length}
use Rattle.noise_run.proofs.Common.{Role, notes_of, Note, held_note, noted_by, SideReceives, Side, traces_of, ShowsEnd, came_traces}
use Rattle.noise_run.proofs.ReceivedLemmas.{Remains}
use Rattle.noise_run.proofs.traced_end.TracedEnd.read_all.Given as goal

-- what is left of the bytes and of the entries
abbrev pub invariant-loop-entry : goal.invariant-loop-entry
invariant-loop-entry l = record {
  role : l.self.role ≡ l.fn.self.role;
  goes : (s reader : Side) (role : Role) (bytes : List ℕ) (notes : List Note) (x : SideReceives s bytes notes reader) → ShowsEnd l.fn.self s.state
      → l.came ≡ s.state.partial ++ bytes → notes_of l.entries ≡ noted_by role (notes ++ held_note (length reader.state.partial))
      → Remains l.selection l.fn.self.role role reader l.self l.rest (notes_of (drop l.entry-index l.entries)) (traces_of l.traces.items)
      (traces_of l.fn.traces.items ++ came_traces l.selection l.fn.self.role s reader bytes notes x);
}
