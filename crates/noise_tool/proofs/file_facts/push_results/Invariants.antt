use Rattle.std.proofs.Common.{◌≡◌, ◌++◌, take}
use Rattle.noise_tool.specs.FileFacts.{results_of}
use Rattle.noise_tool.proofs.file_facts.push_results.Given as goal

-- what DH gives for the keys so far
abbrev pub invariant-loop-key : goal.invariant-loop-key
invariant-loop-key l = l.results.items ≡ l.initial.results.items ++ results_of l.keys (take l.key-index l.publics)
