use Rattle.std.proofs.Common.{◌≡◌, ◌++◌, take}
use Rattle.std.specs.List.{flat_map}
use Rattle.noise_explain.proofs.fact_words.push.Given as goal

-- the texts so far
abbrev pub invariant-loop-t : goal.invariant-loop-t
invariant-loop-t l = l.text.items ≡ l.initial.text.items ++ flat_map (λ t. t.now) (take l.t-index l.texts)
