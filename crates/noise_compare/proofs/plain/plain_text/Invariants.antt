use Rattle.std.proofs.Common.{◌≡◌, ◌++◌, [], ◌∷◌, drop, map}
use Rattle.std.specs.Prelude.{flat_map}
use Rattle.noise_compare.specs.Plain.{plain_line}
use Rattle.noise_compare.proofs.plain.plain_text.Given as goal

-- the lines so far, and those that are still to come
abbrev pub invariant-loop-text : goal.invariant-loop-text
invariant-loop-text l =
    l.plain.items ++ flat_map (λ line. plain_line line ++ 10 ∷ []) (map (λ t. t.now) (drop l.text-index l.text-items))
    ≡ flat_map (λ line. plain_line line ++ 10 ∷ []) (map (λ t. t.now) l.text-items)
