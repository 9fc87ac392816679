use Rattle.std.proofs.Common.{◌≡◌, map, take}
use Rattle.noise_json.specs.Json.{items_in}
use Rattle.noise_json.specs.Values.{bytes_data}
use Rattle.noise_json.proofs.texts.texts.Given as goal

-- the texts so far are in the array
abbrev pub invariant-loop-text : goal.invariant-loop-text
invariant-loop-text l = items_in l.array ≡ map (λ text. bytes_data text.now) (take l.text-index l.texts)
