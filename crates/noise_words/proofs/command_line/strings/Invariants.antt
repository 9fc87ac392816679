use Rattle.std.proofs.Common.{◌≡◌, map, take, string_bytes}
use Rattle.noise_words.proofs.command_line.strings.Given as goal

-- the strings so far are of these texts
abbrev pub invariant-loop-text : goal.invariant-loop-text
invariant-loop-text l = map string_bytes l.strings.items ≡ map (λ t. t.now) (take l.text-index l.texts)
