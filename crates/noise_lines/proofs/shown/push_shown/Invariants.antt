use Rattle.std.proofs.Common.{◌≡◌, ◌++◌, take}
use Rattle.noise_lines.specs.Shown.{shown_text}
use Rattle.noise_lines.proofs.shown.push_shown.Given as goal

-- the bytes so far are shown
abbrev pub invariant-loop-byte : goal.invariant-loop-byte
invariant-loop-byte l = l.text.items ≡ l.initial.text.items ++ shown_text (take l.byte-index l.bytes)
