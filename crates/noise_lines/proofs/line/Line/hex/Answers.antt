use Rattle.std.proofs.Common.{arith, ◌≡◌, ◌∙◌, ◌++◌, ◌∷◌, ap, [], ◌<◌, List, ℕ, append_assoc}
use Rattle.std.proofs.lemmas.List.Elements.{All-from_get_or}
use Rattle.noise_lines.proofs.Common.{All, hex_of}
use Rattle.noise_lines.proofs.PrintedWordLemmas.{printed-hex_of, printed-more}
use Rattle.noise_lines.proofs.line.Line.hex.Goals as goal

pub invariant_of-result : goal.invariant_of-result
invariant_of-result c =
    let bytes : All (λ b. b < 256) c.args.bytes.now = All-from_get_or (λ b. b < 256) c.args.bytes.now 0 (λ i less. omega (arith, c.type_inv.bytes i)) in
    let word : List ℕ = hex_of c.args.bytes.now in
    let text : c.hex_word.new.out.items ≡ c.args.self.text.items ++ 32 ∷ word =
    c.in_ok-hex_word.ensures.appended ∙ ap (λ (t : List ℕ). t ++ word) c.in_ok-push.ensures.items
    ∙ append_assoc c.args.self.text.items (32 ∷ []) word in
    record { printed = rw text (printed-more c.args.self.text.items word c.args.self.printed (printed-hex_of c.args.bytes.now bytes)) }
