use Rattle.std.proofs.Common.{ℕ, List, ◌++◌, ap, ◌∙◌, arith, append-nil, take_all}
use Rattle.std.proofs.Math.ListN.{drop_of_length-le}
use Rattle.noise_aead.proofs.Common.{bit_xor, zip2}
use Rattle.noise_aead.proofs.keystream.xor_block.Goals as goal

pub returns-in-Some : goal.returns-in-Some
returns-in-Some c = record {
  text =
      let text : List ℕ = c.args.text.now in
      ap (λ (bytes : List ℕ). c.xor64.new.text ++ bytes) (drop_of_length-le text {i = 64} (omega arith)) ∙ append-nil c.xor64.new.text
      ∙ c.xor64.ensures ∙ ap (λ (chunk : List ℕ). zip2 bit_xor chunk c.args.stream.now) c.in-Some.ensures.cases.same
      ∙ ap (λ (chunk : List ℕ). zip2 bit_xor chunk c.args.stream.now) (take_all 64 text (omega arith));
}
