use Rattle.std.proofs.Common.{◌≡◌, ◌∙◌, ap, arith}
use Rattle.std.specs.Prelude.{decimal}
use Rattle.noise_names.specs.Pieces.{bytes_before}
use Rattle.noise_explain.specs.FactLines.{payload_how}
use Rattle.std.proofs.lemmas.List.{append-nil}
use Rattle.noise_explain.proofs.FactLemmas.{three-texts}
use Rattle.noise_explain.proofs.piece_lines.push_payload_line.Goals as goal

pub returns : goal.returns
returns c = record {
  appended = let from : c.from.result ≡ bytes_before c.args.pattern.now c.args.message c.args.count =
      omega (arith, c.from.ensures, c.bytes_before.ensures.value) in
      three-texts c.push-2.result _ _ _ _ _ _ _ _ _ c.in_ok-push.ensures c.in_ok-push_number.ensures (ap decimal from)
      (append-nil _ ∙ c.payload_how.ensures ∙ ap payload_how c.has_key_before.ensures.value) c.push-2.ensures;
}
