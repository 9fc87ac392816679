use Rattle.std.proofs.Common.{◌∷◌, [], ◌++◌, ◌∙◌, List, ℕ, ap, codes, decimal}
use Rattle.noise_run.proofs.Common.{bytes_of, hex_of, role_word, none_word}
use Rattle.noise_run.proofs.PrintedLemmas.{bytes-push}
use Rattle.noise_run.proofs.TraceLineLemmas.{words-added}
use Rattle.noise_run.proofs.trace_lines.push_transport_line.Goals as goal

pub returns : goal.returns
returns c =
    let a = codes "trace" in
    let r = role_word c.args.role in
    let o = codes "transport" in
    let n = c.args.name.now in
    let f = c.args.call.now in
    let k = hex_of c.args.key.now in
    let z = none_word in
    let one = words-added _ _ a (r ∷ o ∷ []) z (n ∷ f ∷ []) c.in_ok-line.ensures.text c.in_ok-line-2.ensures.text in
    let two = words-added _ _ a (r ∷ o ∷ z ∷ n ∷ f ∷ []) z (z ∷ []) one c.in_ok-line-3.ensures in
    let three = words-added _ _ a (r ∷ o ∷ z ∷ n ∷ f ∷ z ∷ z ∷ []) z (z ∷ []) two c.in_ok-add_nothing.ensures in
    let four = words-added _ _ a (r ∷ o ∷ z ∷ n ∷ f ∷ z ∷ z ∷ z ∷ z ∷ []) k [] three c.in_ok-hex.ensures in
    let five = words-added _ _ a (r ∷ o ∷ z ∷ n ∷ f ∷ z ∷ z ∷ z ∷ z ∷ k ∷ []) (decimal c.args.nonce) [] four c.in_ok-line-4.ensures in
    record {
      lines = ap bytes_of c.in_ok-push.ensures.items ∙ bytes-push c.args.lines.now.items c.into_bytes.result
          ∙ ap (λ (t : List ℕ). bytes_of c.args.lines.now.items ++ t ∷ []) (c.into_bytes.ensures.text ∙ five);
    }
