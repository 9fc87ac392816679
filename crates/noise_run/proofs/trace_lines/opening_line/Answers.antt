use Rattle.std.proofs.Common.{◌∷◌, [], codes, decimal}
use Rattle.noise_run.proofs.Common.{IfOk-weaker, hex_of, role_word, none_word}
use Rattle.noise_run.proofs.TraceLineLemmas.{said-added, words-added}
use Rattle.noise_run.proofs.trace_lines.opening_line.Goals as goal

pub returns : goal.returns
returns c =
    let a = codes "trace" in
    let r = role_word c.args.role in
    let o = codes "open" in
    let n = decimal c.args.number in
    let w = role_word c.args.writer in
    let s = codes "Split" in
    let h1 = hex_of c.args.state.now.hash in
    let h2 = hex_of c.args.state.now.chaining_key in
    let k = hex_of c.args.key.now in
    let one = words-added _ _ a (r ∷ o ∷ []) n [] c.in_ok-begun_trace.ensures.text c.in_ok-number.ensures in
    let two = said-added _ _ a (r ∷ o ∷ n ∷ []) _ w c.role_word.ensures.text one c.in_ok-word.ensures.text in
    let three = words-added _ _ a (r ∷ o ∷ n ∷ w ∷ []) s [] two c.in_ok-line.ensures.text in
    let four = words-added _ _ a (r ∷ o ∷ n ∷ w ∷ s ∷ []) none_word (none_word ∷ []) three c.in_ok-add_nothing.ensures in
    let five = words-added _ _ a (r ∷ o ∷ n ∷ w ∷ s ∷ none_word ∷ none_word ∷ []) h1 [] four c.in_ok-hex.ensures in
    let six = words-added _ _ a (r ∷ o ∷ n ∷ w ∷ s ∷ none_word ∷ none_word ∷ h1 ∷ []) h2 [] five c.in_ok-hex-2.ensures in
    let seven = words-added _ _ a (r ∷ o ∷ n ∷ w ∷ s ∷ none_word ∷ none_word ∷ h1 ∷ h2 ∷ []) k [] six c.in_ok-hex-3.ensures in
    IfOk-weaker c.word-3.result _ _ (λ line h.
    words-added _ _ a (r ∷ o ∷ n ∷ w ∷ s ∷ none_word ∷ none_word ∷ h1 ∷ h2 ∷ k ∷ []) (codes "0") [] seven h) c.word-3.ensures.text
