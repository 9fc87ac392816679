use Rattle.std.proofs.Common.{◌∷◌, [], codes, decimal}
use Rattle.noise_run.proofs.Common.{IfOk-weaker, hex_of, role_word, state_key_word, none_word, start_call_word, start_word}
use Rattle.noise_run.proofs.TraceLineLemmas.{said-added, words-added}
use Rattle.noise_run.proofs.trace_lines.start_line.Goals as goal

pub returns : goal.returns
returns c =
    let a = codes "trace" in
    let r = role_word c.args.role in
    let o = codes "start" in
    let n = decimal c.args.number in
    let w = start_word c.args.step.now.part in
    let k = start_call_word c.args.psks c.args.step.now.part in
    let v = c.args.step.now.state in
    let one = words-added _ _ a (r ∷ o ∷ []) n [] c.in_ok-begun_trace.ensures.text c.in_ok-number.ensures in
    let two = said-added _ _ a (r ∷ o ∷ n ∷ []) _ w c.start_word.ensures.text one c.in_ok-word.ensures.text in
    let three = said-added _ _ a (r ∷ o ∷ n ∷ w ∷ []) _ k c.start_call_word.ensures.text two c.in_ok-line.ensures.text in
    let four = words-added _ _ a (r ∷ o ∷ n ∷ w ∷ k ∷ []) none_word (none_word ∷ []) three c.in_ok-add_nothing.ensures in
    IfOk-weaker c.add_state.result _ _ (λ line h.
    words-added _ _ a (r ∷ o ∷ n ∷ w ∷ k ∷ none_word ∷ none_word ∷ []) (hex_of v.hash) (hex_of v.chaining_key ∷ state_key_word v.key ∷ decimal v.nonce ∷ [])
    four h) c.add_state.ensures
