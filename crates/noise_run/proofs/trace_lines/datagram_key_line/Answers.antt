use Rattle.std.proofs.Common.{◌∷◌, [], codes, decimal}
use Rattle.noise_run.proofs.Common.{IfOk-weaker, hex_of, role_word, none_word}
use Rattle.noise_run.proofs.TraceLineLemmas.{said-added, words-added}
use Rattle.noise_run.proofs.trace_lines.datagram_key_line.Goals as goal

pub returns : goal.returns
returns c =
    let a = codes "trace" in
    let n = decimal c.args.number in
    let w = role_word c.args.writer in
    let k = hex_of c.args.key.now in
    let front = role_word c.args.role ∷ codes "datagrams" ∷ [] in
    let one = words-added _ _ a front n [] c.in_ok-begun_trace.ensures.text c.in_ok-number.ensures in
    let two = said-added _ _ a (role_word c.args.role ∷ codes "datagrams" ∷ n ∷ []) _ w c.role_word.ensures.text one c.in_ok-line.ensures.text in
    let three = words-added _ _ a (role_word c.args.role ∷ codes "datagrams" ∷ n ∷ w ∷ []) none_word (none_word ∷ none_word ∷ []) two c.in_ok-line-2.ensures.text in
    let four = words-added _ _ a (role_word c.args.role ∷ codes "datagrams" ∷ n ∷ w ∷ none_word ∷ none_word ∷ none_word ∷ []) none_word (none_word ∷ []) three
    c.in_ok-add_nothing.ensures in
    let five = words-added _ _ a (role_word c.args.role ∷ codes "datagrams" ∷ n ∷ w ∷ none_word ∷ none_word ∷ none_word ∷ none_word ∷ none_word ∷ []) k [] four
    c.in_ok-hex.ensures in
    IfOk-weaker c.word-2.result _ _ (λ line h.
    words-added _ _ a (role_word c.args.role ∷ codes "datagrams" ∷ n ∷ w ∷ none_word ∷ none_word ∷ none_word ∷ none_word ∷ none_word ∷ k ∷ []) none_word []
    five h) c.word-2.ensures.text
