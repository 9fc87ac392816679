use Rattle.std.proofs.Common.{◌∷◌, [], codes, decimal, slice_range, ap}
use Rattle.noise_run.proofs.Common.{IfOk-weaker, hex_of, role_word, call_word, state_key_word, part_word}
use Rattle.noise_run.proofs.TraceLineLemmas.{said-added, words-added}
use Rattle.noise_run.proofs.trace_lines.step_line.Goals as goal

pub returns : goal.returns
returns c =
    let a = codes "trace" in
    let about = c.args.about in
    let step = c.args.step.now in
    let r = role_word about.role in
    let m = decimal about.number in
    let n = decimal c.args.number in
    let w = part_word step.part in
    let k = call_word about.psks about.act step.part in
    let f = decimal step.from in
    let b = hex_of (slice_range c.args.message.now step.from step.to) in
    let v = step.state in
    let one = words-added _ _ a (r ∷ []) m [] c.in_ok-begun_line.ensures.text c.in_ok-number.ensures in
    let two = words-added _ _ a (r ∷ m ∷ []) n [] one c.in_ok-number-2.ensures in
    let three = said-added _ _ a (r ∷ m ∷ n ∷ []) _ w c.part_word.ensures.text two c.in_ok-word.ensures.text in
    let four = said-added _ _ a (r ∷ m ∷ n ∷ w ∷ []) _ k c.call_word.ensures.text three c.in_ok-word-2.ensures.text in
    let five = words-added _ _ a (r ∷ m ∷ n ∷ w ∷ k ∷ []) f [] four c.in_ok-number-3.ensures in
    let six = said-added _ _ a (r ∷ m ∷ n ∷ w ∷ k ∷ f ∷ []) _ b (ap hex_of c.part_bytes.ensures) five c.in_ok-line.ensures in
    IfOk-weaker c.add_state.result _ _ (λ line h.
    words-added _ _ a (r ∷ m ∷ n ∷ w ∷ k ∷ f ∷ b ∷ []) (hex_of v.hash) (hex_of v.chaining_key ∷ state_key_word v.key ∷ decimal v.nonce ∷ []) six h)
    c.add_state.ensures
