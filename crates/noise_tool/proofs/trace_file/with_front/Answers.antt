use Rattle.std.proofs.Common.{◌≡◌, ◌∙◌, ap, ap₂, sym, ℕ, List, ◌++◌, Vec, take}
use Rattle.std.proofs.lemmas.List.{take-map}
use Rattle.noise_tool.proofs.Common.{Global, bytes_of, lines_text, traces_of}
use Rattle.noise_lines.specs.TracedLines.{with_traces, with_traces_to}
use Rattle.noise_tool.proofs.trace_file.with_front.Goals as goal

-- the front of lines, each with those that follow it
front-is : (number : ℕ) (head : List ℕ) (start : List (List ℕ)) (lines front : List (Vec ℕ Global)) (traces shown : List (Vec (Vec ℕ Global) Global))
    → front ≡ take number lines → shown ≡ take number traces
    → head ++ lines_text (start ++ with_traces (bytes_of front) (traces_of shown))
    ≡ head ++ lines_text (start ++ with_traces_to number (bytes_of lines) (traces_of traces))
front-is number head start lines front traces shown e f =
    ap (λ (ls : List (List ℕ)). head ++ lines_text (start ++ ls))
    (ap₂ with_traces (ap bytes_of e ∙ sym (take-map (λ (v : Vec ℕ Global). v.items) number lines))
    (ap traces_of f ∙ sym (take-map (λ (t : Vec (Vec ℕ Global) Global). bytes_of t.items) number traces)))

pub returns : goal.returns
returns c = rw c.if-not-wanted.false (front-is c.args.number c.args.head.items _ _ _ _ _ c.truncate.ensures.items c.truncate-2.ensures.items)
