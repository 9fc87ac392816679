use Rattle.std.proofs.Common.{rules, ◌≡◌, ◌∙◌, ◌∷◌, ◌++◌, [], ap, append-nil, subst, sym, List, ℕ}
use Rattle.noise_lines.proofs.Common.{Appends-trans, lines_text, AppendsPrefix, bytes_of}
use Rattle.noise_lines.proofs.PrefixLemmas.{prefix-after}
use Rattle.noise_lines.proofs.TracedLinesLemmas.{line-apart, prefix-more}
use Rattle.noise_lines.proofs.traced_lines.write_one.Goals as goal

pub returns-in_err-write-clause-prefix : goal.returns-in_err-write-clause-prefix
returns-in_err-write-clause-prefix g c =
    let line = c.args.line.now in
    let more = bytes_of c.args.trace.now in
    prefix-more _ _ line (10 ∷ [] ++ lines_text more) _ c.write.ensures.prefix (line-apart line more)

pub returns-in_err-write-2-clause-prefix : goal.returns-in_err-write-2-clause-prefix
returns-in_err-write-2-clause-prefix g c =
    let line = c.args.line.now in
    let more = bytes_of c.args.trace.now in
    let feed : c.as_slice.result.now ≡ 10 ∷ [] = search rules in
    prefix-after _ _ _ line (10 ∷ []) (lines_text more) _ c.in_ok-write.ensures.written
    (subst (λ (t : List ℕ). AppendsPrefix (g.O.Write.contents c.write.new.out) (g.O.Write.contents c.write-2.new.out) t) feed c.write-2.ensures.prefix)
    (line-apart line more)

pub returns-clause-prefix : goal.returns-clause-prefix
returns-clause-prefix g c =
    let line = c.args.line.now in
    let more = bytes_of c.args.trace.now in
    let feed : c.as_slice.result.now ≡ 10 ∷ [] = search rules in
    prefix-after _ _ _ (line ++ c.as_slice.result.now) (lines_text more) [] _
    (Appends-trans _ _ _ line c.as_slice.result.now c.in_ok-write.ensures.written c.in_ok-write-2.ensures.written)
    c.write_lines.ensures.prefix
    (ap (λ (t : List ℕ). (line ++ t) ++ lines_text more) (sym feed)
    ∙ ap (λ (t : List ℕ). (line ++ c.as_slice.result.now) ++ t) (sym (append-nil (lines_text more))))
