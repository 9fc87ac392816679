use Rattle.std.proofs.Common.{◌≡◌, ◌++◌, ℕ, List, OnOk, append_assoc, codes, map, subst}
use Rattle.noise_compare.specs.Advice.{refusing_inputs_text, sentences}
use Rattle.noise_compare.specs.Finding.{said}
use Rattle.noise_compare.specs.Report.{ended}
use Rattle.noise_compare.proofs.advice.push_refusing.Goals as goal

joined : (old new next head more third last : List ℕ) → new ≡ old ++ (head ++ more) → next ≡ new ++ third
    → next ++ last ≡ old ++ (head ++ (more ++ (third ++ last)))
joined old new next head more third last e f = rw (f, e) (simp append_assoc)

pub returns : goal.returns
returns c = subst (λ (text : List ℕ). OnOk c.push_line-2.result (c.push_line-2.new.text.items ≡ text))
    (joined c.args.text.now.items c.push_headed.new.text.items c.push_line.new.text.items
    (ended (codes "if your end refused this message, and got the bytes that are right here, each of these mistakes does it:"))
    (sentences (map said c.args.found.now)) (ended refusing_inputs_text)
    (ended (codes "or the AEAD itself: try RFC 8439, 2.8.2")) c.in_ok-push_headed.ensures c.in_ok-push_line.ensures)
    c.push_line-2.ensures
