use Rattle.std.proofs.Common.{rules, ◌≡◌, ◌∙◌, sym, true, true≢false}
use Rattle.noise_vectors.proofs.Common.{IsHeaderLine, VersionOne}
use Rattle.noise_vectors.proofs.PartLemmas.{header-one, line-wrong}
use Rattle.noise_vectors.proofs.reader.read_header.Goals as goal

pub returns-in_default-clause-reported : goal.returns-in_default-clause-reported
returns-in_default-clause-reported c =
    line-wrong (IsHeaderLine c.args.allowed) c.in_ok-line.ensures.read c.fault.ensures (λ good. let none = c.in_default.ensures.every good.0 good.2 in cc (none))

pub returns-then-eq-clause-reported : goal.returns-then-eq-clause-reported
returns-then-eq-clause-reported c =
    let second : c.in-Some.second ≡ true = search rules in
    let only : c.args.allowed ≡ VersionOne = search rules in
    line-wrong (IsHeaderLine c.args.allowed) c.in_ok-line.ensures.read c.fault-then-eq.ensures (λ good.
    true≢false (sym second ∙ sym (header-one good.0 c.in-Some.second (sym good.2 ∙ c.in-Some.ensures.text)) ∙ good.1 only))
