use Rattle.std.proofs.Common.{ap, refl, ◌∙◌, List, length, subst}
use Rattle.noise_c.proofs.Common.{Plan, IsValid, Token, false≢true}
use Rattle.noise_c.specs.PatternInfo.{info_of, none}
use Rattle.noise_c.proofs.Describing.{broken-outcome, none-numbered, valid-outcome}
use Rattle.noise_c.proofs.pattern_info.noise_pattern.Goals as goal

pub returns-in-Err-clause-outcome : goal.returns-in-Err-clause-outcome
returns-in-Err-clause-outcome c = none c.in-Err.code c.in-Err.ensures.fault refl

pub returns-in-Err-clause-broken : goal.returns-in-Err-clause-broken
returns-in-Err-clause-broken c =
    (none-numbered c.args.pattern.now c.args.results.now c.read_pattern.new.results c.in-Err.code c.in-Err.ensures.fault).broken

pub returns-in-Err-checked-clause-outcome : goal.returns-in-Err-checked-clause-outcome
returns-in-Err-checked-clause-outcome c =
    broken-outcome c.args.pattern.now c.args.info.now c.args.results.now c.read_pattern.new.results c.checked.new.results c.in-Ok.value
    c.in-Err-checked.code c.in-Err-checked.ensures.code c.in-Ok.ensures.unchanged c.in-Ok.ensures.named c.in-Ok.ensures.one
    (λ v. absurd (false≢true (c.in-Err-checked.ensures.valid.1 v))) c.in-Err-checked.ensures.fault

pub returns-clause-outcome : goal.returns-clause-outcome
returns-clause-outcome c =
    let same = c.in-Ok-checked.ensures.value in
    valid-outcome c.args.pattern.now c.args.info.now c.info_of.result c.args.results.now c.checked.new.results c.in-Ok.value (length c.messages.result.now)
    c.in-Ok.ensures.named c.in-Ok.ensures.one (subst (λ (z : Plan). IsValid z) same c.pattern.ensures.valid) (c.info_of.ensures ∙ ap info_of same)
    (c.in-Ok-checked.ensures.unchanged ∙ c.in-Ok.ensures.unchanged)
    (ap (λ (ms : List (List Token)). length ms) c.messages.ensures.value ∙ ap (λ (z : Plan). length z.messages) (c.pattern.ensures.value ∙ same))
