use Rattle.std.proofs.Common.{rules, ◌≡◌, [], inl, refl, subst, sym, ◌∙◌}
use Rattle.noise_c.proofs.Common.{Plan, IsValid}
use Rattle.noise_c.proofs.Named.{no-places, pattern-one, pattern-fits}
use Rattle.noise_c.proofs.patterns.named.Goals as goal

pub returns-in-Some : goal.returns-in-Some
returns-in-Some c =
    let none : [] ≡ c.places.result.now = sym (no-places c.numbers.result.now (sym c.if-is_empty.ensures)) ∙ c.numbers.ensures.value in
    record {
      named = search rules;
      valid = search rules;
      one = λ q h. pattern-one c.args.name.now c.in-Ok.name c.base.result.now [] c.in-Some.valid c.in-Some.valid q
          c.in-Ok.ensures.every c.base.ensures.value (none ∙ c.places.ensures) (sym c.in-Some.ensures.value) c.in-Some.ensures.placed h;
      short = search rules;
      found = search rules;
      fault = tt;
    }

pub returns-in-Ok-check : goal.returns-in-Ok-check
returns-in-Ok-check c = record {
  named = search rules;
  valid = search rules;
  one = λ q h. pattern-one c.args.name.now c.in-Ok.name c.base-2.result.now c.places-2.result.now c.in-Some-fundamental.plain c.in-Ok-with_psks.pattern q
      c.in-Ok.ensures.every c.base-2.ensures.value c.places-2.ensures (sym c.in-Some-fundamental.ensures.value) c.in-Ok-with_psks.ensures.placed h
      ∙ sym c.in-Ok-check.ensures.value;
  short = search rules;
  found = search rules;
  fault = tt;
}

pub returns-in-Err-check : goal.returns-in-Err-check
returns-in-Err-check c = record {
  named = tt;
  valid = tt;
  one = tt;
  short = tt;
  found = λ q h valid. c.in-Err-check.ensures.valid.1
      (subst (λ (z : Plan). IsValid z)
      (pattern-one c.args.name.now c.in-Ok.name c.base-2.result.now c.places-2.result.now c.in-Some-fundamental.plain c.in-Ok-with_psks.pattern q
      c.in-Ok.ensures.every c.base-2.ensures.value c.places-2.ensures (sym c.in-Some-fundamental.ensures.value) c.in-Ok-with_psks.ensures.placed h) valid);
  fault = search rules;
}

pub returns-in-Err : goal.returns-in-Err
returns-in-Err c =
    let fits = pattern-fits c.args.name.now c.in-Ok.name c.base-2.result.now c.places-2.result.now c.in-Some-fundamental.plain in
    record {
      named = tt;
      valid = tt;
      one = tt;
      short = tt;
      found = λ q h valid.
          absurd (fits q _ c.in-Ok.ensures.every c.base-2.ensures.value c.places-2.ensures (sym c.in-Some-fundamental.ensures.value) c.in-Err.ensures.fault h);
      fault = inl (
        refl,
        λ q h. fits q _ c.in-Ok.ensures.every c.base-2.ensures.value c.places-2.ensures (sym c.in-Some-fundamental.ensures.value) c.in-Err.ensures.fault h,
      );
    }
