-- The numbers that `noise_pattern` returns, by what the bytes are.
use Rattle.std.proofs.Common.{◌≡◌, ◌∙◌, ◌↔◌, ℕ, List, length, true, false, ap, sym, subst, refl, arith}
use Rattle.std.specs.Prelude.{Bool, Err, IfErr, Ok, OnErr}
use Rattle.noise_c.proofs.Common.{Plan, Result, IsValid, IsNoName, IsNoText, IsNotValid, IsPatternOf, IsPatternOfName, is_text}
use Rattle.noise_c.proofs.Numbers.{other}
use Rattle.noise_names.specs.Text.{Spells}
use Rattle.noise_c.specs.Checked.{IsTextCode, ReportsRuleFault, ReportsText}
use Rattle.noise_c.specs.HandshakeStructs.{IsOfKind}
use Rattle.noise_c.specs.PatternInfo.{IsOfValid, PatternOutcome, ReportsNoPattern, broken, info_of, no_name, no_text, valid}
use Rattle.noise_c.specs.declared.structs.NoisePatternInfo.{NoisePatternInfo}
use Rattle.noise_c.specs.declared.structs.NoisePatternResult.{NoisePatternResult}

-- each number exactly where the bytes are such
pub record IsNumbered (bytes : List ℕ) (code : ℕ) : Type 0 where
  pub valid : code ≡ 0 ↔ IsOfValid bytes
  pub broken : code ≡ 39 ↔ IsNotValid bytes
  pub text : IsTextCode code ↔ IsNoText bytes
  pub name : code ≡ 1 ↔ IsNoName bytes

kinds : {A : Type 0} (bytes : List ℕ) → is_text bytes ≡ true → is_text bytes ≡ false → A
kinds bytes a b = absurd (cc)

pub none-numbered : (bytes : List ℕ) (old new : NoisePatternResult) (code : ℕ) → ReportsNoPattern bytes old new code → IsNumbered bytes code
none-numbered bytes old new _ (no_text code t within reported rest) = record {
  valid = (λ e. absurd (omega (arith, within, e)), λ v. absurd (t.none v.pattern v.named));
  broken = (λ e. absurd (omega (arith, within, e)), λ v. absurd (t.none v.pattern v.named));
  text = (λ _. t, λ _. within);
  name = (λ e. absurd (omega (arith, within, e)), λ n. kinds bytes t.text n.name);
}
none-numbered bytes old new _ (no_name n same) = record {
  valid = (λ e. other 1 0 refl e, λ v. absurd (n.none v.pattern v.named));
  broken = (λ e. other 1 39 refl e, λ v. absurd (n.none v.pattern v.named));
  text = (λ w. absurd (omega (arith, w)), λ t. kinds bytes t.text n.name);
  name = (λ _. n, λ _. refl);
}

-- ---- why the bytes are of no pattern

pub name-fault : (bytes : List ℕ) (old : NoisePatternResult) → is_text bytes ≡ false → ((q : Plan) → IsPatternOfName bytes q → ⊥)
    → ReportsNoPattern bytes old old 1
name-fault bytes old name none =
    no_name (record { name = name; none = λ p h. none p (subst (λ (b : Bool). IsOfKind b bytes p) name h) }) refl

pub text-fault : (bytes : List ℕ) (old new : NoisePatternResult) (r : Result Plan ℕ) → is_text bytes ≡ true
    → OnErr r ((q : Plan) → Spells bytes q → ⊥) → IfErr r (λ code. IsTextCode code) → IfErr r (λ code. ReportsText bytes code new.line)
    → OnErr r (new ≡ record old { line = new.line }) → IfErr r (λ code. ReportsNoPattern bytes old new code)
text-fault bytes old new (Ok p) text none within reported rest = tt
text-fault bytes old new (Err code) text none within reported rest =
    no_text code (record { text = text; none = λ p h. none p (subst (λ (b : Bool). IsOfKind b bytes p) text h) }) within reported rest

-- ---- the outcomes of those that are of a pattern

pub broken-outcome : (bytes : List ℕ) (info : NoisePatternInfo) (old mid new : NoisePatternResult) (p : Plan) (code : ℕ) → code ≡ 39 → mid ≡ old
    → IsPatternOf bytes p → ((q : Plan) → IsPatternOf bytes q → q ≡ p) → (IsValid p → ⊥) → ReportsRuleFault p mid new
    → PatternOutcome bytes info old info new code
broken-outcome bytes info old mid new p code is same named one invalid fault =
    let kept : ReportsRuleFault p old new = subst (λ (z : NoisePatternResult). ReportsRuleFault p z new) same fault in
    subst (λ (n : ℕ). PatternOutcome bytes info old info new n) (sym is)
    (broken (record { pattern = p; named = named; broken = invalid })
    (λ q h. subst (λ (z : Plan). ReportsRuleFault z old new) (sym (one q h)) kept) refl)

with-messages : (old mid : NoisePatternResult) (k n : ℕ) → mid ≡ old → k ≡ n
    → ◌≡◌ {A = NoisePatternResult} (record mid { messages = k }) (record old { messages = n })
with-messages old mid k n e f = rw (e, f) refl

pub valid-outcome : (bytes : List ℕ) (info next : NoisePatternInfo) (old mid : NoisePatternResult) (p : Plan) (k : ℕ) → IsPatternOf bytes p
    → ((q : Plan) → IsPatternOf bytes q → q ≡ p) → IsValid p → next ≡ info_of p → mid ≡ old → k ≡ length p.messages
    → PatternOutcome bytes info old next (record mid { messages = k }) 0
valid-outcome bytes info next old mid p k named one kept described same count =
    valid (record { pattern = p; named = named; valid = kept })
    (λ q h. (
      described ∙ ap info_of (sym (one q h)),
      with-messages old mid k (length q.messages) same (count ∙ ap (λ (z : Plan). length z.messages) (sym (one q h))),
    ))
