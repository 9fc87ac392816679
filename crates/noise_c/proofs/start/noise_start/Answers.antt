use Rattle.std.proofs.Common.{◌≡◌, ◌-◌, take, ◌∙◌, List, ℕ, inl, inr, sym, ap, subst, refl, Ok, Err, arith}
use Rattle.noise_c.proofs.Common.{Plan, IsPatternOf, KeepsParty, begun_in, handshake_from_c, role_in, start_code}
use Rattle.noise_c.proofs.Stored.{usable-stored}
use Rattle.noise_c.proofs.Numbers.{other}
use Rattle.noise_c.proofs.Starts.{fault-name, fault-pattern, fault-code, fault-start, keeps-start, setup-within, start-err, start-ok, valid-name, valid-pattern}
use Rattle.noise_c.proofs.start.noise_start.Goals as goal

pub returns-in-Err-clause-name : goal.returns-in-Err-clause-name
returns-in-Err-clause-name c = fault-name c.args.pattern.now c.in-Err.code c.in-Err.ensures.fault

pub returns-in-Err-clause-pattern : goal.returns-in-Err-clause-pattern
returns-in-Err-clause-pattern c = fault-pattern c.args.pattern.now c.in-Err.code c.in-Err.ensures.fault

pub returns-in-Err-clause-codes : goal.returns-in-Err-clause-codes
returns-in-Err-clause-codes c = fault-start c.in-Err.code (fault-code c.args.pattern.now c.in-Err.code c.in-Err.ensures.fault)

pub returns-in-Err-clause-valid : goal.returns-in-Err-clause-valid
returns-in-Err-clause-valid c p h v = absurd (cc (c.in-Err.ensures.found p h v))

pub returns-then-prologue-gt-MAX_LEN-clause-name : goal.returns-then-prologue-gt-MAX_LEN-clause-name
returns-then-prologue-gt-MAX_LEN-clause-name c = valid-name c.args.pattern.now c.in-Ok.value 24 c.in-Ok.ensures.named (other 24 1 refl)

pub returns-then-prologue-gt-MAX_LEN-clause-pattern : goal.returns-then-prologue-gt-MAX_LEN-clause-pattern
returns-then-prologue-gt-MAX_LEN-clause-pattern c =
    valid-pattern c.args.pattern.now c.in-Ok.value 24 c.in-Ok.ensures.named c.in-Ok.ensures.valid c.in-Ok.ensures.one (other 24 2 refl)

pub returns-then-setup-gt9-clause-name : goal.returns-then-setup-gt9-clause-name
returns-then-setup-gt9-clause-name c = valid-name c.args.pattern.now c.in-Ok.value 8 c.in-Ok.ensures.named (other 8 1 refl)

pub returns-then-setup-gt9-clause-pattern : goal.returns-then-setup-gt9-clause-pattern
returns-then-setup-gt9-clause-pattern c =
    valid-pattern c.args.pattern.now c.in-Ok.value 8 c.in-Ok.ensures.named c.in-Ok.ensures.valid c.in-Ok.ensures.one (other 8 2 refl)

pub returns-in-Err-begin-clause-name : goal.returns-in-Err-begin-clause-name
returns-in-Err-begin-clause-name c =
    let w = setup-within c.in-Err-begin.fault c.setup_code.result c.setup_code.ensures in
    valid-name c.args.pattern.now c.in-Ok.value c.setup_code.result c.in-Ok.ensures.named (λ e. absurd (omega (arith, w.0, e)))

pub returns-in-Err-begin-clause-pattern : goal.returns-in-Err-begin-clause-pattern
returns-in-Err-begin-clause-pattern c =
    let w = setup-within c.in-Err-begin.fault c.setup_code.result c.setup_code.ensures in
    valid-pattern c.args.pattern.now c.in-Ok.value c.setup_code.result c.in-Ok.ensures.named c.in-Ok.ensures.valid c.in-Ok.ensures.one
    (λ e. absurd (omega (arith, w.0, e)))

pub returns-in-Err-begin-clause-codes : goal.returns-in-Err-begin-clause-codes
returns-in-Err-begin-clause-codes c = inr (inr (inr (inl (setup-within c.in-Err-begin.fault c.setup_code.result c.setup_code.ensures))))

pub returns-in-Err-begin-clause-valid : goal.returns-in-Err-begin-clause-valid
returns-in-Err-begin-clause-valid c p h v =
    c.setup_code.ensures ∙ start-err c.in-Ok.value c.args.prologue.now c.args.setup.now (Err c.in-Err-begin.fault) c.in-Err-begin.fault refl
    (omega (arith, c.if-prologue-gt-MAX_LEN.false)) (omega (arith, c.if-setup-gt9.false)) c.in-Err-begin.ensures.fault
    ∙ ap (λ (z : Plan). start_code z c.args.prologue.now c.args.setup.now) (sym (c.in-Ok.ensures.one p h))

pub returns-clause-name : goal.returns-clause-name
returns-clause-name c = valid-name c.args.pattern.now c.in-Ok.value 0 c.in-Ok.ensures.named (other 0 1 refl)

pub returns-clause-pattern : goal.returns-clause-pattern
returns-clause-pattern c =
    valid-pattern c.args.pattern.now c.in-Ok.value 0 c.in-Ok.ensures.named c.in-Ok.ensures.valid c.in-Ok.ensures.one (other 0 2 refl)

pub returns-clause-valid : goal.returns-clause-valid
returns-clause-valid c p h v =
    start-ok c.in-Ok.value c.args.prologue.now c.args.setup.now (Ok c.in-Ok-begin.value) c.in-Ok-begin.value refl
    (omega (arith, c.if-prologue-gt-MAX_LEN.false)) (omega (arith, c.if-setup-gt9.false)) c.in-Ok-begin.ensures.fault
    ∙ ap (λ (z : Plan). start_code z c.args.prologue.now c.args.setup.now) (sym (c.in-Ok.ensures.one p h))

pub returns-clause-started : goal.returns-clause-started
returns-clause-started c e =
    let h = c.in-Ok-begin.value in
    let new = c.store_progress.new.handshake in
    let text = c.store_progress.ensures.text ∙ c.store_start.ensures.stores.text_is in
    let same : handshake_from_c h.pattern new ≡ h =
    c.store_progress.ensures.same h c.progress.ensures.value (c.in-Ok-begin.ensures.keys ∙ sym c.store_start.ensures.stores.keys)
    (c.in-Ok-begin.ensures.role ∙ ap role_in (sym c.store_start.ensures.stores.role)) (c.in-Ok-begin.ensures.psks ∙ sym c.store_start.ensures.stores.psks) in
    record {
      begun_is = λ p named later.
          subst (λ (z : Plan). KeepsParty new z (begun_in z c.args.prologue.now c.args.setup.now later)) (sym (c.in-Ok.ensures.one p named))
          (keeps-start new h c.in-Ok.value c.args.pattern.now later (begun_in c.in-Ok.value c.args.prologue.now c.args.setup.now later)
          text c.in-Ok.ensures.named c.in-Ok-begin.ensures.pattern same (c.in-Ok-begin.ensures.matches later));
      usable = usable-stored new h (c.store_progress.ensures.mark ∙ c.store_start.ensures.stores.mark) (omega (arith, c.store_progress.ensures.text_len, c.store_start.ensures.stores.len))
          (omega (arith, c.store_progress.ensures.answers, c.store_start.ensures.stores.answers)) (omega (arith, c.store_progress.ensures.psks, c.if-setup-gt9.false))
          (subst (λ (z : List ℕ). IsPatternOf z h.pattern) (sym text)
          (subst (λ (q : Plan). IsPatternOf c.args.pattern.now q) (sym c.in-Ok-begin.ensures.pattern) c.in-Ok.ensures.named))
          c.progress.ensures.valid same c.progress.ensures.whole;
      text_is = text;
      blank = record {
        psks = ap (take (9 - c.args.setup.now.psk_count)) c.store_progress.ensures.rest.0 ∙ c.store_start.ensures.blank.psks;
        dh_results = c.store_progress.ensures.rest.1 ∙ c.store_start.ensures.blank.dh_results;
      };
    }
