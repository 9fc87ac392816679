use Rattle.std.proofs.Common.{◌≡◌, true, false, inl, inr, refl, ap, sym, ◌∙◌, arith}
use Rattle.noise_c.proofs.Common.{false≢true, nat_tests, HandshakeValue, Table, IsUsable}
use Rattle.noise_c.specs.Finishing.{finish_code}
use Rattle.noise_c.proofs.Stored.{matches-for, opens-with}
use Rattle.noise_c.proofs.Finished.{finish-done, finish-early, finish-ended, stored-by, contrary}
use Rattle.noise_c.proofs.Numbers.{other}
use Rattle.noise_c.proofs.split.opened_of.Goals as goal

pub returns-in-None-clause-code : goal.returns-in-None-clause-code
returns-in-None-clause-code c =
    let none : IsUsable c.args.handshake.now → ⊥ = λ u. false≢true (c.in-None.ensures.usable.1 u) in
    record { unusable = (λ _. none, λ _. refl); same = λ u. absurd (none u); codes = inr (inr (inr refl)) }

pub returns-in-Ok-clause-code : goal.returns-in-Ok-clause-code
returns-in-Ok-clause-code c =
    let h = c.in-Some.value in
    let w = c.in-Ok.ensures.when.0 refl in
    record {
      unusable = (other 0 23 refl, λ none. absurd (none (c.in-Some.ensures.usable.0 refl)));
      same = λ u. sym (ap finish_code (stored-by c.args.handshake.now h u.pattern (c.in-Some.ensures.one u.pattern u.named) c.in-Some.ensures.value)
          ∙ finish-done h w.0 w.1);
      codes = inl refl;
    }

pub returns-in-Ok-clause-opens : goal.returns-in-Ok-clause-opens
returns-in-Ok-clause-opens c p v k =
    opens-with c.in-Some.value k.later c.in-Ok.opened v
    (matches-for c.args.handshake.now c.in-Some.value p v c.in-Some.ensures.one c.in-Some.ensures.value k) c.in-Ok.ensures.opened

pub returns-in-Err-clause-code : goal.returns-in-Err-clause-code
returns-in-Err-clause-code c =
    let h = c.in-Some.value in
    let over : h.ended ≡ true = ap (λ (z : HandshakeValue Table). z.ended) c.in-Some.ensures.value ∙ grind (arith, nat_tests, c.if-handshake-ne0.true) in
    record {
      unusable = (other 13 23 refl, λ none. absurd (none (c.in-Some.ensures.usable.0 refl)));
      same = λ u. sym (ap finish_code (stored-by c.args.handshake.now h u.pattern (c.in-Some.ensures.one u.pattern u.named) c.in-Some.ensures.value)
          ∙ finish-ended h over);
      codes = inr (inl refl);
    }

pub returns-in-Err-2-clause-code : goal.returns-in-Err-2-clause-code
returns-in-Err-2-clause-code c =
    let h = c.in-Some.value in
    let going : h.ended ≡ false = ap (λ (z : HandshakeValue Table). z.ended) c.in-Some.ensures.value ∙ grind (arith, nat_tests, c.if-handshake-ne0.false) in
    record {
      unusable = (other 19 23 refl, λ none. absurd (none (c.in-Some.ensures.usable.0 refl)));
      same = λ u. sym (ap finish_code (stored-by c.args.handshake.now h u.pattern (c.in-Some.ensures.one u.pattern u.named) c.in-Some.ensures.value)
          ∙ finish-early h going (λ n. contrary (c.in-Err-2.ensures.when.1 (going, n))));
      codes = inr (inr (inl refl));
    }
