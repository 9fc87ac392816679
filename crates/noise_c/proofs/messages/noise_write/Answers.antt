use Rattle.std.specs.Prelude.{Ok, Err}
use Rattle.std.proofs.Common.{◌≡◌, ◌≤◌, ℕ, inl, inr, refl, ap, sym, subst, ◌∙◌, arith, [], List, length, take}
use Rattle.std.proofs.lemmas.Option.{same_Some}
use Rattle.noise_c.proofs.Common.{Result, Option, Some, None, false≢true, Plan, Table, Want, HandshakeValue, length_unless, message_len_of, DoesNotWrite, IsAgreement, IsWantedToWrite, WantsPskToWrite, Party, write_code, handshake_from_c, text_from_c, IsPatternOf, IsUsable, KeepsParty, ReportsWant, party_with, pairs_in}
use Rattle.noise_handshake.specs.declared.faults.WriteFault.{WriteFault}
use Rattle.noise_handshake.specs.declared.faults.Unwritten.{Unwritten}
use Rattle.noise_handshake.specs.declared.faults.Want.TheVariants.{Psk}
use Rattle.noise_c.proofs.Stored.{keeps-psks, psks-left, usable-after, was-written, matches-for, length-for}
use Rattle.noise_c.specs.Outcomes.WriteOutcome.{written, withheld, no_room, unusable}
use Rattle.noise_c.proofs.Numbers.{other, not-after, not-before, too-long, under, wants-other, withheld-within, withheld-agreement}
use Rattle.noise_c.proofs.Wanting.{writes-outcome}
use goal.{in-Some-message_len+else-needed-out, in_default}
use Rattle.noise_handshake.specs.declared.faults.WriteFault.TheVariants as write
use Rattle.noise_handshake.specs.declared.faults.Unwritten.TheVariants as unwritten
use Rattle.noise_handshake.specs.Calls.{IsUnwritten}
use Rattle.noise_c.proofs.messages.noise_write.Goals as goal

pub returns-in-None : goal.returns-in-None
returns-in-None c =
    let none : IsUsable c.args.handshake.now → ⊥ = λ u. false≢true (c.in-None.ensures.usable.1 u) in
    record {
      unusable = (λ _. none, λ _. refl);
      outcome = unusable none refl refl refl;
      held = other 23 0 refl;
      rest = other 23 0 refl;
      short = λ _ _ _ _ _. inr refl;
      asked = λ u _ _ _ _ _ _ _. absurd (none u);
    }

-- the only length of a message
same-len : (o : Option ℕ) (m n : ℕ) → o ≡ Some m → o ≡ Some n → m ≡ n
same-len o m n e f = same_Some m n (sym e ∙ f)

pub returns-then-needed-out : goal.returns-then-needed-out
returns-then-needed-out c =
    let old = c.args.handshake.now in
    let h = c.in-Some.value in
    let n : ℕ = length c.args.payload.now in
    let needed : ℕ = c.in-Some-message_len.needed in
    let len : (p : Plan) → IsPatternOf (text_from_c old) p → message_len_of (handshake_from_c p old) n ≡ Some needed =
    λ p named. length-for old h p n c.in-Some.ensures.one c.in-Some.ensures.value named ∙ sym c.message_len.ensures ∙ c.in-Some-message_len.is in
    record {
      unusable = (other 18 23 refl, λ none. absurd (none (c.in-Some.ensures.usable.0 refl)));
      outcome = no_room len c.if-needed-out.true refl refl refl;
      held = other 18 0 refl;
      rest = other 18 0 refl;
      short = λ _ _ _ _ _. inl refl;
      asked = λ _ p v k _ m e fits. too-long needed _ c.if-needed-out.true
          (subst (λ (z : ℕ). z ≤ length c.args.out.now) (same-len _ m needed e (len p k.pattern)) fits);
    }

-- there is room for the message that is due
some-fits : (o : Option ℕ) (needed room : ℕ) → o ≡ Some needed → needed ≤ room → (n : ℕ) → o ≡ Some n → n ≤ room
some-fits o needed room e fits n f = subst (λ (z : ℕ). z ≤ room) (same-len o needed n e f) fits

none-fits : (o : Option ℕ) (room : ℕ) → o ≡ None → (n : ℕ) → o ≡ Some n → n ≤ room
none-fits o room e n f = cc (sym e ∙ f)

-- nothing is wrong where a message has a length
due : (o : Option WriteFault) (m n : ℕ) → length_unless o m ≡ Some n → o ≡ None
due None m n e = refl
due (Some fault) m n e = cc

ok-err : {A : Type 0} (len : ℕ) (u : Unwritten) → ◌≡◌ {A = Result ℕ Unwritten} (Ok len) (Err u) → A
ok-err len u e = cc

want-same : (u : Unwritten) (a b : Want) → ◌≡◌ {A = Result ℕ Unwritten} (Err u) (Err (unwritten.Wants b)) → u ≡ unwritten.Wants a → a ≡ b
want-same u a b e f = cc

withheld-not : {A : Type 0} (u : Unwritten) (fault : WriteFault) (b : Want) → ◌≡◌ {A = Result ℕ Unwritten} (Err u) (Err (unwritten.Wants b))
    → u ≡ unwritten.Withheld fault → A
withheld-not u fault b e f = cc

pub returns-in-Ok : goal.returns-in-Ok
returns-in-Ok c =
    let old = c.args.handshake.now in
    let new = c.store_progress.new.handshake in
    let h = c.in-Some.value in
    let h2 = c.write_or_ask.new.self in
    let n : ℕ = length c.args.payload.now in
    let usable = c.in-Some.ensures.usable.0 refl in
    let r = c.in-Ok.ensures.writes [] in
    let stays : h2.pattern ≡ h.pattern = ap (λ (z : HandshakeValue Table). z.pattern) r.1.1.2 in
    let same : handshake_from_c h2.pattern new ≡ h2 =
    c.store_progress.ensures.same h2 c.progress.ensures.value
    (ap (λ (z : HandshakeValue Table). z.keys) r.1.1.2 ∙ ap (λ (z : HandshakeValue Table). z.keys) c.in-Some.ensures.value)
    (ap (λ (z : HandshakeValue Table). z.role) r.1.1.2 ∙ ap (λ (z : HandshakeValue Table). z.role) c.in-Some.ensures.value)
    (psks-left old h h2 _ _ _ usable.psks c.in-Some.ensures.count c.in-Some.ensures.value r.1.1.2 c.psks.ensures.value) in
    record {
      unusable = (other 0 23 refl, λ none. absurd (none usable));
      outcome = written
          (usable-after old new h h2 usable c.store_progress.ensures.mark c.store_progress.ensures.text_len c.store_progress.ensures.answers
          (omega (arith, c.store_progress.ensures.psks, c.psks.ensures.few)) c.store_progress.ensures.text c.in-Some.ensures.named stays
          c.progress.ensures.valid same c.progress.ensures.whole)
          (λ p named. length-for old h p n c.in-Some.ensures.one c.in-Some.ensures.value named ∙ r.0.0)
          refl r.0.1 r.0.2
          (λ p v k.
          was-written old new h h2 p v c.in-Some.ensures.one c.in-Some.ensures.value stays c.store_progress.ensures.text same k
          c.args.payload.now (take c.in-Ok.len c.write_or_ask.new.out) (c.in-Ok.ensures.writes k.later).1);
      held = λ _. keeps-psks old new h h2 _ _ c.in-Some.ensures.one c.in-Some.ensures.value r.1.0 r.1.1.2 same;
      rest = λ _. c.store_progress.ensures.only;
      short = λ p named m e more.
          let f : message_len_of h n ≡ Some m = sym (length-for old h p n c.in-Some.ensures.one c.in-Some.ensures.value named) ∙ e in
          too-long m (length c.args.out.now) more (elim c.match-message_len.branch [
            | in-Some-message_len+else-needed-out w ↦ some-fits _ _ _ w.in-Some-message_len.is w.if-needed-out.false m (c.message_len.ensures ∙ f)
            | in_default w ↦ none-fits _ _ w.in_default.is m (c.message_len.ensures ∙ f)
          ]);
      asked = λ _ p v k w m e _.
          let f : message_len_of h n ≡ Some m = sym (length-for old h p n c.in-Some.ensures.one c.in-Some.ensures.value k.pattern) ∙ e in
          let s = matches-for old h p v c.in-Some.ensures.one c.in-Some.ensures.value k in
          let x = subst (λ (i : ℕ). WantsPskToWrite v i) (sym c.in-Some.ensures.count) w in
          ok-err c.in-Ok.len _ (c.in-Ok.ensures.asked (due _ _ m f) k.later (subst (λ (z : Party). WantsPskToWrite z (length h.psks)) (sym s) x));
    }

pub returns-in-Err-Wants : goal.returns-in-Err-Wants
returns-in-Err-Wants c =
    let old = c.args.handshake.now in
    let h = c.in-Some.value in
    let n : ℕ = length c.args.payload.now in
    let want = c.in-Err-Wants.want in
    let results = c.report_want.new.results in
    let code : ℕ = c.report_want.result in
    let t : ReportsWant want results code = subst (λ (w : Want). ReportsWant w results code) c.in-Err-Wants.want-is c.report_want.ensures.want in
    let leaves : (p : Plan) (v : Party) → KeepsParty old p v → IsWantedToWrite v (length h.psks) want =
    λ p v k. subst (λ (z : Party). IsWantedToWrite z (length h.psks) want) (matches-for old h p v c.in-Some.ensures.one c.in-Some.ensures.value k)
    (subst (λ (u : Unwritten). IsUnwritten pairs_in k.later h n u) c.in-Err-Wants.field-0-is (c.in-Err-Wants.ensures.writes k.later).0).1 in
    record {
      unusable = (wants-other want results code 23 t refl refl, λ none. absurd (none (c.in-Some.ensures.usable.0 refl)));
      outcome = writes-outcome old _ c.args.payload.now c.args.out.now c.write_or_ask.new.out c.args.results.now (length h.psks) want results code t
          c.report_want.ensures.answer c.report_want.ensures.remote c.in-Some.ensures.count refl
          (c.in-Err-Wants.ensures.writes []).2 leaves;
      held = wants-other want results code 0 t refl refl;
      rest = wants-other want results code 0 t refl refl;
      short = λ p named m e more.
          let f : message_len_of h n ≡ Some m = sym (length-for old h p n c.in-Some.ensures.one c.in-Some.ensures.value named) ∙ e in
          too-long m (length c.args.out.now) more (elim c.match-message_len.branch [
            | in-Some-message_len+else-needed-out w ↦ some-fits _ _ _ w.in-Some-message_len.is w.if-needed-out.false m (c.message_len.ensures ∙ f)
            | in_default w ↦ none-fits _ _ w.in_default.is m (c.message_len.ensures ∙ f)
          ]);
      asked = λ _ p v k w m e _.
          let f : message_len_of h n ≡ Some m = sym (length-for old h p n c.in-Some.ensures.one c.in-Some.ensures.value k.pattern) ∙ e in
          let s = matches-for old h p v c.in-Some.ensures.one c.in-Some.ensures.value k in
          let x = subst (λ (i : ℕ). WantsPskToWrite v i) (sym c.in-Some.ensures.count) w in
          let same : want ≡ Psk h.remote.s = want-same c.in-Err-Wants.field-0 want _
          (c.in-Err-Wants.ensures.asked (due _ _ m f) k.later (subst (λ (z : Party). WantsPskToWrite z (length h.psks)) (sym s) x)) c.in-Err-Wants.field-0-is in
          (subst (λ (z : Want). ReportsWant z results code) same t).0;
    }

below : (code : ℕ) → code ≤ 14 → (code ≡ 14 → ⊥) → code ≤ 13
below code within other = let less = under code 14 within other in omega arith

-- what isn't written for no want of a DH result
module _ (later : List (List ℕ)) (h : HandshakeValue Table) (n : ℕ) where
  plain : (fault : WriteFault) → IsUnwritten pairs_in later h n (unwritten.Withheld fault)
      → (IsAgreement fault → ⊥) × DoesNotWrite (party_with pairs_in later h) n fault
  plain write.Ended u = (λ none. none, u)
  plain write.Done u = (λ none. none, u)
  plain write.NotYourTurn u = (λ none. none, u)
  plain write.TooLong u = (λ none. none, u)
  plain (write.Agreement token) u = absurd u

pub returns-in-Err-Withheld : goal.returns-in-Err-Withheld
returns-in-Err-Withheld c =
    let old = c.args.handshake.now in
    let h = c.in-Some.value in
    let n : ℕ = length c.args.payload.now in
    let fault = c.in-Err-Withheld.fault in
    let code : ℕ = c.write_code.result in
    let is : code ≡ write_code fault = c.write_code.ensures ∙ ap write_code c.in-Err-Withheld.fault-is in
    let within : (10 ≤ code) × (code ≤ 14) = withheld-within fault code is in
    let w = c.in-Err-Withheld.ensures.writes in
    let withheld-for = λ (later : List (List ℕ)). plain later h n fault
    (subst (λ (z : Unwritten). IsUnwritten pairs_in later h n z) c.in-Err-Withheld.field-0-is (w later).0) in
    let far : IsAgreement fault → ⊥ = (withheld-for []).0 in
    let low : code ≤ 13 = below code within.1 (λ e. far (withheld-agreement fault (sym is ∙ e))) in
    record {
      unusable = (not-after code 14 23 within.1 refl, λ none. absurd (none (c.in-Some.ensures.usable.0 refl)));
      held = not-before code 10 0 within.0 refl;
      rest = not-before code 10 0 within.0 refl;
      outcome = withheld code within.0 low refl refl (w []).2
          (λ p v k. record {
            fault = fault;
            code_is = is;
            withholds = subst (λ (z : Party). DoesNotWrite z n fault) (matches-for old h p v c.in-Some.ensures.one c.in-Some.ensures.value k)
                (withheld-for k.later).1;
          });
      short = λ p named m e more.
          let f : message_len_of h n ≡ Some m = sym (length-for old h p n c.in-Some.ensures.one c.in-Some.ensures.value named) ∙ e in
          too-long m (length c.args.out.now) more (elim c.match-message_len.branch [
            | in-Some-message_len+else-needed-out w ↦ some-fits _ _ _ w.in-Some-message_len.is w.if-needed-out.false m (c.message_len.ensures ∙ f)
            | in_default w ↦ none-fits _ _ w.in_default.is m (c.message_len.ensures ∙ f)
          ]);
      asked = λ _ p v k w m e _.
          let f : message_len_of h n ≡ Some m = sym (length-for old h p n c.in-Some.ensures.one c.in-Some.ensures.value k.pattern) ∙ e in
          let s = matches-for old h p v c.in-Some.ensures.one c.in-Some.ensures.value k in
          let x = subst (λ (i : ℕ). WantsPskToWrite v i) (sym c.in-Some.ensures.count) w in
          withheld-not c.in-Err-Withheld.field-0 fault _ (c.in-Err-Withheld.ensures.asked (due _ _ m f) k.later (subst (λ (z : Party). WantsPskToWrite z (length h.psks)) (sym s) x)) c.in-Err-Withheld.field-0-is;
    }
