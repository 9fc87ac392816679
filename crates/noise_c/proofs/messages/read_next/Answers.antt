use Rattle.std.specs.Prelude.{Ok, Err, drop, ◌+◌, ◌-◌}
use Rattle.std.proofs.Common.{false, ◌≡◌, ◌≤◌, ◌⊎◌, ℕ, [], List, length, refl, ap, sym, subst, ◌∙◌, arith}
use Rattle.noise_c.proofs.Common.{Result, false≢true, Table, Cause, Short, Tag, Agreement, ReadFault, Want, HandshakeValue, IsWantedToRead, WantsPskToRead, DoesNotRead, Party, Refuses, read_code, NoiseResult, handshake_from_c, IsUsable, ReportsWant, party_with, pairs_in}
use Rattle.noise_handshake.specs.declared.faults.Unread.{Unread}
use Rattle.noise_handshake.specs.declared.faults.Want.TheVariants.{Psk}
use Rattle.noise_c.specs.HalfStructs.{IsAround}
use Rattle.noise_c.specs.Outcomes.ReadOutcome.{accepted, declined, refused, too_long, unusable}
use Rattle.noise_c.proofs.Stored.{keeps-psks, psks-left, usable-after, was-read, matches-for}
use Rattle.noise_c.proofs.Numbers.{IsPlain, other, above, not-after, not-before, too-long, wants-other, plain-among, plain-within, refused-within}
use Rattle.noise_c.proofs.Wanting.{reads-outcome}
use Rattle.noise_handshake.specs.declared.faults.ReadFault.TheVariants as read
use Rattle.noise_handshake.specs.declared.faults.Unread.TheVariants as unread
use Rattle.noise_handshake.specs.Calls.{IsUnread}
use Rattle.noise_c.proofs.messages.read_next.Goals as goal

pub returns-in-None : goal.returns-in-None
returns-in-None c =
    let none : IsUsable c.args.handshake.now → ⊥ = λ u. false≢true (c.in-None.ensures.usable.1 u) in
    record {
      unusable = (λ _. none, λ _. refl);
      length = (other 23 24 refl, λ w. absurd (none w.1));
      outcome = unusable none refl refl;
      held = other 23 0 refl;
      rest = other 23 0 refl;
      unchanged = λ _. (refl, refl);
      asked = λ u _ _ _ _ _ _. absurd (none u);
    }

pub returns-then-message-gt-MAX_LEN : goal.returns-then-message-gt-MAX_LEN
returns-then-message-gt-MAX_LEN c =
    let usable = c.in-Some.ensures.usable.0 refl in
    let long = c.if-message-gt-MAX_LEN.true in
    record {
      unusable = (other 24 23 refl, λ none. absurd (none usable));
      length = (λ _. (long, usable), λ _. refl);
      outcome = too_long long usable refl refl;
      held = other 24 0 refl;
      rest = other 24 0 refl;
      unchanged = λ _. (refl, refl);
      asked = λ _ len _ _ _ _ _. too-long (length c.args.message.now) 65535 long len;
    }

ok-err : {A : Type 0} (x : ℕ × ℕ) (u : Unread) → ◌≡◌ {A = Result (ℕ × ℕ) Unread} (Ok x) (Err u) → A
ok-err x u e = cc

-- the bytes before and after a payload, by its length
around : (old new : List ℕ) (start end : ℕ) → start ≤ end → IsAround old new start end → IsAround old new start (start + (end - start))
around old new start end r both =
    let n : end ≡ start + (end - start) = omega (arith, r) in
    (both.0, subst (λ (z : ℕ). drop z new ≡ drop z old) n both.1)

pub returns-in-Ok : goal.returns-in-Ok
returns-in-Ok c =
    let old = c.args.handshake.now in
    let new = c.store_progress.new.handshake in
    let m = c.read_or_ask.new.message in
    let start : ℕ = c.in-Ok.start in
    let end : ℕ = c.in-Ok.end in
    let h = c.in-Some.value in
    let h2 = c.read_or_ask.new.self in
    let before = c.in-Some.ensures.usable.0 refl in
    let r = c.in-Ok.ensures.reads [] in
    let stays : h2.pattern ≡ h.pattern = ap (λ (z : HandshakeValue Table). z.pattern) r.1.1.2 in
    let same : handshake_from_c h2.pattern new ≡ h2 =
    c.store_progress.ensures.same h2 c.progress.ensures.value
    (ap (λ (z : HandshakeValue Table). z.keys) r.1.1.2 ∙ ap (λ (z : HandshakeValue Table). z.keys) c.in-Some.ensures.value)
    (ap (λ (z : HandshakeValue Table). z.role) r.1.1.2 ∙ ap (λ (z : HandshakeValue Table). z.role) c.in-Some.ensures.value)
    (psks-left old h h2 _ _ _ before.psks c.in-Some.ensures.count c.in-Some.ensures.value r.1.1.2 c.psks.ensures.value) in
    let usable : IsUsable new = usable-after old new h h2 before c.store_progress.ensures.mark c.store_progress.ensures.text_len c.store_progress.ensures.answers
    (omega (arith, c.store_progress.ensures.psks, c.psks.ensures.few)) c.store_progress.ensures.text c.in-Some.ensures.named stays
    c.progress.ensures.valid same c.progress.ensures.whole in
    record {
      unusable = (other 0 23 refl, λ none. absurd (none before));
      length = (other 0 24 refl, λ w. too-long (length c.args.message.now) 65535 w.0 c.if-message-gt-MAX_LEN.false);
      outcome = accepted usable refl (omega (arith, r.0.0.0, r.0.0.1))
          (around c.args.message.now m start end r.0.0.0 r.0.1)
          (λ p v k.
          was-read old new h h2 p v c.in-Some.ensures.one c.in-Some.ensures.value stays c.store_progress.ensures.text same k
          c.args.message.now m start end r.0.0.0 (c.in-Ok.ensures.reads k.later).1);
      unchanged = above 1 0 refl;
      held = λ _. keeps-psks old new h h2 _ _ c.in-Some.ensures.one c.in-Some.ensures.value r.1.0 r.1.1.2 same;
      rest = λ _. c.store_progress.ensures.only;
      asked = λ _ _ p v k remote asks.
          let s = matches-for old h p v c.in-Some.ensures.one c.in-Some.ensures.value k in
          let w = subst (λ (i : ℕ). WantsPskToRead v i c.args.message.now remote) (sym c.in-Some.ensures.count) asks in
          ok-err (c.in-Ok.start, c.in-Ok.end) _ (c.in-Ok.ensures.asked k.later remote (subst (λ (z : Party). WantsPskToRead z (length h.psks) c.args.message.now remote) (sym s) w));
    }

declined-not : {A : Type 0} (u : Unread) (fault : ReadFault) (b : Want) → ◌≡◌ {A = Result (ℕ × ℕ) Unread} (Err u) (Err (unread.Wants b))
    → u ≡ unread.Declined fault → A
declined-not u fault b e f = cc

-- the cause of that number
agreement-of : (token : ℕ) (cause : Cause) → read_code (read.Refused token cause) ≡ 14 → cause ≡ Agreement
agreement-of token Short e = other 15 14 refl e
agreement-of token Tag e = other 16 14 refl e
agreement-of token Agreement e = refl

past : (code : ℕ) → 14 ≤ code → (code ≡ 14 → ⊥) → 15 ≤ code
past code within other = omega (arith, within, other)

-- what isn't read for a fault that is no refusal
module _ (later : List (List ℕ)) (h : HandshakeValue Table) (m : List ℕ) where
  not-due : (fault : ReadFault) → IsPlain fault → IsUnread pairs_in later h m (unread.Declined fault) → DoesNotRead (party_with pairs_in later h) m fault
  not-due read.Ended plain u = u
  not-due read.Done plain u = u
  not-due read.NotYourTurn plain u = u
  not-due (read.Refused token cause) plain u = absurd (plain token cause refl)

pub returns-in-Refused : goal.returns-in-Refused
returns-in-Refused c =
    let old = c.args.handshake.now in
    let h = c.in-Some.value in
    let fault = c.in-Err-Declined.fault in
    let code : ℕ = c.read_code-code.result in
    let is : code ≡ read_code fault = c.read_code-code.ensures ∙ ap read_code c.in-Err-Declined.fault-is in
    let why : fault ≡ read.Refused c.in-Refused.token c.in-Refused.cause = sym c.in-Err-Declined.fault-is ∙ c.in-Refused.is in
    let same : c.read_or_ask.new.message ≡ c.args.message.now = (c.in-Err-Declined.ensures.reads []).2 in
    let within : (14 ≤ code) × (code ≤ 16) = refused-within fault code _ _ is why in
    let is-cause = is ∙ ap read_code why in
    let refusal = λ (later : List (List ℕ)).
    subst (λ (z : ReadFault). IsUnread pairs_in later h c.args.message.now (unread.Declined z)) why
    (subst (λ (z : Unread). IsUnread pairs_in later h c.args.message.now z) c.in-Err-Declined.field-0-is (c.in-Err-Declined.ensures.reads later).0) in
    record {
      unusable = (not-after code 16 23 within.1 refl, λ none. absurd (none (c.in-Some.ensures.usable.0 refl)));
      length = (not-after code 16 24 within.1 refl, λ w. too-long (length c.args.message.now) 65535 w.0 c.if-message-gt-MAX_LEN.false);
      unchanged = λ _. (refl, same);
      held = not-before code 14 0 within.0 refl;
      rest = not-before code 14 0 within.0 refl;
      outcome = refused code (past code within.0 (λ e. (refusal []).1 (agreement-of c.in-Refused.token c.in-Refused.cause (sym is-cause ∙ e)))) within.1 refl refl
          (λ u. u) same
          (λ p v k. record {
            cause = c.in-Refused.cause;
            code_is = is-cause;
            refuses = subst (λ (z : Party). Refuses z c.args.message.now c.in-Refused.token c.in-Refused.cause)
                (matches-for old h p v c.in-Some.ensures.one c.in-Some.ensures.value k) (refusal k.later).0;
            keeps = k;
          });
      asked = λ _ _ p v k remote asks.
          let s = matches-for old h p v c.in-Some.ensures.one c.in-Some.ensures.value k in
          let w = subst (λ (i : ℕ). WantsPskToRead v i c.args.message.now remote) (sym c.in-Some.ensures.count) asks in
          declined-not c.in-Err-Declined.field-0 fault (Psk remote) (c.in-Err-Declined.ensures.asked k.later remote (subst (λ (z : Party). WantsPskToRead z (length h.psks) c.args.message.now remote) (sym s) w)) c.in-Err-Declined.field-0-is;
    }

pub returns-in_default : goal.returns-in_default
returns-in_default c =
    let old = c.args.handshake.now in
    let h = c.in-Some.value in
    let fault = c.in-Err-Declined.fault in
    let code : ℕ = c.read_code-code.result in
    let is : code ≡ read_code fault = c.read_code-code.ensures ∙ ap read_code c.in-Err-Declined.fault-is in
    let plain : IsPlain fault = λ token cause e. c.in_default.not-Refused token cause (c.in-Err-Declined.fault-is ∙ e) in
    let unchanged : c.read_or_ask.new.message ≡ c.args.message.now = (c.in-Err-Declined.ensures.reads []).2 in
    let among : (code ≡ 10) ⊎ ((12 ≤ code) × (code ≤ 13)) = plain-among fault code plain is in
    let within : (10 ≤ code) × (code ≤ 13) = plain-within code among in
    record {
      unusable = (not-after code 13 23 within.1 refl, λ none. absurd (none (c.in-Some.ensures.usable.0 refl)));
      length = (not-after code 13 24 within.1 refl, λ w. too-long (length c.args.message.now) 65535 w.0 c.if-message-gt-MAX_LEN.false);
      unchanged = λ _. (refl, unchanged);
      held = not-before code 10 0 within.0 refl;
      rest = not-before code 10 0 within.0 refl;
      outcome = declined code among refl refl unchanged
          (λ p v k.
          let s = matches-for old h p v c.in-Some.ensures.one c.in-Some.ensures.value k in
          let u = not-due k.later h c.args.message.now fault plain
          (subst (λ (z : Unread). IsUnread pairs_in k.later h c.args.message.now z) c.in-Err-Declined.field-0-is
          (c.in-Err-Declined.ensures.reads k.later).0) in
          record {
            fault = fault;
            code_is = is;
            declines = subst (λ (z : Party). DoesNotRead z c.args.message.now fault) s u;
          });
      asked = λ _ _ p v k remote asks.
          let s = matches-for old h p v c.in-Some.ensures.one c.in-Some.ensures.value k in
          let w = subst (λ (i : ℕ). WantsPskToRead v i c.args.message.now remote) (sym c.in-Some.ensures.count) asks in
          declined-not c.in-Err-Declined.field-0 fault (Psk remote) (c.in-Err-Declined.ensures.asked k.later remote (subst (λ (z : Party). WantsPskToRead z (length h.psks) c.args.message.now remote) (sym s) w)) c.in-Err-Declined.field-0-is;
    }

want-same : (u : Unread) (a b : Want) → ◌≡◌ {A = Result (ℕ × ℕ) Unread} (Err u) (Err (unread.Wants b)) → u ≡ unread.Wants a → a ≡ b
want-same u a b e f = cc

-- what is wanted, with its number
wanted : (a b : Want) (results : NoiseResult) (code : ℕ) → b ≡ a → ReportsWant b results code → ReportsWant a results code
wanted a b results code e t = subst (λ (w : Want). ReportsWant w results code) e t

pub returns-in-Err-Wants-clause-unusable : goal.returns-in-Err-Wants-clause-unusable
returns-in-Err-Wants-clause-unusable c = (
  wants-other c.in-Err-Wants.want c.report_want.new.results c.report_want.result 23
      (wanted c.in-Err-Wants.want _ c.report_want.new.results c.report_want.result c.in-Err-Wants.want-is c.report_want.ensures.want) refl refl,
  λ none. absurd (none (c.in-Some.ensures.usable.0 refl)),
)

pub returns-in-Err-Wants-clause-length : goal.returns-in-Err-Wants-clause-length
returns-in-Err-Wants-clause-length c = (
  wants-other c.in-Err-Wants.want c.report_want.new.results c.report_want.result 24
      (wanted c.in-Err-Wants.want _ c.report_want.new.results c.report_want.result c.in-Err-Wants.want-is c.report_want.ensures.want) refl refl,
  λ w. too-long (length c.args.message.now) 65535 w.0 c.if-message-gt-MAX_LEN.false,
)

pub returns-in-Err-Wants-clause-outcome : goal.returns-in-Err-Wants-clause-outcome
returns-in-Err-Wants-clause-outcome c =
    let h = c.in-Some.value in
    reads-outcome false c.args.handshake.now _ c.args.message.now c.read_or_ask.new.message c.args.results.now (length h.psks)
    c.in-Err-Wants.want c.report_want.new.results c.report_want.result
    (wanted c.in-Err-Wants.want _ c.report_want.new.results c.report_want.result c.in-Err-Wants.want-is c.report_want.ensures.want)
    c.report_want.ensures.answer c.report_want.ensures.remote c.in-Some.ensures.count (c.in-Err-Wants.ensures.reads []).2
    (λ p v k. subst (λ (z : Party). IsWantedToRead z (length h.psks) c.args.message.now c.in-Err-Wants.want)
    (matches-for c.args.handshake.now h p v c.in-Some.ensures.one c.in-Some.ensures.value k)
    (subst (λ (u : Unread). IsUnread pairs_in k.later h c.args.message.now u) c.in-Err-Wants.field-0-is
    (c.in-Err-Wants.ensures.reads k.later).0))

pub returns-in-Err-Wants-clause-asked : goal.returns-in-Err-Wants-clause-asked
returns-in-Err-Wants-clause-asked c usable len p v k remote asks =
    let h = c.in-Some.value in
    let s = matches-for c.args.handshake.now h p v c.in-Some.ensures.one c.in-Some.ensures.value k in
    let w = subst (λ (i : ℕ). WantsPskToRead v i c.args.message.now remote) (sym c.in-Some.ensures.count) asks in
    let same : c.in-Err-Wants.want ≡ Psk remote =
    want-same c.in-Err-Wants.field-0 c.in-Err-Wants.want (Psk remote) (c.in-Err-Wants.ensures.asked k.later remote (subst (λ (z : Party). WantsPskToRead z (length h.psks) c.args.message.now remote) (sym s) w)) c.in-Err-Wants.field-0-is in
    subst (λ (z : Want). ReportsWant z c.report_want.new.results c.report_want.result) (c.in-Err-Wants.want-is ∙ same) c.report_want.ensures.want

pub returns-in-Err-Wants-clause-held : goal.returns-in-Err-Wants-clause-held
returns-in-Err-Wants-clause-held c =
    wants-other c.in-Err-Wants.want c.report_want.new.results c.report_want.result 0
    (wanted c.in-Err-Wants.want _ c.report_want.new.results c.report_want.result c.in-Err-Wants.want-is c.report_want.ensures.want) refl refl

pub returns-in-Err-Wants-clause-rest : goal.returns-in-Err-Wants-clause-rest
returns-in-Err-Wants-clause-rest c =
    wants-other c.in-Err-Wants.want c.report_want.new.results c.report_want.result 0
    (wanted c.in-Err-Wants.want _ c.report_want.new.results c.report_want.result c.in-Err-Wants.want-is c.report_want.ensures.want) refl refl

pub overflow_sub-results : goal.overflow_sub-results
overflow_sub-results c = (c.in-Ok.ensures.reads []).0.0.0

pub returns-in-Err-Wants-clause-unchanged : goal.returns-in-Err-Wants-clause-unchanged
returns-in-Err-Wants-clause-unchanged c _ = (refl, (c.in-Err-Wants.ensures.reads []).2)
