-- What is shown of a message, by what the note of it says.
use Rattle.std.proofs.Common.{rules, ◌≡◌, ◌≢◌, ◌∙◌, ◌⊎◌, inl, inr, ◌+◌, ◌==◌, ◌&&◌, refl, sym, ap, subst, arith, ℕ, Bool, true, false, List, [], length, Option, Some, None, Result, Err, IsTrue, Vec, nat_lt}
use Rattle.std.specs.Prelude.{if◌then◌else◌}
use Rattle.noise_run.proofs.Common.{Role, Responder, Plan, same_role, SendFault, EndState, ended_session, progress_of, is_open, refusal, StepValue, Judges, refused, dropped, exhausted, Global, Entry, note_of, Note, Wrote, WriteFault, SideReads, SideWrites, writes_nothing, writes_handshake, writes_transport, accepts_handshake, accepts_transport, refuses_message, Side, FileKeys, RenewsBeforeLastNonce, Follow, Used, judged_use, read_use, unsent_use, written_message, written_use}
use Rattle.noise_handshake.specs.declared.faults.Cause.{Cause}
use Rattle.noise_handshake.specs.Matching.{after_message, after_own}
use Rattle.noise_handshake.specs.Party.{Accepts, Refuses}
use Rattle.noise_handshake.specs.Writing.{LacksDhResult, Writes}
use Rattle.noise_session.specs.Faults.{ends}
use Rattle.noise_session.specs.Progress.Progress.{Handshaking, Open, HasEnded}
use Rattle.noise_session.specs.Sending.{Sends}
use Rattle.noise_session.specs.Sending.Sends.{refuses, lacks_dh_result, sends_handshake, sends_transport}
use Rattle.noise_session.specs.Steps.StepValue.{Payload, Dropped, Refused, Exhausted}
use Rattle.noise_state.specs.declared.symmetric.SymmetricState.{SymmetricState}
use Rattle.noise_session.specs.Transport.{last_nonce, transport_key}
use Rattle.noise_trace.specs.declared.key_use.KeyUse.{KeyUse}
use Rattle.noise_trace.specs.declared.end_trace.EndTrace.{EndTrace}
use Rattle.noise_trace.specs.KeyUses.{message_use, opened_use, counted_use, rekeyed_after, sent_use, use_value, stopped_use, tried_use}
use Rattle.noise_trace.specs.KeyUses.KeyUseValue.{Nothing, Transport}
use Rattle.noise_duel.specs.Notes.{Judged}
use Rattle.noise_session.specs.declared.faults.SendFault.TheVariants as fault
use Rattle.noise_duel.specs.declared.entry.Entry.TheVariants as entry

abbrev Trace : Type 0
Trace = EndTrace FileKeys

-- ---- nonces

counted : (n : ℕ) (key : List ℕ) (renewed : Option (List ℕ)) → n ≢ last_nonce → RenewsBeforeLastNonce (Transport n key renewed)
counted n key None more = tt
counted n key (Some next) more = more

counted-passed : (r : SymmetricState) (writer : Role) (interval n : ℕ) → n ≢ last_nonce → RenewsBeforeLastNonce (counted_use r writer interval n)
counted-passed r writer interval n more = counted n (transport_key r writer interval n) (rekeyed_after r writer interval n) more

-- the first of three faults
free-of-third : (a b c : Bool) (x y z : SendFault) → (if a then Some x else if b then Some y else if c then Some z else None) ≡ None → c ≡ false
free-of-third true b c x y z e = absurd (cc e)
free-of-third false true c x y z e = absurd (cc e)
free-of-third false false true x y z e = absurd (cc e)
free-of-third false false false x y z e = refl

same-test : (n : ℕ) → (n == n) ≡ true
same-test n = grind arith

open-free : (ended passed : Bool) (plan : Plan) (role : Role) (n sent received payload : ℕ) (one_way : Bool)
    → refusal (if ended then HasEnded role else if passed then Open role one_way sent received else Handshaking plan role n) payload ≡ None
    → IsTrue (is_open (if ended then HasEnded role else if passed then Open role one_way sent received else Handshaking plan role n))
    → sent ≢ last_nonce
open-free true passed plan role n sent received payload one_way free opens = absurd (cc free)
open-free false false plan role n sent received payload one_way free opens = absurd (cc opens)
open-free false true plan role n sent received payload one_way free opens = λ last.
    let test : (sent == last_nonce) ≡ true = ap (λ (k : ℕ). k == last_nonce) last ∙ same-test last_nonce in
    let none : (sent == last_nonce) ≡ false =
    free-of-third (one_way && same_role role Responder) (nat_lt 65535 (payload + 16)) (sent == last_nonce) fault.OneWay fault.TooLong fault.Exhausted free in
    let bad : true ≡ false = sym test ∙ none in absurd (cc bad)

sent-free : (v : EndState) (payload : ℕ) → refusal (progress_of v) payload ≡ None → IsTrue (is_open (progress_of v)) → v.sent ≢ last_nonce
sent-free v payload free opens = search open-free

-- ---- writing

module _ (old new : Trace) (m : KeyUse) where
  -- a message that was written
  pub wrote-shown : (message : List ℕ) (number : ℕ)
      → ((v : EndState) (xs : List (List ℕ)) (payload : List ℕ) → Follow old v → Writes v.party payload xs message
      → (use_value m ≡ message_use v xs payload) × Follow new (record v { party = after_own v.party xs payload }))
      → ((v : EndState) (payload : List ℕ) → Follow old v → refusal (progress_of v) (length payload) ≡ None → IsTrue (is_open (progress_of v))
      → (use_value m ≡ sent_use v) × Follow new (record v { sent = v.sent + 1 }))
      → (s : Side) (payload : List ℕ) (next : Side) (note : Note) (w : SideWrites s payload note next) → Follow old s.state → Wrote number ≡ note
      → message ≡ written_message s payload next note w → Used (use_value m) (written_use s payload next note w) new next.state
  wrote-shown message number handshake transport s payload next note (writes_nothing _ _ why after sends) follows reported is = absurd (cc reported)
  wrote-shown message number handshake transport s payload next note (writes_handshake _ text _ xs free w) follows reported is =
      let done = handshake s.state xs payload follows (subst (λ (z : List ℕ). Writes s.state.party payload xs z) (sym is) w) in
      (done.0, subst RenewsBeforeLastNonce (sym done.0) tt, done.1)
  wrote-shown message number handshake transport s payload next note (writes_transport _ text _ free opens spelled) follows reported is =
      let done = transport s.state payload follows free opens in (
        done.0,
        subst RenewsBeforeLastNonce (sym done.0)
            (counted-passed s.state.party.state s.state.party.role s.state.interval s.state.sent (sent-free s.state (length payload) free opens)),
        done.1,
      )

fault-same : (x y : SendFault) → WriteFault x ≡ WriteFault y → x ≡ y
fault-same x y e = cc

token-same : (x y : ℕ) → fault.Agreement x ≡ fault.Agreement y → x ≡ y
token-same x y e = cc

-- the law of ends that have ended, and of what is held
abbrev pub Closes : Trace → Type 0
Closes t = (v : EndState) → Follow t v → Follow t (ended_session v)

abbrev pub Holds : Trace → Type 0
Holds t = (v : EndState) (bytes : List ℕ) → Follow t v → Follow t (record v { partial = bytes })

module _ (t : Trace) (closes : Closes t) where
  after-closes : (v : EndState) (ended : Bool) → Follow t v → Follow t (if ended then ended_session v else v)
  after-closes v true follows = closes v follows
  after-closes v false follows = follows

  -- a payload for which there is no DH result
  unsent-lacking : (m : KeyUse) (v : EndState) (payload : List ℕ) (next : EndState) (reported : Result (List ℕ) SendFault) (sends : Sends v payload reported next) (token : ℕ)
      → reported ≡ Err (fault.Agreement token) → Follow t v
      → ((w : EndState) → Follow t w → (lacks : LacksDhResult w.party token) → use_value m ≡ stopped_use w token lacks.lacks.before)
      → Used (use_value m) (unsent_use v payload next reported sends) t next
  unsent-lacking m v payload next reported (refuses _ _ why declined) token is follows clause = search rules
  unsent-lacking m v payload next reported (lacks_dh_result _ _ actual free lacks) token is follows clause =
      let same : fault.Agreement token ≡ fault.Agreement actual = cc in
      let here : use_value m ≡ stopped_use v actual lacks.lacks.before =
      subst (λ (k : ℕ). (l : LacksDhResult v.party k) → use_value m ≡ stopped_use v k l.lacks.before) (token-same token actual same) (clause v follows) lacks in
      (here, subst RenewsBeforeLastNonce (sym here) tt, closes v follows)
  unsent-lacking m v payload next reported (sends_handshake _ _ text xs free w) token is follows clause = absurd (cc is)
  unsent-lacking m v payload next reported (sends_transport _ _ free opens) token is follows clause = absurd (cc is)

  -- a payload that is refused for another cause
  unsent-refused : (v : EndState) (payload : List ℕ) (next : EndState) (reported : Result (List ℕ) SendFault) (sends : Sends v payload reported next) (why : SendFault)
      → reported ≡ Err why → ((token : ℕ) → why ≢ fault.Agreement token) → Follow t v → Used Nothing (unsent_use v payload next reported sends) t next
  unsent-refused v payload next reported (refuses _ _ given declined) why is not_lacking follows = (refl, tt, after-closes v (ends given) follows)
  unsent-refused v payload next reported (lacks_dh_result _ _ token free lacks) why is not_lacking follows = search rules
  unsent-refused v payload next reported (sends_handshake _ _ text xs free w) why is not_lacking follows = absurd (cc is)
  unsent-refused v payload next reported (sends_transport _ _ free opens) why is not_lacking follows = absurd (cc is)

  pub withheld-shown : (m : KeyUse) (token : ℕ)
      → ((w : EndState) → Follow t w → (lacks : LacksDhResult w.party token) → use_value m ≡ stopped_use w token lacks.lacks.before)
      → (s : Side) (payload : List ℕ) (next : Side) (note : Note) (w : SideWrites s payload note next) → Follow t s.state
      → WriteFault (fault.Agreement token) ≡ note → Used (use_value m) (written_use s payload next note w) t next.state
  withheld-shown m token clause s payload next note (writes_nothing _ _ why after sends) follows reported =
      unsent-lacking m s.state payload after (Err why) sends token (ap (λ (f : SendFault). Err f) (sym (fault-same _ _ reported))) follows clause
  withheld-shown m token clause s payload next note (writes_handshake _ text _ xs free w) follows reported = absurd (cc reported)
  withheld-shown m token clause s payload next note (writes_transport _ text _ free opens spelled) follows reported = absurd (cc reported)

  pub unwritten-shown : (why : SendFault) → ((token : ℕ) → why ≢ fault.Agreement token)
      → (s : Side) (payload : List ℕ) (next : Side) (note : Note) (w : SideWrites s payload note next) → Follow t s.state
      → WriteFault why ≡ note → Used Nothing (written_use s payload next note w) t next.state
  unwritten-shown fault not_lacking s payload next note (writes_nothing _ _ why after sends) follows reported =
      unsent-refused s.state payload after (Err why) sends fault (ap (λ (f : SendFault). Err f) (sym (fault-same _ _ reported))) not_lacking follows
  unwritten-shown fault not_lacking s payload next note (writes_handshake _ text _ xs free w) follows reported = absurd (cc reported)
  unwritten-shown fault not_lacking s payload next note (writes_transport _ text _ free opens spelled) follows reported = absurd (cc reported)

-- what a write is noted as
pub wrote-or-not : (s : Side) (payload : List ℕ) (next : Side) (note : Note) → SideWrites s payload note next
    → ((n : ℕ) → Wrote n ≢ note) → ((why : SendFault) → WriteFault why ≢ note) → ⊥
wrote-or-not s payload next note (writes_nothing _ _ why after sends) no_number no_fault = no_fault why refl
wrote-or-not s payload next note (writes_handshake _ text _ xs free w) no_number no_fault = no_number (length s.frames) refl
wrote-or-not s payload next note (writes_transport _ text _ free opens spelled) no_number no_fault = no_number (length s.frames) refl

-- ---- reading

module _ (old new : Trace) (m : KeyUse) where
  -- a message that was accepted
  pub took-shown : (given message : List ℕ) (bytes : List ℕ) → given ≡ message
      → ((v : EndState) (xs : List (List ℕ)) (payload : List ℕ) → Follow old v → Accepts v.party given xs payload
      → (use_value m ≡ message_use v xs payload) × Follow new (record v { party = after_message v.party xs payload; partial = [] }))
      → ((v : EndState) → Follow old v → IsTrue (is_open (progress_of v)) → v.received ≢ last_nonce
      → (use_value m ≡ opened_use v) × Follow new (record v { received = v.received + 1; partial = [] }))
      → (s next : Side) (step : StepValue) (r : SideReads s message step next) → Follow old s.state → Judged (Payload bytes) ≡ Judged step
      → Used (use_value m) (read_use s next message step r) new next.state
  took-shown given message bytes is handshake transport s next step (accepts_handshake _ _ payload xs accepts) follows reported = search rules
  took-shown given message bytes is handshake transport s next step (accepts_transport _ _ payload opens more spelled) follows reported = search rules
  took-shown given message bytes is handshake transport s next step (refuses_message _ _ _ after gives judges) follows reported = search rules

refused-token : (a b : ℕ) (x y : Cause) → Refused a x ≡ Refused b y → a ≡ b
refused-token a b x y e = cc

module _ (t : Trace) (closes : Closes t) (holds : Holds t) where
  judged-dropped : (m : KeyUse) (v next : EndState) (message : List ℕ) (step : StepValue) (j : Judges v message step next) (cause : Cause)
      → Dropped cause ≡ step → Follow t v → ((w : EndState) → Follow t w → IsTrue (is_open (progress_of w)) → use_value m ≡ tried_use w)
      → Used (use_value m) (judged_use v next message step j) t next
  judged-dropped m v next message step (dropped _ _ opens more none) cause is follows clause = search rules
  judged-dropped m v next message step _ cause is follows clause = absurd (cc is)

  judged-refused : (m : KeyUse) (v next : EndState) (message : List ℕ) (step : StepValue) (j : Judges v message step next) (token : ℕ) (cause : Cause)
      → Refused token cause ≡ step → Follow t v
      → ((w : EndState) (why : Cause) → Follow t w → (r : Refuses w.party message token why) → use_value m ≡ stopped_use w token r.stops.carried)
      → Used (use_value m) (judged_use v next message step j) t next
  judged-refused m v next message step (refused _ _ actual why r) token cause is follows clause =
      let here : use_value m ≡ stopped_use v actual r.stops.carried =
      subst (λ (k : ℕ). (z : Refuses v.party message k why) → use_value m ≡ stopped_use v k z.stops.carried) (refused-token token actual cause why is)
      (clause v why follows) r in
      (here, subst RenewsBeforeLastNonce (sym here) tt, closes v follows)
  judged-refused m v next message step _ token cause is follows clause = absurd (cc is)

  judged-exhausted : (v next : EndState) (message : List ℕ) (step : StepValue) (j : Judges v message step next) → Exhausted ≡ step → Follow t v
      → Used Nothing (judged_use v next message step j) t next
  judged-exhausted v next message step (exhausted _ _ opens none) is follows = (refl, tt, closes v follows)
  judged-exhausted v next message step _ is follows = absurd (cc is)

  pub dropped-shown : (m : KeyUse) (message : List ℕ) (cause : Cause)
      → ((w : EndState) → Follow t w → IsTrue (is_open (progress_of w)) → use_value m ≡ tried_use w)
      → (s next : Side) (step : StepValue) (r : SideReads s message step next) → Follow t s.state → Judged (Dropped cause) ≡ Judged step
      → Used (use_value m) (read_use s next message step r) t next.state
  dropped-shown m message cause clause s next step (accepts_handshake _ _ payload xs accepts) follows reported = absurd (cc reported)
  dropped-shown m message cause clause s next step (accepts_transport _ _ payload opens more spelled) follows reported = absurd (cc reported)
  dropped-shown m message cause clause s next step (refuses_message _ _ _ after gives judges) follows reported =
      judged-dropped m s.state after message step judges cause (cc) follows clause

  pub refused-shown : (m : KeyUse) (given message : List ℕ) (token : ℕ) (cause : Cause) → given ≡ message
      → ((w : EndState) (why : Cause) → Follow t w → (r : Refuses w.party given token why) → use_value m ≡ stopped_use w token r.stops.carried)
      → (s next : Side) (step : StepValue) (r : SideReads s message step next) → Follow t s.state → Judged (Refused token cause) ≡ Judged step
      → Used (use_value m) (read_use s next message step r) t next.state
  refused-shown m given message token cause is clause s next step (accepts_handshake _ _ payload xs accepts) follows reported = absurd (cc reported)
  refused-shown m given message token cause is clause s next step (accepts_transport _ _ payload opens more spelled) follows reported = absurd (cc reported)
  refused-shown m given message token cause is clause s next step (refuses_message _ _ _ after gives judges) follows reported =
      judged-refused m s.state after message step judges token cause (cc) follows
      (subst (λ (z : List ℕ). (w : EndState) (why : Cause) → Follow t w → (r : Refuses w.party z token why) → use_value m ≡ stopped_use w token r.stops.carried)
      is clause)

  pub exhausted-shown : (message : List ℕ) (s next : Side) (step : StepValue) (r : SideReads s message step next) → Follow t s.state
      → Judged Exhausted ≡ Judged step → Used Nothing (read_use s next message step r) t next.state
  exhausted-shown message s next step (accepts_handshake _ _ payload xs accepts) follows reported = absurd (cc reported)
  exhausted-shown message s next step (accepts_transport _ _ payload opens more spelled) follows reported = absurd (cc reported)
  exhausted-shown message s next step (refuses_message _ _ _ after gives judges) follows reported =
      judged-exhausted s.state after message step judges (cc) follows

  pub default-shown : (e : Entry) → ((bytes : Vec ℕ Global) → e ≡ entry.Payload bytes → ⊥) → ((cause : Cause) → e ≡ entry.Dropped cause → ⊥)
      → ((token : ℕ) (cause : Cause) → e ≡ entry.Refused token cause → ⊥)
      → (message : List ℕ) (s next : Side) (step : StepValue) (r : SideReads s message step next) → Follow t s.state
      → note_of e ≡ Judged step → Used Nothing (read_use s next message step r) t next.state
  default-shown (entry.Payload bytes) p d q message s next step r follows reported = absurd (p bytes refl)
  default-shown (entry.Dropped cause) p d q message s next step r follows reported = absurd (d cause refl)
  default-shown (entry.Refused token cause) p d q message s next step r follows reported = absurd (q token cause refl)
  default-shown entry.Exhausted p d q message s next step r follows reported = exhausted-shown message s next step r follows reported
  default-shown _ p d q message s next step r follows reported = absurd (cc reported)

-- an entry of a write
pub neither-written : (x : Entry) → ((n : ℕ) → x ≡ entry.Wrote n → ⊥) → ((why : SendFault) → x ≡ entry.WriteFault why → ⊥)
    → (s : Side) (payload : List ℕ) (next : Side) (note : Note) → SideWrites s payload note next → note_of x ≡ note → ⊥
neither-written (entry.Wrote n) p q s payload next note w reported = p n refl
neither-written (entry.WriteFault why) p q s payload next note w reported = q why refl
neither-written _ p q s payload next note w reported = search (rules, wrote-or-not)

-- another fault than that of a DH result
pub six-others : (f : SendFault)
    → (f ≡ fault.NotYourTurn) ⊎ (f ≡ fault.TooLong) ⊎ (f ≡ fault.Ended) ⊎ (f ≡ fault.OneWay) ⊎ (f ≡ fault.Exhausted)
    ⊎ ((n : ℕ) × (f ≡ fault.Output n)) → (token : ℕ) → f ≢ fault.Agreement token
six-others f (inl is) token e = let bad = sym is ∙ e in cc bad
six-others f (inr (inl is)) token e = let bad = sym is ∙ e in cc bad
six-others f (inr (inr (inl is))) token e = let bad = sym is ∙ e in cc bad
six-others f (inr (inr (inr (inl is)))) token e = let bad = sym is ∙ e in cc bad
six-others f (inr (inr (inr (inr (inl is))))) token e = let bad = sym is ∙ e in cc bad
six-others f (inr (inr (inr (inr (inr (n, is)))))) token e = let bad = sym is ∙ e in cc bad
