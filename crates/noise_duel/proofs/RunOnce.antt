-- A run is determined: of two ends and a list of events one list of notes and one pair of ends comes.
use Rattle.std.proofs.Common.{rules, ◌≡◌, ℕ, ◌<◌, List, ◌∷◌, ◌++◌, length, refl, ap, sym, subst, ◌∙◌, arith}
use Rattle.std.specs.Prelude.{Err, Result}
use Rattle.noise_duel.proofs.Common.{IsTrue, Role, other, SendFault, IsPartial, StepValue, is_open, progress_of, accepted, LawsBelow, Side, Sides, wrote_transport, accepted_transport, Event, Note, Judged, SideWrites, SideReads, SideReceives, Happens, Run, GivesNoPayload, RunOnce, writes_nothing, writes_handshake, writes_transport, accepts_handshake, accepts_transport, refuses_message, is_idle, waits, reads_frame, writes, says_nothing, says, delivers, misses, injects, frame-whole, frame-same}
use Rattle.noise_session.specs.Steps.StepValue.{Payload}
use Rattle.noise_session.specs.Taking.Judges.{opened}
use Rattle.noise_duel.specs.Runs.Run.{ends, begins}
use Rattle.noise_duel.proofs.Invariant.{all-passed}
use Rattle.noise_duel.proofs.Prefixes.{transport_message-same}
use Rattle.noise_duel.proofs.OneMessage.{writes-no-fault}

abbrev refused_with : SendFault → Result (List ℕ) SendFault
refused_with why = Err why

err-same : (x y : SendFault) → refused_with x ≡ refused_with y → x ≡ y
err-same x y e = cc

module _ (laws : LawsBelow) where
  -- no handshake message is due at an end that is open
  not-due : (s : Side) → IsTrue (is_open (progress_of s.state)) → s.state.party.passed < length s.state.party.pattern.messages → ⊥
  not-due s due more = let all = all-passed s.state due in omega arith

  -- a message is read in one way
  reads-once : (s x y : Side) (m : List ℕ) (a b : StepValue) → SideReads s m a x → SideReads s m b y → (a ≡ b) × (x ≡ y)
  reads-once s x y m a b (accepts_handshake _ _ p xs h) (accepts_handshake _ _ q ys k) = search rules
  reads-once s x y m a b (accepts_handshake _ _ p xs h) (accepts_transport _ _ q due low is) = search rules
  reads-once s x y m a b (accepts_handshake _ _ p xs h) (refuses_message _ _ _ next bad j) =
      absurd (subst GivesNoPayload (sym (laws.judged_once s.state _ next m (Payload p) b (accepted s.state m p xs h) j).0) bad)
  reads-once s x y m a b (accepts_transport _ _ p due low is) (accepts_handshake _ _ q ys k) = search rules
  reads-once s x y m a b (accepts_transport _ _ p due low is) (accepts_transport _ _ q d l be) =
      let same : p ≡ q = transport_message-same s.state.party.state (other s.state.party.role) s.state.interval s.state.received p q (sym is ∙ be) in
      (ap Payload same, ap (λ (z : List ℕ). accepted_transport s (record { message = m; payload = z })) same)
  reads-once s x y m a b (accepts_transport _ _ p due low is) (refuses_message _ _ _ next bad j) =
      absurd (subst GivesNoPayload (sym (laws.judged_once s.state _ next m (Payload p) b (opened s.state m p due low is) j).0) bad)
  reads-once s x y m a b (refuses_message _ _ _ next bad j) (accepts_handshake _ _ q ys k) =
      absurd (subst GivesNoPayload (laws.judged_once s.state next _ m a (Payload q) j (accepted s.state m q ys k)).0 bad)
  reads-once s x y m a b (refuses_message _ _ _ next bad j) (accepts_transport _ _ q d l be) =
      absurd (subst GivesNoPayload (laws.judged_once s.state next _ m a (Payload q) j (opened s.state m q d l be)).0 bad)
  reads-once s x y m a b (refuses_message _ _ _ next bad j) (refuses_message _ _ _ after worse k) = search rules

  -- a payload is written in one way
  writes-once : (s : Side) (payload : List ℕ) (x y : Side) (a b : Note) → SideWrites s payload a x → SideWrites s payload b y → (a ≡ b) × (x ≡ y)
  writes-once s payload x y a b (writes_nothing _ _ why next h) (writes_nothing _ _ other_why after k) = search rules
  writes-once s payload x y a b (writes_nothing _ _ why next h) (writes_handshake _ m _ ys e w) =
      absurd (writes-no-fault s x payload why e (λ k l. laws.not_lacking s.state.party payload m ys k w l) (writes_nothing s payload why next h))
  writes-once s payload x y a b (writes_nothing _ _ why next h) (writes_transport _ m _ e due is) =
      absurd (writes-no-fault s x payload why e (λ k l. not-due s due l.speaks.more) (writes_nothing s payload why next h))
  writes-once s payload x y a b (writes_handshake _ m _ xs e w) (writes_nothing _ _ why next h) =
      absurd (writes-no-fault s y payload why e (λ k l. laws.not_lacking s.state.party payload m xs k w l) (writes_nothing s payload why next h))
  writes-once s payload x y a b (writes_handshake _ m _ xs e w) (writes_handshake _ n _ ys f z) = search rules
  writes-once s payload x y a b (writes_handshake _ m _ xs e w) (writes_transport _ n _ f due is) = absurd (not-due s due w.speaks.more)
  writes-once s payload x y a b (writes_transport _ m _ e due is) (writes_nothing _ _ why next h) =
      absurd (writes-no-fault s y payload why e (λ k l. not-due s due l.speaks.more) (writes_nothing s payload why next h))
  writes-once s payload x y a b (writes_transport _ m _ e due is) (writes_handshake _ n _ ys f w) = absurd (not-due s due w.speaks.more)
  writes-once s payload x y a b (writes_transport _ m _ e due is) (writes_transport _ n _ f d be) =
      (refl, ap (λ (r : List ℕ). wrote_transport s (record { message = r; payload = payload })) (is ∙ sym be))

  -- bytes are received in one way
  receives-once : (s x y : Side) (bytes : List ℕ) (ms ns : List Note) → SideReceives s bytes ms x → SideReceives s bytes ns y → (ms ≡ ns) × (x ≡ y)
  receives-once s x y bytes ms ns (is_idle _ _ step e) (is_idle _ _ other_step f) = search
  receives-once s x y bytes ms ns (is_idle _ _ step e) (waits _ _ f partial) = cc
  receives-once s x y bytes ms ns (is_idle _ _ step e) (reads_frame _ _ _ _ m rest _ more f is short reads on) = cc
  receives-once s x y bytes ms ns (waits _ _ e partial) (is_idle _ _ step f) = cc
  receives-once s x y bytes ms ns (waits _ _ e partial) (waits _ _ f part) = (refl, refl)
  receives-once s x y bytes ms ns (waits _ _ e partial) (reads_frame _ _ _ _ m rest _ more f is short reads on) =
      absurd (frame-whole m rest short (subst (λ (z : List ℕ). IsPartial z) is partial))
  receives-once s x y bytes ms ns (reads_frame _ _ _ _ m rest _ more e is short reads on) (is_idle _ _ step f) = cc
  receives-once s x y bytes ms ns (reads_frame _ _ _ _ m rest _ more e is short reads on) (waits _ _ f partial) =
      absurd (frame-whole m rest short (subst (λ (z : List ℕ). IsPartial z) is partial))
  receives-once s x y bytes ms ns (reads_frame _ next _ _ m rest step more e is short reads on)
      (reads_frame _ after _ _ n left reported rest_notes f be small judges later) =
      let same = frame-same m n rest left short small (sym is ∙ be) in
      let one = reads-once s next after m step reported reads (subst (λ (z : List ℕ). SideReads s z reported after) (sym same.0) judges) in
      let on_from : SideReceives next rest rest_notes y = search rules in
      let two = receives-once next x y rest more rest_notes on on_from in
      (ap (λ (z : StepValue). Judged z ∷ more) one.0 ∙ ap (λ (zs : List Note). Judged reported ∷ zs) two.0, two.1)

  -- one event
  happens-once : (d x y : Sides) (event : Event) (ms ns : List (Role × Note)) → Happens d event ms x → Happens d event ns y → (ms ≡ ns) × (x ≡ y)
  happens-once d x y event ms ns (writes _ role payload note next h) (writes _ _ _ other_note after k) = search (rules, writes-once)
  happens-once d x y event ms ns (says_nothing _ role payload why next h) (says_nothing _ _ _ other_why after k) = search (rules, writes-once)
  happens-once d x y event ms ns (says_nothing _ role payload why next h) (says _ _ _ bytes n notes after heard k at receives) = search (rules, writes-once)
  happens-once d x y event ms ns (says _ role payload bytes n notes next heard h at receives) (says_nothing _ _ _ why after k) = search (rules, writes-once)
  happens-once d x y event ms ns (says _ role payload bytes n notes next heard h at receives) (says _ _ _ others k more after hears w from gets) =
      search (rules, writes-once, receives-once)
  happens-once d x y event ms ns (delivers _ role n bytes notes heard at receives) (delivers _ _ _ others more hears from gets) =
      search (rules, receives-once)
  happens-once d x y event ms ns (misses _ role n none) (misses _ _ _ missing) = (refl, refl)
  happens-once d x y event ms ns (injects _ role bytes notes heard receives) (injects _ _ _ more hears gets) = search (rules, receives-once)
  happens-once d x y event ms ns (delivers _ role n bytes notes heard at receives) (misses _ _ _ none) = cc
  happens-once d x y event ms ns (misses _ role n none) (delivers _ _ _ bytes notes heard at receives) = cc

  pub run-once : RunOnce
  run-once d x y events ms ns (ends _) (ends _) = (refl, refl)
  run-once d x y events ms ns (begins _ next _ event later now more h run) (begins _ after _ _ _ first rest k on) =
      let one = happens-once d next after event now first h k in
      let two = run-once next x y later more rest run (subst (λ (z : Sides). Run z later rest y) (sym one.1) on) in
      (ap (λ (zs : List (Role × Note)). zs ++ more) one.0 ∙ ap (λ (zs : List (Role × Note)). first ++ zs) two.0, two.1)
