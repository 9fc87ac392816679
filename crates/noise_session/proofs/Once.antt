-- A piece gives one step at an end.
use Rattle.std.proofs.Common.{rules, ◌≡◌, ℕ, List, length, refl, sym, ◌∙◌, ap, subst, arith}
use Rattle.noise_session.proofs.Common.{Role, other, SymmetricState, Cause, Party, Accepts, Refuses, IsPartial, transport_message, StepValue, Payload, Refused, EndState, Judges, Takes, accepted, dropped, exhausted, idles, waits, judges}
use Rattle.noise_session.specs.Taking.Judges.{refused, opened}
use Rattle.noise_session.specs.Framing.{frame-whole, frame-same}
use Rattle.noise_session.proofs.Parties.{closed-yet}

module _ (accepted-one : (v : Party) (message : List ℕ) (xs ys : List (List ℕ)) (p q : List ℕ) → Accepts v message xs p → Accepts v message ys q
    → (xs ≡ ys) × (p ≡ q))
    (refused-one : (v : Party) (message : List ℕ) (k j : ℕ) (c d : Cause) → Refuses v message k c → Refuses v message j d → (k ≡ j) × (c ≡ d))
    (apart : (v : Party) (message : List ℕ) (xs : List (List ℕ)) (p : List ℕ) (k : ℕ) (c : Cause) → Accepts v message xs p → Refuses v message k c → ⊥)
    (transport_message-one : (r : SymmetricState) (writer : Role) (interval n : ℕ) (p q : List ℕ) → transport_message r writer interval n p ≡ transport_message r writer interval n q → p ≡ q) where
  pub judged-once : (v x y : EndState) (m : List ℕ) (s t : StepValue) → Judges v m s x → Judges v m t y → (s ≡ t) × (x ≡ y)
  judged-once v x y m s t (accepted _ _ p xs a) (accepted _ _ q ys b) = search rules
  judged-once v x y m s t (accepted _ _ p xs a) (refused _ _ k c b) = absurd (apart v.party m xs p k c a b)
  judged-once v x y m s t (accepted _ _ p xs a) (opened _ _ q opens low is) = absurd (closed-yet v a.listens.more opens)
  judged-once v x y m s t (accepted _ _ p xs a) (dropped _ _ opens low never) = absurd (closed-yet v a.listens.more opens)
  judged-once v x y m s t (accepted _ _ p xs a) (exhausted _ _ opens last) = absurd (closed-yet v a.listens.more opens)
  judged-once v x y m s t (refused _ _ k c a) (accepted _ _ p xs b) = absurd (apart v.party m xs p k c b a)
  judged-once v x y m s t (refused _ _ k c a) (refused _ _ j d b) =
      let one = refused-one v.party m k j c d a b in
      (ap (λ (i : ℕ). Refused i c) one.0 ∙ ap (Refused j) one.1, refl)
  judged-once v x y m s t (refused _ _ k c a) (opened _ _ q opens low is) = absurd (closed-yet v a.listens.more opens)
  judged-once v x y m s t (refused _ _ k c a) (dropped _ _ opens low never) = absurd (closed-yet v a.listens.more opens)
  judged-once v x y m s t (refused _ _ k c a) (exhausted _ _ opens last) = absurd (closed-yet v a.listens.more opens)
  judged-once v x y m s t (opened _ _ p opens low is) (accepted _ _ q xs a) = absurd (closed-yet v a.listens.more opens)
  judged-once v x y m s t (opened _ _ p opens low is) (refused _ _ k c a) = absurd (closed-yet v a.listens.more opens)
  judged-once v x y m s t (opened _ _ p opens low is) (opened _ _ q other_opens other_low be) =
      (ap Payload (transport_message-one v.party.state (other v.party.role) v.interval v.received p q (sym is ∙ be)), refl)
  judged-once v x y m s t (opened _ _ p opens low is) (dropped _ _ other_opens other_low never) = absurd (never p is)
  judged-once v x y m s t (opened _ _ p opens low is) (exhausted _ _ other_opens last) = absurd (low last)
  judged-once v x y m s t (dropped _ _ opens low never) (accepted _ _ q xs a) = absurd (closed-yet v a.listens.more opens)
  judged-once v x y m s t (dropped _ _ opens low never) (refused _ _ k c a) = absurd (closed-yet v a.listens.more opens)
  judged-once v x y m s t (dropped _ _ opens low never) (opened _ _ q other_opens other_low is) = absurd (never q is)
  judged-once v x y m s t (dropped _ _ opens low never) (dropped _ _ other_opens other_low other_never) = (refl, refl)
  judged-once v x y m s t (dropped _ _ opens low never) (exhausted _ _ other_opens last) = absurd (low last)
  judged-once v x y m s t (exhausted _ _ opens last) (accepted _ _ q xs a) = absurd (closed-yet v a.listens.more opens)
  judged-once v x y m s t (exhausted _ _ opens last) (refused _ _ k c a) = absurd (closed-yet v a.listens.more opens)
  judged-once v x y m s t (exhausted _ _ opens last) (opened _ _ q other_opens low is) = absurd (low last)
  judged-once v x y m s t (exhausted _ _ opens last) (dropped _ _ other_opens low never) = absurd (low last)
  judged-once v x y m s t (exhausted _ _ opens last) (exhausted _ _ other_opens other_last) = (refl, refl)

module _ (judged-one : (v x y : EndState) (m : List ℕ) (s t : StepValue) → Judges v m s x → Judges v m t y → (s ≡ t) × (x ≡ y)) where
  pub takes-once : (v x y : EndState) (piece : List ℕ) (m n : ℕ) (s t : StepValue) → Takes v piece m s x → Takes v piece n t y → (m ≡ n) × (s ≡ t) × (x ≡ y)
  takes-once v x y piece m n s t (idles _ _ _ e) (idles _ _ _ f) = let same : s ≡ t = cc in (refl, same, refl)
  takes-once v x y piece m n s t (idles _ _ _ e) (waits _ _ f partial) = cc
  takes-once v x y piece m n s t (idles _ _ _ e) (judges _ _ _ message rest _ _ f is short count j) = cc
  takes-once v x y piece m n s t (waits _ _ e partial) (idles _ _ _ f) = cc
  takes-once v x y piece m n s t (waits _ _ e partial) (waits _ _ f other) = (refl, refl, refl)
  takes-once v x y piece m n s t (waits _ _ e partial) (judges _ _ _ message rest _ _ f is short count j) =
      absurd (frame-whole message rest short (subst (λ (bytes : List ℕ). IsPartial bytes) is partial))
  takes-once v x y piece m n s t (judges _ _ _ message rest _ _ e is short count j) (idles _ _ _ f) = cc
  takes-once v x y piece m n s t (judges _ _ _ message rest _ _ e is short count j) (waits _ _ f partial) =
      absurd (frame-whole message rest short (subst (λ (bytes : List ℕ). IsPartial bytes) is partial))
  takes-once v x y piece m n s t (judges _ _ _ message rest _ _ e is short count j) (judges _ _ _ other left _ _ f be small number k) =
      let one = frame-same message other rest left short small (sym is ∙ be) in
      let same = judged-one v x y other s t (subst (λ (bytes : List ℕ). Judges v bytes s x) one.0 j) k in
      let taken : m ≡ n = omega (arith, ap length one.1, count, number) in
      (taken, same.0, same.1)
