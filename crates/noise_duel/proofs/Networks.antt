-- The laws of conversations, at the ends of a run.
use Rattle.std.proofs.Common.{rules, ◌≡◌, ℕ, List, ◌∷◌, length, refl, ap, sym, subst, ◌∙◌, inl, inr, ◌⊎◌, []}
use Rattle.noise_duel.proofs.Common.{Role, Initiator, Responder, other, Plan, SymmetricState, Party, after_own, after_message, HandshakeMessage, Exchanged, Start, begun_as, none, wrote, took, Sides, TransportMessage, Event, Note, Run, sides_at_start, ComesOfMessages, AreTransportMessages, VisiblyEqual, HaveOneHash, HaveClash, SharePsks, HaveOneHistory, PayloadsAgree, HashesReport, PsksMakeOne, PayloadsCome, VisiblyEqualGivesOne, EndState, LawsBelow, history_of, state_of_history, HaveSameKeysBefore, messages_of, UsedSamePsks}
use Rattle.noise_duel.proofs.Invariant.{ends-stand}
use Rattle.noise_duel.proofs.HashReports.{hash-reports}
use Rattle.noise_duel.proofs.HashedMessages.{exchanged-has-history}
use Rattle.noise_duel.proofs.Forward.{psks-report}
use Rattle.noise_duel.proofs.KeysReport.{keys-report}
use Rattle.noise_duel.proofs.Converse.{visibly-equal-is-one}
use Rattle.noise_duel.proofs.Prefixes.{prefix-or-forged}

pub passes-pattern : (v w : Party) (ps : List HandshakeMessage) → Exchanged v ps w → w.pattern ≡ v.pattern
passes-pattern v w [] (none _) = refl
passes-pattern v w (p ∷ ps) (wrote _ _ _ _ here more) = passes-pattern (after_own v p.carried p.payload) w ps more
passes-pattern v w (p ∷ ps) (took _ _ _ _ here more) = passes-pattern (after_message v p.carried p.payload) w ps more

pub passes-role : (v w : Party) (ps : List HandshakeMessage) → Exchanged v ps w → w.role ≡ v.role
passes-role v w [] (none _) = refl
passes-role v w (p ∷ ps) (wrote _ _ _ _ here more) = passes-role (after_own v p.carried p.payload) w ps more
passes-role v w (p ∷ ps) (took _ _ _ _ here more) = passes-role (after_message v p.carried p.payload) w ps more

-- an end that DH results a hash
record Opened (v : EndState) (h : List ℕ) : Type 0 where
  all : v.party.passed ≡ length v.party.pattern.messages
  is : v.party.state.hash ≡ h

module _ (p : Plan) (a b : Start) (i j : ℕ) (events : List Event) (notes : List (Role × Note)) (d : Sides)
    (run : Run (sides_at_start p a b i j) events notes d) where
  left : ComesOfMessages (begun_as p Initiator a) i d.initiator
  left = (ends-stand p a b i j events notes d run).0

  right : ComesOfMessages (begun_as p Responder b) j d.responder
  right = (ends-stand p a b i j events notes d run).1

  left-state : d.initiator.state.party.state ≡ left.last.state
  left-state = ap (λ (v : Party). v.state) left.party

  right-state : d.responder.state.party.state ≡ right.last.state
  right-state = ap (λ (v : Party). v.state) right.party

  one : (d.initiator.passed ≡ d.responder.passed) × (history_of p Initiator a d.initiator.passed ≡ history_of p Responder b d.responder.passed)
      → HaveOneHistory p a b d
  one h = record {
    passed = h.0;
    history = h.1;
    state =
        left-state ∙ exchanged-has-history p Initiator a d.initiator.passed left.last left.passes ∙ ap state_of_history h.1
        ∙ sym (right-state ∙ exchanged-has-history p Responder b d.responder.passed right.last right.passes);
  }

  pub visibly-one : a.prologue ≡ b.prologue → HaveSameKeysBefore p a b → messages_of d.initiator.passed ≡ messages_of d.responder.passed
      → UsedSamePsks p a b d → LawsBelow → HaveOneHistory p a b d
  visibly-one prologue before messages used laws =
      one (visibly-equal-is-one laws p a b d.initiator.passed d.responder.passed left.last right.last left.passes right.passes prologue before messages
      used.psks used.dh_results)

  module _ (laws : LawsBelow) (meet : HaveOneHash d) where
    same-count : left.last.passed ≡ right.last.passed
    same-count = search (rules, passes-pattern)

    same-hash : left.last.state.hash ≡ right.last.state.hash
    same-hash = search rules

    pub hashes : VisiblyEqual p a b d.initiator.passed d.responder.passed ⊎ HaveClash p a b d
    hashes = hash-reports p a b d.initiator.passed d.responder.passed left.last right.last left.passes right.passes same-count same-hash

    ones : ((d.initiator.passed ≡ d.responder.passed)
        × (history_of p Initiator a d.initiator.passed ≡ history_of p Responder b d.responder.passed)) ⊎ HaveClash p a b d
        → HaveOneHistory p a b d ⊎ HaveClash p a b d
    ones (inl h) = inl (one h)
    ones (inr c) = inr c

    pub makes-one : SharePsks p a b d → HaveOneHistory p a b d ⊎ HaveClash p a b d
    makes-one (inl s) = ones
        (psks-report p a b d.initiator.passed d.responder.passed left.last right.last left.passes right.passes same-count same-hash s.psks s.dh_results)
    makes-one (inr s) = ones
        (keys-report laws p a b d.initiator.passed d.responder.passed left.last right.last s.initiator s.responder left.passes right.passes same-count same-hash
        s.psks s.keys)

    -- an end's transport messages, by its own state and role
    transport_messages : (last : Party) (r : SymmetricState) (writer role : Role) (k : ℕ) (ps : List TransportMessage) → last.state ≡ r → role ≡ writer
        → AreTransportMessages last.state role k 0 ps → AreTransportMessages r writer k 0 ps
    transport_messages last r writer role k ps e f h = search rules

    pub payloads-agree : i ≡ j → HaveOneHistory p a b d → PayloadsAgree i d
    payloads-agree same one =
        let li : left.last.role ≡ Initiator = passes-role (begun_as p Initiator a) left.last d.initiator.passed left.passes in
        let ri : right.last.role ≡ Responder = passes-role (begun_as p Responder b) right.last d.responder.passed right.passes in
        let r : SymmetricState = d.initiator.state.party.state in
        let s : SymmetricState = d.responder.state.party.state in
        record {
          there = prefix-or-forged r Initiator i d.initiator.sent d.responder.received
              (transport_messages left.last r Initiator left.last.role i d.initiator.sent (sym left-state) li left.sent)
              (subst (λ (k : ℕ). AreTransportMessages r Initiator k 0 d.responder.received) (sym same)
              (transport_messages right.last r Initiator (other right.last.role) j d.responder.received (sym right-state ∙ sym one.state) (ap other ri) right.received));
          back = prefix-or-forged s Responder i d.responder.sent d.initiator.received
              (subst (λ (k : ℕ). AreTransportMessages s Responder k 0 d.responder.sent) (sym same)
              (transport_messages right.last s Responder right.last.role j d.responder.sent (sym right-state) ri right.sent))
              (transport_messages left.last s Responder (other left.last.role) i d.initiator.received (sym left-state ∙ one.state) (ap other li) left.received);
        }

pub hashes-report : LawsBelow → HashesReport
hashes-report laws p a b i j events notes d run meet = hashes p a b i j events notes d run laws meet

pub psks-make-one : LawsBelow → PsksMakeOne
psks-make-one laws p a b i j events notes d run meet = makes-one p a b i j events notes d run laws meet

pub payloads-come : LawsBelow → PayloadsCome
payloads-come laws p a b interval events notes d run meet share =
    elim (makes-one p a b interval interval events notes d run laws meet share)
    [ inl one ↦ inl (payloads-agree p a b interval interval events notes d run laws meet refl one) | inr c ↦ inr c ]

pub visibly-equal-gives-one : LawsBelow → VisiblyEqualGivesOne
visibly-equal-gives-one laws p a b i j events notes d run prologue before messages used =
    visibly-one p a b i j events notes d run prologue before messages used laws
