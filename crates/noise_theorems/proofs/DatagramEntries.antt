-- What the entries of a run of datagrams report, and what two parties agree on by them.
use Rattle.std.proofs.Common.{rules, ◌≡◌, ◌≢◌, ◌≤◌, ◌<◌, ℕ, zero, suc, ◌+◌, List, ◌∷◌, ◌++◌, length, length-append, drop, map, Option, Some, None, Ok, slice_get, refl, sym, ◌∙◌, ap, subst, arith, inl, inr, ◌⊎◌, []}
use Rattle.std.specs.Int.{w64, to_be_bytes}
use Rattle.std.proofs.lemmas.Bool.Decides.{eqb_tells}
use Rattle.std.proofs.lemmas.Nat.{from_be_bytes-to_be_bytes_8}
use Rattle.noise_theorems.proofs.Common.{Bool, true, false, ◌==◌, false≢true, or_left, or_right, ne_eqb, eq-eqb, Role, Initiator, Responder, other, Plan, Start, SymmetricState, ForgedMessage, Sides, TransportMessage, ClashFound, FoundIsClash, HaveOneHistory, HaveClash, same_Some, get-front, get-last, History}
use Rattle.noise_session.specs.Transport.{transport_message, last_nonce}
use Rattle.noise_session.specs.Windows.{is_accepted}
use Rattle.noise_session.specs.Datagrams.{DatagramState, Opens, accepting, datagram, nonce_named, unsealed}
use Rattle.noise_session.specs.Datagrams.Opens.{opened}
use Rattle.noise_events.specs.DatagramEvents.{DatagramEvent, Seal, Open, Raw}
use Rattle.noise_session.specs.DatagramFaults.{fault-free}
use Rattle.noise_duel.specs.Clash.{HistoriesClash}
use Rattle.noise_duel.specs.Histories.{history_of}
use Rattle.noise_duel.specs.DatagramAgreement.{AreAtNonces, AreCounted, ArriveOnce, DatagramRunsAgree}
use Rattle.noise_duel.specs.DatagramNotes.{DatagramNote, Sealed, Payload, Rejected, Missing}
use Rattle.noise_duel.specs.DatagramRuns.{DatagramHappens, DatagramRun, PartyOpens, PartySeals}
use Rattle.noise_duel.specs.DatagramRuns.DatagramHappens.{is_sealed, is_delivered, is_missing, is_put_in}
use Rattle.noise_duel.specs.DatagramRuns.DatagramRun.{begins, ends}
use Rattle.noise_duel.specs.DatagramRuns.PartyOpens.{opens, rejects}
use Rattle.noise_duel.specs.DatagramRuns.PartySeals.{seals, seals_nothing}
use Rattle.noise_duel.specs.DatagramSides.{DatagramSide, DatagramSides, NonceMessage, at_nonce, sealed_datagrams, datagram_sides, new_party, of_nonce, opening, party, with_party, sealing, datagram_bytes}
use Rattle.noise_theorems.specs.Datagrams.{nonce_of_event, SealedAt, OpenedAt, IsReportedOfDatagrams, DatagramsAreReported, ForgedDatagram, EntriesArrive, DatagramEntriesAgree, DatagramKeysCome}

-- ---- lists

get-either : {X : Type 0} (xs : List X) (y : X) (n : ℕ) (x : X) → slice_get (xs ++ y ∷ []) n ≡ Some x
    → (slice_get xs n ≡ Some x) ⊎ ((n ≡ length xs) × (x ≡ y))
get-either [] y zero x e = inr (refl, sym (same_Some y x e))
get-either [] y (suc n) x e = cc
get-either (z ∷ xs) y zero x e = inl e
get-either (z ∷ xs) y (suc n) x e = elim (get-either xs y n x e) [
  | inl old ↦ inl old
  | inr new ↦ inr (ap suc new.0, new.1)
]

get-whole : (ms : List NonceMessage) (n : ℕ) (bytes : List ℕ) → slice_get (map datagram_bytes ms) n ≡ Some bytes
    → (m : NonceMessage) × (slice_get ms n ≡ Some m) × (datagram_bytes m ≡ bytes)
get-whole [] n bytes e = cc
get-whole (m ∷ ms) zero bytes e = (m, refl, same_Some (datagram_bytes m) bytes e)
get-whole (m ∷ ms) (suc n) bytes e = get-whole ms n bytes e

-- ---- nonces

low-nonce : (role : Role) (one_way : Bool) (nonce n : ℕ) → unsealed role one_way nonce n ≡ None → nonce < last_nonce
low-nonce role one_way nonce n e = search rules

fresh : (v : DatagramState) (bytes payload : List ℕ) (w : DatagramState) → Opens v bytes (Ok payload) w → is_accepted v.accepted (nonce_named bytes) ≡ false
fresh v bytes payload w (opened _ _ _ none is) = (fault-free v bytes none).fresh

first-of : (m : NonceMessage) (ms : List NonceMessage) (n : ℕ) → m.nonce ≡ n → of_nonce (m ∷ ms) n ≡ Some m.message
first-of m ms n e = rw (eq-eqb m.nonce n e) refl

later-of : (m : NonceMessage) (ms : List NonceMessage) (n : ℕ) → m.nonce ≢ n → of_nonce (m ∷ ms) n ≡ of_nonce ms n
later-of m ms n e = rw (ne_eqb m.nonce n e) refl

-- A party's datagrams are numbered by their nonces, which have 8 bytes.
record Numbered (s : DatagramSide) : Type 0 where
  pub sending : s.state.sent ≡ length s.sealed
  pub few : length s.sealed ≤ last_nonce
  pub number : (n : ℕ) (m : NonceMessage) → slice_get s.sealed n ≡ Some m → (m.nonce ≡ n) × (n < last_nonce)

whole-named : (m : NonceMessage) → m.nonce < last_nonce → nonce_named (datagram_bytes m) ≡ m.nonce
whole-named m low = from_be_bytes-to_be_bytes_8 m.nonce (omega arith)

-- ---- one event, for one role

-- how bytes come to a role: from outside, or as a datagram that the other has sealed
abbrev Came : Role → DatagramSide → DatagramEvent → List ℕ → Type 0
Came role theirs event bytes =
    (event ≡ Raw role bytes) ⊎ ((n : ℕ) × (event ≡ Open role n) × (slice_get (sealed_datagrams theirs) n ≡ Some bytes))

data OneStep : Role → DatagramSide → DatagramSide → DatagramEvent → Role × DatagramNote → DatagramSide → Type 0 where
  stays : (role : Role) (theirs s : DatagramSide) (event : DatagramEvent) (note : Role × DatagramNote)
      → ((n : ℕ) (bytes : List ℕ) → note ≢ (role, Sealed n bytes)) → ((payload : List ℕ) → note ≢ (role, Payload payload))
      → OneStep role theirs s event note s
  has_sealed : (role : Role) (theirs s : DatagramSide) (payload : List ℕ) → unsealed s.state.role s.state.one_way s.state.sent (length payload) ≡ None
      → OneStep role theirs s (Seal role payload) (role, Sealed (length s.sealed) (datagram s.state.state s.state.role s.state.sent payload))
      (sealing s payload)
  has_opened : (role : Role) (theirs s : DatagramSide) (event : DatagramEvent) (bytes payload : List ℕ) → Came role theirs event bytes
      → is_accepted s.state.accepted (nonce_named bytes) ≡ false → OneStep role theirs s event (role, Payload payload) (opening s bytes payload)

stays-other : (role : Role) (theirs s : DatagramSide) (event : DatagramEvent) (note : DatagramNote) → OneStep role theirs s event (other role, note) s
stays-other role theirs s event note = search (rules, stays)

stays-reported : (role : Role) (theirs s : DatagramSide) (event : DatagramEvent) (note : DatagramNote) → ((n : ℕ) (bytes : List ℕ) → note ≡ Sealed n bytes → ⊥)
    → ((payload : List ℕ) → note ≡ Payload payload → ⊥) → OneStep role theirs s event (role, note) s
stays-reported role theirs s event note never none = search (rules, stays)

seal-step : (role : Role) (theirs s : DatagramSide) (payload : List ℕ) (note : DatagramNote) (next : DatagramSide) → PartySeals s payload note next
    → OneStep role theirs s (Seal role payload) (role, note) next
seal-step role theirs s payload note next (seals _ _ e) = has_sealed role theirs s payload e
seal-step role theirs s payload note next (seals_nothing _ _ why e) = search (rules, stays-reported)

open-step : (role : Role) (theirs s : DatagramSide) (event : DatagramEvent) (bytes : List ℕ) (note : DatagramNote) (next : DatagramSide)
    → PartyOpens s bytes note next → Came role theirs event bytes → OneStep role theirs s event (role, note) next
open-step role theirs s event bytes note next (opens _ _ payload o) came =
    has_opened role theirs s event bytes payload came (fresh s.state bytes payload (accepting s.state (nonce_named bytes)) o)
open-step role theirs s event bytes note next (rejects _ _ why o) came =
    stays-reported role theirs s event (Rejected why) (λ n bytes e. cc) (λ payload e. cc)

miss-step : (role : Role) (theirs s : DatagramSide) (n : ℕ) → OneStep role theirs s (Open role n) (role, Missing n) s
miss-step role theirs s n = stays-reported role theirs s (Open role n) (Missing n) (λ k bytes e. cc) (λ payload e. cc)

-- what is a step of the role that it is about leaves the other role as it was
by-role : (role r : Role) (d : DatagramSides) (event : DatagramEvent) (reported : DatagramNote) (s : DatagramSide)
    → OneStep r (party d (other r)) (party d r) event (r, reported) s
    → OneStep role (party d (other role)) (party d role) event (r, reported) (party (with_party d r s) role)
by-role Initiator Responder d event reported s step = stays-other Initiator d.responder d.initiator event reported
by-role Responder Initiator d event reported s step = stays-other Responder d.initiator d.responder event reported
by-role _ _ d event reported s step = step

misses-by-role : (role r : Role) (d : DatagramSides) (n : ℕ) → OneStep role (party d (other role)) (party d role) (Open r n) (r, Missing n) (party d role)
misses-by-role role Initiator d n =
    by-role role Initiator d (Open Initiator n) (Missing n) d.initiator (miss-step Initiator d.responder d.initiator n)
misses-by-role role Responder d n =
    by-role role Responder d (Open Responder n) (Missing n) d.responder (miss-step Responder d.initiator d.responder n)

step-of : (role : Role) (d next : DatagramSides) (event : DatagramEvent) (note : Role × DatagramNote) → DatagramHappens d event note next
    → OneStep role (party d (other role)) (party d role) event note (party next role)
step-of role d next event note (is_sealed _ r payload reported s p) = search (by-role, seal-step)
step-of role d next event note (is_delivered _ r n bytes reported s got p) = search (rules, by-role, open-step)
step-of role d next event note (is_missing _ r n none) = misses-by-role role r d n
step-of role d next event note (is_put_in _ r bytes reported s p) = search (rules, by-role, open-step)

-- ---- what a step keeps

numbered-step : (role : Role) (theirs s : DatagramSide) (event : DatagramEvent) (note : Role × DatagramNote) (t : DatagramSide)
    → OneStep role theirs s event note t → Numbered s → Numbered t
numbered-step role theirs s event note t (stays _ _ _ _ _ _ _) h = h
numbered-step role theirs s event note t (has_sealed _ _ _ payload e) h =
    let m : NonceMessage = at_nonce s.state.sent (transport_message s.state.state s.state.role 0 s.state.sent payload) payload in
    let low = low-nonce s.state.role s.state.one_way s.state.sent (length payload) e in
    let long = length-append s.sealed (m ∷ []) in
    let before = h.sending in
    record {
      sending = omega (arith, long, before);
      few = omega (arith, long, before, low);
      number = λ n x f. elim (get-either s.sealed m n x f) [
        | inl old ↦ h.number n x old
        | inr new ↦ (let here = new.0 in (ap (λ (z : NonceMessage). z.nonce) new.1 ∙ before ∙ sym here, omega (arith, here, before, low)))
      ];
    }
numbered-step role theirs s event note t (has_opened _ _ _ _ bytes payload came new) h =
    record { sending = h.sending; few = h.few; number = h.number }

unchanged-step : (role : Role) (theirs s : DatagramSide) (event : DatagramEvent) (note : Role × DatagramNote) (t : DatagramSide)
    → OneStep role theirs s event note t → (n : ℕ) (m : NonceMessage) → slice_get s.sealed n ≡ Some m → slice_get t.sealed n ≡ Some m
unchanged-step role theirs s event note t (has_sealed _ _ _ payload _) n m e =
    get-front s.sealed (at_nonce s.state.sent (transport_message s.state.state s.state.role 0 s.state.sent payload) payload ∷ []) n m e
unchanged-step role theirs s event note t _ n m e = e

-- a nonce that was opened, with its message
record Has (s : DatagramSide) (n : ℕ) (m : TransportMessage) : Type 0 where
  pub among : is_accepted s.state.accepted n ≡ true
  pub message : of_nonce s.opened n ≡ Some m

has-step : (role : Role) (theirs s : DatagramSide) (event : DatagramEvent) (note : Role × DatagramNote) (t : DatagramSide)
    → OneStep role theirs s event note t → (n : ℕ) (m : TransportMessage) → Has s n m → Has t n m
has-step role theirs s event note t (stays _ _ _ _ _ _ _) n m h = h
has-step role theirs s event note t (has_sealed _ _ _ payload _) n m h = record { among = h.among; message = h.message }
has-step role theirs s event note t (has_opened _ _ _ _ bytes payload came new) n m h =
    let apart : nonce_named bytes ≢ n = λ same. false≢true (sym new ∙ ap (is_accepted s.state.accepted) same ∙ h.among) in
    record {
      among = or_right (nonce_named bytes == n) (is_accepted s.state.accepted n) h.among;
      message = later-of (at_nonce (nonce_named bytes) (drop 8 bytes) payload) s.opened n apart ∙ h.message;
    }

-- a nonce that isn't accepted yet wasn't before
less-step : (role : Role) (theirs s : DatagramSide) (event : DatagramEvent) (note : Role × DatagramNote) (t : DatagramSide)
    → OneStep role theirs s event note t → (n : ℕ) → is_accepted t.state.accepted n ≡ false → is_accepted s.state.accepted n ≡ false
less-step role theirs s event note t (has_opened _ _ _ _ bytes payload came new) n e = search rules
less-step role theirs s event note t _ n e = e

-- ---- what a run keeps

unchanged : (role : Role) (d last : DatagramSides) (events : List DatagramEvent) (notes : List (Role × DatagramNote)) → DatagramRun d events notes last
    → (n : ℕ) (m : NonceMessage) → slice_get (party d role).sealed n ≡ Some m → slice_get (party last role).sealed n ≡ Some m
unchanged role d last events notes (ends _) n m e = e
unchanged role d last events notes (begins _ next _ event more note rest now run) n m e =
    unchanged role next last more rest run n m
    (unchanged-step role (party d (other role)) (party d role) event note (party next role) (step-of role d next event note now) n m e)

has-unchanged : (role : Role) (d last : DatagramSides) (events : List DatagramEvent) (notes : List (Role × DatagramNote)) → DatagramRun d events notes last
    → (n : ℕ) (m : TransportMessage) → Has (party d role) n m → Has (party last role) n m
has-unchanged role d last events notes (ends _) n m h = h
has-unchanged role d last events notes (begins _ next _ event more note rest now run) n m h =
    has-unchanged role next last more rest run n m
    (has-step role (party d (other role)) (party d role) event note (party next role) (step-of role d next event note now) n m h)

numbered-next : (role : Role) (d next : DatagramSides) (event : DatagramEvent) (note : Role × DatagramNote) → DatagramHappens d event note next
    → Numbered (party d role) → Numbered (party next role)
numbered-next role d next event note now h =
    numbered-step role (party d (other role)) (party d role) event note (party next role) (step-of role d next event note now) h

-- ---- what entries report of sealed datagrams

-- A role's datagram of this number has these bytes, and it has the payload that the event gives.
record SealedAs (role : Role) (s : DatagramSide) (event : Option DatagramEvent) (n : ℕ) (bytes : List ℕ) : Type 0 where
  pub message : NonceMessage
  pub at : slice_get s.sealed n ≡ Some message
  pub bytes_are : datagram_bytes message ≡ bytes
  pub given : event ≡ Some (Seal role message.message.payload)

number-same : (k n : ℕ) (bytes other_bytes : List ℕ) → Sealed k bytes ≡ Sealed n other_bytes → (k ≡ n) × (bytes ≡ other_bytes)
number-same k n bytes other_bytes e = (cc, cc)

sealed-now : (role : Role) (theirs s : DatagramSide) (event : DatagramEvent) (note : Role × DatagramNote) (t : DatagramSide)
    → OneStep role theirs s event note t → (n : ℕ) (bytes : List ℕ) → note ≡ (role, Sealed n bytes) → SealedAs role t (Some event) n bytes
sealed-now role theirs s event note t (stays _ _ _ _ _ never _) n bytes e = absurd (never n bytes e)
sealed-now role theirs s event note t (has_sealed _ _ _ payload _) n bytes e =
    let m : NonceMessage = at_nonce s.state.sent (transport_message s.state.state s.state.role 0 s.state.sent payload) payload in
    let same = number-same (length s.sealed) n (datagram_bytes m) bytes (ap (λ (z : Role × DatagramNote). z.1) e) in
    record {
      message = m;
      at = ap (slice_get (s.sealed ++ m ∷ [])) (sym same.0) ∙ get-last s.sealed m;
      bytes_are = same.1;
      given = refl;
    }
sealed-now role theirs s event note t (has_opened _ _ _ _ came_bytes payload came new) n bytes e = search rules

sealed-at : (role : Role) (d last : DatagramSides) (events : List DatagramEvent) (notes : List (Role × DatagramNote)) → DatagramRun d events notes last
    → (i n : ℕ) (bytes : List ℕ) → slice_get notes i ≡ Some (role, Sealed n bytes) → SealedAs role (party last role) (slice_get events i) n bytes
sealed-at role d last events notes (ends _) i n bytes e = cc
sealed-at role d last events notes (begins _ next _ event more note rest now run) zero n bytes e =
    let s = sealed-now role (party d (other role)) (party d role) event note (party next role) (step-of role d next event note now) n bytes
    (same_Some note (role, Sealed n bytes) e) in
    record {
      message = s.message;
      at = unchanged role next last more rest run n s.message s.at;
      bytes_are = s.bytes_are;
      given = s.given;
    }
sealed-at role d last events notes (begins _ next _ event more note rest now run) (suc i) n bytes e =
    search ((sealed-at role next last more rest run i n bytes e))

found-now : (role : Role) (theirs s : DatagramSide) (event : DatagramEvent) (note : Role × DatagramNote) (t : DatagramSide)
    → OneStep role theirs s event note t → (n : ℕ) (m : NonceMessage) → slice_get t.sealed n ≡ Some m
    → (slice_get s.sealed n ≡ Some m) ⊎ ((event ≡ Seal role m.message.payload) × (note ≡ (role, Sealed n (datagram_bytes m))))
found-now role theirs s event note t (has_sealed _ _ _ payload _) n m e = search (rules, get-either)
found-now role theirs s event note t _ n m e = inl e

find-sealed : (role : Role) (d last : DatagramSides) (events : List DatagramEvent) (notes : List (Role × DatagramNote)) → DatagramRun d events notes last
    → (n : ℕ) (m : NonceMessage) → slice_get (party last role).sealed n ≡ Some m
    → (slice_get (party d role).sealed n ≡ Some m) ⊎ ((i : ℕ) × SealedAt events notes i role n m.message.payload (datagram_bytes m))
find-sealed role d last events notes (ends _) n m e = inl e
find-sealed role d last events notes (begins _ next _ event more note rest now run) n m e =
    elim (find-sealed role next last more rest run n m e) [
      | inr h ↦ inr (suc h.0, record { event = h.1.event; entry = h.1.entry })
      | inl here ↦ elim (found-now role (party d (other role)) (party d role) event note (party next role) (step-of role d next event note now) n m here) [
        | inl old ↦ inl old
        | inr h ↦ inr (0, record { event = ap Some h.0; entry = ap Some h.1 })
      ]
    ]

-- ---- what entries report of opened datagrams

-- bytes that come name the nonce of their event
came-named : (role : Role) (theirs : DatagramSide) (event : DatagramEvent) (bytes : List ℕ) → Came role theirs event bytes → Numbered theirs
    → nonce_of_event event ≡ Some (nonce_named bytes)
came-named role theirs event bytes came h = elim came [
  | inl raw ↦ ap nonce_of_event raw
  | inr numbered ↦ (
      let n = numbered.0 in
      let found = get-whole theirs.sealed n bytes numbered.2 in
      let at = h.number n found.0 found.1 in
      let same : found.0.nonce ≡ n = at.0 in
      let low : found.0.nonce < last_nonce = (let below = at.1 in omega (arith, same, below)) in
      ap nonce_of_event numbered.1 ∙ ap Some (sym same ∙ sym (whole-named found.0 low) ∙ ap nonce_named found.2)
      )
]

-- A role opened, at this nonce, a message with this payload, which came from outside or is the one of that number of the other's.
record OpenedAs (role : Role) (theirs s : DatagramSide) (event : Option DatagramEvent) (n : ℕ) (payload : List ℕ) : Type 0 where
  pub message : List ℕ
  pub has : Has s n (record { message = message; payload = payload })
  pub from : ((bytes : List ℕ) × (event ≡ Some (Raw role bytes)) × (nonce_named bytes ≡ n) × (drop 8 bytes ≡ message))
      ⊎ ((m : NonceMessage) × (slice_get theirs.sealed n ≡ Some m) × (m.message.message ≡ message))

opened-now : (role : Role) (theirs s : DatagramSide) (event : DatagramEvent) (note : Role × DatagramNote) (t : DatagramSide)
    → OneStep role theirs s event note t → Numbered theirs → (n : ℕ) (payload : List ℕ) → note ≡ (role, Payload payload) → nonce_of_event event ≡ Some n
    → OpenedAs role theirs t (Some event) n payload × (is_accepted s.state.accepted n ≡ false)
opened-now role theirs s event note t (stays _ _ _ _ _ _ none) h n payload e f = absurd (none payload e)
opened-now role theirs s event note t (has_sealed _ _ _ given _) h n payload e f = search rules
opened-now role theirs s event note t (has_opened _ _ _ _ bytes reported came new) h n payload e f =
    let named : nonce_named bytes ≡ n = same_Some (nonce_named bytes) n (sym (came-named role theirs event bytes came h) ∙ f) in
    let same : reported ≡ payload = cc (ap (λ (z : Role × DatagramNote). z.1) e) in (
      record {
        message = drop 8 bytes;
        has = record {
          among = or_left (nonce_named bytes == n) (is_accepted s.state.accepted n) (eq-eqb (nonce_named bytes) n named);
          message = first-of (at_nonce (nonce_named bytes) (drop 8 bytes) reported) s.opened n named
              ∙ ap (λ (p : List ℕ). Some (record { message = drop 8 bytes; payload = p })) same;
        };
        from = elim came [
          | inl raw ↦ inl (bytes, ap Some raw, named, refl)
          | inr numbered ↦ (
              let found = get-whole theirs.sealed numbered.0 bytes numbered.2 in
              inr (found.0, ap (slice_get theirs.sealed) (sym (same_Some numbered.0 n (sym (ap nonce_of_event numbered.1) ∙ f))) ∙ found.1, ap (drop 8) found.2)
              )
        ];
      },
      ap (is_accepted s.state.accepted) (sym named) ∙ new,
    )

later : (events : List DatagramEvent) (notes : List (Role × DatagramNote)) (event : DatagramEvent) (note : Role × DatagramNote) (i : ℕ) (role : Role)
    (n : ℕ) (payload : List ℕ) → OpenedAt (event ∷ events) (note ∷ notes) (suc i) role n payload → OpenedAt events notes i role n payload
later events notes event note i role n payload h = record { event = h.event; at = h.at; nonce = h.nonce; entry = h.entry }

first-now : (role : Role) (d next : DatagramSides) (event : DatagramEvent) (note : Role × DatagramNote) (events : List DatagramEvent)
    (notes : List (Role × DatagramNote)) → DatagramHappens d event note next → Numbered (party d (other role)) → (n : ℕ) (payload : List ℕ)
    → OpenedAt (event ∷ events) (note ∷ notes) 0 role n payload
    → OpenedAs role (party d (other role)) (party next role) (Some event) n payload × (is_accepted (party d role).state.accepted n ≡ false)
first-now role d next event note events notes now h n payload o =
    opened-now role (party d (other role)) (party d role) event note (party next role) (step-of role d next event note now) h n payload
    (same_Some note (role, Payload payload) o.entry) (ap nonce_of_event (same_Some event o.event o.at) ∙ o.nonce)

opened-at : (role : Role) (d last : DatagramSides) (events : List DatagramEvent) (notes : List (Role × DatagramNote)) → DatagramRun d events notes last
    → Numbered (party d (other role)) → (i n : ℕ) (payload : List ℕ) → OpenedAt events notes i role n payload
    → OpenedAs role (party last (other role)) (party last role) (slice_get events i) n payload
opened-at role d last events notes (ends _) h i n payload o = cc
opened-at role d last events notes (begins _ next _ event more note rest now run) h zero n payload o =
    let a = (first-now role d next event note more rest now h n payload o).0 in
    record {
      message = a.message;
      has = has-unchanged role next last more rest run n (record { message = a.message; payload = payload }) a.has;
      from = elim a.from [
        | inl raw ↦ inl raw
        | inr own ↦ inr (
          own.0,
          unchanged (other role) next last more rest run n own.0
              (unchanged-step (other role) (party d (other (other role))) (party d (other role)) event note (party next (other role))
              (step-of (other role) d next event note now) n own.0 own.1),
          own.2,
        )
      ];
    }
opened-at role d last events notes (begins _ next _ event more note rest now run) h (suc i) n payload o =
    search ((opened-at role next last more rest run (numbered-next (other role) d next event note now h) i n payload))

-- before it is opened a nonce isn't accepted
not-before : (role : Role) (d last : DatagramSides) (events : List DatagramEvent) (notes : List (Role × DatagramNote)) → DatagramRun d events notes last
    → Numbered (party d (other role)) → (i n : ℕ) (payload : List ℕ) → OpenedAt events notes i role n payload
    → is_accepted (party d role).state.accepted n ≡ false
not-before role d last events notes (ends _) h i n payload o = cc
not-before role d last events notes (begins _ next _ event more note rest now run) h zero n payload o =
    (first-now role d next event note more rest now h n payload o).1
not-before role d last events notes (begins _ next _ event more note rest now run) h (suc i) n payload o =
    less-step role (party d (other role)) (party d role) event note (party next role) (step-of role d next event note now) n
    (not-before role next last more rest run (numbered-next (other role) d next event note now h) i n payload
    (later more rest event note i role n payload o))

opened-once : (role : Role) (d last : DatagramSides) (events : List DatagramEvent) (notes : List (Role × DatagramNote)) → DatagramRun d events notes last
    → Numbered (party d (other role)) → (i j n : ℕ) (p q : List ℕ) → OpenedAt events notes i role n p → OpenedAt events notes j role n q → i ≡ j
opened-once role d last events notes (ends _) h i j n p q a b = cc
opened-once role d last events notes (begins _ next _ event more note rest now run) h zero zero n p q a b = refl
opened-once role d last events notes (begins _ next _ event more note rest now run) h zero (suc j) n p q a b =
    let new = not-before role next last more rest run (numbered-next (other role) d next event note now h) j n q (later more rest event note j role n q b) in
    absurd (false≢true (sym new ∙ ((first-now role d next event note more rest now h n p a).0).has.among))
opened-once role d last events notes (begins _ next _ event more note rest now run) h (suc i) zero n p q a b =
    let new = not-before role next last more rest run (numbered-next (other role) d next event note now h) i n p (later more rest event note i role n p a) in
    absurd (false≢true (sym new ∙ ((first-now role d next event note more rest now h n q b).0).has.among))
opened-once role d last events notes (begins _ next _ event more note rest now run) h (suc i) (suc j) n p q a b =
    search ((opened-once role next last more rest run (numbered-next (other role) d next event note now h) i j n p q))

opened-found : (role : Role) (theirs s : DatagramSide) (event : DatagramEvent) (note : Role × DatagramNote) (t : DatagramSide)
    → OneStep role theirs s event note t → Numbered theirs → (n : ℕ) (m : TransportMessage) → of_nonce t.opened n ≡ Some m
    → (of_nonce s.opened n ≡ Some m) ⊎ ((nonce_of_event event ≡ Some n) × (note ≡ (role, Payload m.payload)))
opened-found role theirs s event note t (has_opened _ _ _ _ bytes payload came new) h n m e =
    let first : NonceMessage = at_nonce (nonce_named bytes) (drop 8 bytes) payload in
    elim (eqb_tells (nonce_named bytes) n) [
      | inl y ↦ inr (
        came-named role theirs event bytes came h ∙ ap Some y.1,
        ap (λ (z : TransportMessage). (role, Payload z.payload)) (same_Some first.message m (sym (first-of first s.opened n y.1) ∙ e)),
      )
      | inr y ↦ inl (sym (later-of first s.opened n y.1) ∙ e)
    ]
opened-found role theirs s event note t _ h n m e = inl e

find-opened : (role : Role) (d last : DatagramSides) (events : List DatagramEvent) (notes : List (Role × DatagramNote)) → DatagramRun d events notes last
    → Numbered (party d (other role)) → (n : ℕ) (m : TransportMessage) → of_nonce (party last role).opened n ≡ Some m
    → (of_nonce (party d role).opened n ≡ Some m) ⊎ ((i : ℕ) × OpenedAt events notes i role n m.payload)
find-opened role d last events notes (ends _) h n m e = inl e
find-opened role d last events notes (begins _ next _ event more note rest now run) h n m e =
    elim (find-opened role next last more rest run (numbered-next (other role) d next event note now h) n m e) [
      | inr f ↦ inr (suc f.0, record { event = f.1.event; at = f.1.at; nonce = f.1.nonce; entry = f.1.entry })
      | inl here ↦ elim (opened-found role (party d (other role)) (party d role) event note (party next role) (step-of role d next event note now) h n m here) [
        | inl old ↦ inl old
        | inr f ↦ inr (0, record { event = event; at = refl; nonce = f.0; entry = ap Some f.1 })
      ]
    ]

-- ---- both parties

numbered-new : (v : DatagramState) → v.sent ≡ 0 → Numbered (new_party v)
numbered-new v e = record { sending = e; few = omega arith; number = λ n m f. cc }

is-reported : (role : Role) (d last : DatagramSides) (events : List DatagramEvent) (notes : List (Role × DatagramNote)) → DatagramRun d events notes last
    → Numbered (party d (other role)) → (party d role).sealed ≡ [] → (party d role).opened ≡ [] → IsReportedOfDatagrams role events notes (party last role)
is-reported role d last events notes run h none unopened = record {
  sealed = λ n m e. elim (find-sealed role d last events notes run n m e) [
    | inl old ↦ cc (sym (ap (λ (z : List NonceMessage). slice_get z n) none) ∙ old)
    | inr f ↦ f
  ];
  sealed_only = λ i n payload bytes at. (
      let s = sealed-at role d last events notes run i n bytes at.entry in
      (s.message, s.at, cc (sym s.given ∙ at.event), s.bytes_are)
      );
  opened = λ n m e. elim (find-opened role d last events notes run h n m e) [
    | inl old ↦ cc (sym (ap (λ (z : List NonceMessage). of_nonce z n) unopened) ∙ old)
    | inr f ↦ f
  ];
  opened_only = λ i n payload at. (
      let o = opened-at role d last events notes run h i n payload at in
      (record { message = o.message; payload = payload }, o.has.message, refl)
      );
}

pub datagrams-are-reported : DatagramsAreReported
datagrams-are-reported v w events notes last b run = (
  is-reported Initiator (datagram_sides v w) last events notes run (numbered-new w b.responder_sent) refl refl,
  is-reported Responder (datagram_sides v w) last events notes run (numbered-new v b.initiator_sent) refl refl,
)

-- ---- one direction

counted-of : (r : SymmetricState) (writer : Role) (n k : ℕ) (ms : List NonceMessage) (m : NonceMessage) → AreCounted r writer n ms → slice_get ms k ≡ Some m
    → of_nonce ms (n + k) ≡ Some m.message
counted-of r writer n k [] m h e = cc
counted-of r writer n zero (x ∷ ms) m h e =
    let same : x ≡ m = same_Some x m e in
    first-of x ms (n + 0) (h.0 ∙ omega arith) ∙ ap (λ (z : NonceMessage). Some z.message) same
counted-of r writer n (suc k) (x ∷ ms) m h e =
    let apart : x.nonce ≢ n + suc k = λ same. (let first = h.0 in absurd (omega (arith, first, same))) in
    let step : n + suc k ≡ (n + 1) + k = omega arith in
    later-of x ms (n + suc k) apart ∙ ap (of_nonce ms) step ∙ counted-of r writer (n + 1) k ms m h.2 e

at-nonce : (r : SymmetricState) (writer : Role) (ms : List NonceMessage) (n : ℕ) (m : TransportMessage) → AreAtNonces r writer ms → of_nonce ms n ≡ Some m
    → m.message ≡ transport_message r writer 0 n m.payload
at-nonce r writer [] n m h e = cc
at-nonce r writer (x ∷ ms) n m h e = elim (eqb_tells x.nonce n) [
  | inl y ↦ subst (λ (z : TransportMessage). z.message ≡ transport_message r writer 0 n z.payload) (same_Some x.message m (sym (first-of x ms n y.1) ∙ e))
      (subst (λ (i : ℕ). x.message.message ≡ transport_message r writer 0 i x.message.payload) y.1 h.0)
  | inr y ↦ at-nonce r writer ms n m h.1 (sym (later-of x ms n y.1) ∙ e)
]

module _ (r : SymmetricState) (writer : Role) (d last : DatagramSides) (events : List DatagramEvent) (notes : List (Role × DatagramNote))
    (run : DatagramRun d events notes last) (reads : Numbered (party d (other (other writer)))) (empty : (party d writer).sealed ≡ [])
    (back : party last (other (other writer)) ≡ party last writer)
    (counted : AreCounted r writer 0 (party last writer).sealed) (placed : AreAtNonces r writer (party last (other writer)).opened)
    (arrive : ArriveOnce r writer (party last writer).sealed (party last (other writer)).opened) where
  -- a datagram of the writer's, at its nonce
  sealed-of : (n : ℕ) (m : NonceMessage) → slice_get (party last writer).sealed n ≡ Some m → of_nonce (party last writer).sealed n ≡ Some m.message
  sealed-of n m e =
      let zero-more : n ≡ 0 + n = omega arith in
      ap (of_nonce (party last writer).sealed) zero-more ∙ counted-of r writer 0 n (party last writer).sealed m counted e

  module _ (i n : ℕ) (payload : List ℕ) (at : OpenedAt events notes i (other writer) n payload) where
    found : OpenedAs (other writer) (party last (other (other writer))) (party last (other writer)) (slice_get events i) n payload
    found = opened-at (other writer) d last events notes run reads i n payload at

    the-transport_message : found.message ≡ transport_message r writer 0 n payload
    the-transport_message = at-nonce r writer (party last (other writer)).opened n (record { message = found.message; payload = payload }) placed found.has.message

    own-entry : slice_get (party last writer).sealed n ≡ Some (record { nonce = n; message = record { message = found.message; payload = payload } })
        → (j : ℕ) × SealedAt events notes j writer n payload (datagram r writer n payload)
    own-entry e = elim (find-sealed writer d last events notes run n (at_nonce n found.message payload) e) [
      | inl old ↦ cc (sym (ap (λ (z : List NonceMessage). slice_get z n) empty) ∙ old)
      | inr f ↦ (
        f.0,
        record { event = f.1.event; entry = f.1.entry ∙ ap (λ (z : List ℕ). Some (writer, Sealed n (to_be_bytes w64 n ++ z))) the-transport_message },
      )
    ]

    forged-entry : ForgedMessage r writer 0 (of_nonce (party last writer).sealed) (of_nonce (party last (other writer)).opened) n
        → ForgedDatagram r writer events notes i n payload
    forged-entry f =
        let same : f.forged ≡ record { message = found.message; payload = payload } =
        same_Some f.forged (record { message = found.message; payload = payload }) (sym f.came ∙ found.has.message) in
        let text : f.forged.message ≡ found.message = ap (λ (z : TransportMessage). z.message) same in
        elim found.from [
          | inl raw ↦ record {
            bytes = raw.0;
            came = raw.1;
            nonce = raw.2;
            message = raw.3 ∙ the-transport_message;
            unsealed = λ j e.
                (let s = sealed-at writer d last events notes run j n (datagram r writer n payload) e in
                f.unwritten s.message.message (sealed-of n s.message s.at) (ap (drop 8) s.bytes_are ∙ sym the-transport_message ∙ sym text));
          }
          | inr own ↦ absurd (f.unwritten own.0.message
              (sealed-of n own.0 (ap (λ (z : DatagramSide). slice_get z.sealed n) (sym back) ∙ own.1)) (own.2 ∙ sym text))
        ]

  arrives : EntriesArrive r writer events notes
  arrives = record {
    once = λ i j n p q a b. opened-once (other writer) d last events notes run reads i j n p q a b;
    own = λ i n payload at. elim (arrive.own n (record { message = (found i n payload at).message; payload = payload }) (found i n payload at).has.message) [
      | inl e ↦ inl (own-entry i n payload at e)
      | inr f ↦ inr (forged-entry i n payload at f)
    ];
  }

module _ (agree : DatagramRunsAgree) where
  pub datagram-entries-agree : DatagramEntriesAgree
  datagram-entries-agree v w events notes last b run = search (rules, arrives)

  pub datagram-keys-come : DatagramKeysCome
  datagram-keys-come v w events notes last duel b run matches = search rules

-- ---- with equal hashes

-- what follows of one history, or the position of a clash
pub or-clash : {A : Type 0} → FoundIsClash → ClashFound → (p : Plan) (a b : Start) (d : Sides) → (HaveOneHistory p a b d → A)
    → HaveOneHistory p a b d ⊎ HaveClash p a b d → A ⊎ HistoriesClash p a b d
or-clash matches first p a b d one (inl same) = inl (one same)
or-clash matches first p a b d one (inr (i, c)) =
    let r : History = history_of p Initiator a d.initiator.passed in
    let s : History = history_of p Responder b d.responder.passed in
    let at = first r s i c in
    inr (at.0, at.1, matches r s at.0 at.1)
