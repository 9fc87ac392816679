-- No lines of a vector file are those of two values.
use Rattle.std.proofs.Common.{rules, arith, ◌≡◌, ◌∙◌, ◌<◌, ◌^◌, ap, sym, refl, lit<, true, false, ℕ, List, ◌∷◌, ◌++◌, map, codes, get_or, Option, []}
use Rattle.std.specs.Prelude.{decimal, Vec}
use Rattle.std.specs.Global.{Global}
use Rattle.std.specs.Bool.{nat_eq}
use Rattle.noise_vectors.proofs.Common.{IfSome, All, starts_with, decimal_injective, append_cancel_left, map-id, encode_lower, Role, DatagramEvent, Event, Write, Say, Deliver, TableEntry, hex_of, cuts_of, IsDatagramEvent, IsEntry, IsEvent, IsExpected, AfterDatagrams, AfterEvents, answer_words, datagram_event_words, event_words, expect_words, key_word, key_words, lengths_word, lines_of, own_word, psk_words, role_word, IsKey, lacks}
use Rattle.noise_events.specs.Events.{event_of}
use Rattle.noise_events.specs.DatagramEvents.{datagram_event_of}
use Rattle.noise_events.specs.declared.event.Event.TheVariants.{Raw}
use Rattle.noise_vectors.proofs.AdditionLemmas.{datagram_event-stands, datagram_event_words-line, event-stands, expected-line}
use Rattle.noise_vectors.proofs.EventLemmas.{event_words-line}
use Rattle.noise_vectors.proofs.LackLemmas.{lacks-encode_lower, lacks-hex_of, lacks-key_word, own_word-plain}
use Rattle.noise_vectors.proofs.PartLemmas.{lines-same}
use Rattle.noise_vectors.proofs.PartyLemmas.{answer-stands, begins, lacks-answer_words}
use Rattle.noise_vectors.proofs.ReadingLemmas.{psk-plain, psk-stands}
use Rattle.noise_vectors.proofs.UniqueWords.{first-byte, hex-one, key-one, key_word-one, lengths-one, numbers-apart, own-one, parted-one}
use Rattle.noise_vectors.proofs.WordLemmas.{lacks-decimal}
use Rattle.noise_events.specs.declared.datagram_event.DatagramEvent.TheVariants as datagram

-- ---- psks

psk-one : (a b : List ℕ) → IsKey a → IsKey b → psk_words a ≡ psk_words b → a ≡ b
psk-one a b h k e = key-one a b h k (append_cancel_left (codes "psk ") (encode_lower a) (encode_lower b) e)

pub psks-one : (xs bs : List (List ℕ)) (u v : List ℕ) → All IsKey xs → All IsKey bs → starts_with nat_eq u (codes "psk ") ≡ false
    → starts_with nat_eq v (codes "psk ") ≡ false
    → lines_of psk_words xs u ≡ lines_of psk_words bs v → (xs ≡ bs) × (u ≡ v)
psks-one xs bs u v h k hu hv e =
    let parts = lines-same psk_words IsKey (λ (rest : List ℕ). starts_with nat_eq rest (codes "psk ") ≡ false) (λ x. x) psk-plain psk-stands psk-one xs bs u v h k hu hv e in
    (sym (map-id xs) ∙ parts.0 ∙ map-id bs, parts.1)

-- ---- answers

answer-one : (a b : TableEntry) → IsEntry a → IsEntry b → answer_words a ≡ answer_words b → a ≡ b
answer-one a b h k e =
    let after = append_cancel_left (codes "answer ") (own_word a.own ++ 32 ∷ (encode_lower a.remote ++ 32 ∷ encode_lower a.answer))
    (own_word b.own ++ 32 ∷ (encode_lower b.remote ++ 32 ∷ encode_lower b.answer)) e in
    let owns = parted-one 32 (own_word a.own) (own_word b.own) (encode_lower a.remote ++ 32 ∷ encode_lower a.answer)
    (encode_lower b.remote ++ 32 ∷ encode_lower b.answer) (own_word-plain a.own).1 (own_word-plain b.own).1 after in
    let keys = parted-one 32 (encode_lower a.remote) (encode_lower b.remote) (encode_lower a.answer) (encode_lower b.answer)
    (lacks-encode_lower 32 a.remote (lit< tt) h.0.1) (lacks-encode_lower 32 b.remote (lit< tt) k.0.1) owns.1 in
    let own = own-one a.own b.own owns.0 in
    let remote = key-one a.remote b.remote h.0 k.0 keys.0 in
    let answer = key-one a.answer b.answer h.1 k.1 keys.1 in
    ap (λ (o : _). record a { own = o }) own ∙ ap (λ (t : List ℕ). record a { own = b.own; remote = t }) remote
    ∙ ap (λ (t : List ℕ). record b { answer = t }) answer

pub dh-results-one : (xs bs : List TableEntry) (u v : List ℕ) → All IsEntry xs → All IsEntry bs → begins u ≡ false → begins v ≡ false
    → lines_of answer_words xs u ≡ lines_of answer_words bs v → (xs ≡ bs) × (u ≡ v)
dh-results-one xs bs u v h k hu hv e =
    let parts = lines-same answer_words IsEntry (λ (rest : List ℕ). begins rest ≡ false) (λ x. x) lacks-answer_words answer-stands answer-one xs bs u v h k hu hv e in
    (sym (map-id xs) ∙ parts.0 ∙ map-id bs, parts.1)

-- two keys
pub keys-one : (e s f t : Option (List ℕ)) → IfSome e IsKey → IfSome s IsKey → IfSome f IsKey → IfSome t IsKey → key_words e s ≡ key_words f t
    → (e ≡ f) × (s ≡ t)
keys-one e s f t he hs hf ht same =
    let parts = parted-one 32 (key_word e) (key_word f) (key_word s) (key_word t) (lacks-key_word 32 e (lit< tt) he)
    (lacks-key_word 32 f (lit< tt) hf) same in
    (key_word-one e f he hf parts.0, key_word-one s t hs ht parts.1)

-- ---- events

-- a role, and what follows it
roles-one : (r s : Role) (x y : List ℕ) → role_word r ++ 32 ∷ x ≡ role_word s ++ 32 ∷ y → (r ≡ s) × (x ≡ y)
roles-one r s x y e = search rules

same-number : (m n : ℕ) → m < 2 ^ 32 → n < 2 ^ 32 → decimal m ≡ decimal n → m ≡ n
same-number m n h k e = decimal_injective m n (omega (arith, h)) (omega (arith, k)) e

number-plain : (byte n : ℕ) → byte < 48 → n < 2 ^ 32 → lacks byte (decimal n) ≡ true
number-plain byte n low h = lacks-decimal byte n low (omega (arith, h))

third : (x y : List ℕ) → x ≡ y → get_or x 2 0 ≡ get_or y 2 0
third x y e = ap (λ (t : List ℕ). get_or t 2 0) e

pub event-one : (x y : Event) → IsEvent x → IsEvent y → event_words x ≡ event_words y → (event_of x ≡ event_of y) × (cuts_of x ≡ cuts_of y)
event-one (Say r p c) (Say s q d) h k e =
    let roles = roles-one r s (hex_of p.items ++ 32 ∷ lengths_word c) (hex_of q.items ++ 32 ∷ lengths_word d) (append_cancel_left (codes "say ") _ _ e) in
    let parts = parted-one 32 (hex_of p.items) (hex_of q.items) (lengths_word c) (lengths_word d)
    (lacks-hex_of 32 p.items (lit< tt) h.0.1) (lacks-hex_of 32 q.items (lit< tt) k.0.1) roles.1 in
    let payload = hex-one p.items q.items h.0.1 k.0.1 parts.0 in
    (cc (roles.0, payload), lengths-one c d h.1.0 k.1.0 parts.1)
event-one (Write r p) (Write s q) h k e =
    let roles = roles-one r s (hex_of p.items) (hex_of q.items) (append_cancel_left (codes "write ") _ _ e) in
    let payload = hex-one p.items q.items h.1 k.1 roles.1 in
    (cc (roles.0, payload), refl)
event-one (Deliver r m c) (Deliver s n d) h k e =
    let roles = roles-one r s (decimal m ++ 32 ∷ lengths_word c) (decimal n ++ 32 ∷ lengths_word d) (append_cancel_left (codes "deliver ") _ _ e) in
    let parts = parted-one 32 (decimal m) (decimal n) (lengths_word c) (lengths_word d) (number-plain 32 m (lit< tt) h.0) (number-plain 32 n (lit< tt) k.0)
    roles.1 in
    let number = same-number m n h.0 k.0 parts.0 in
    (cc (roles.0, number), lengths-one c d h.1.0 k.1.0 parts.1)
event-one (Raw r p) (Raw s q) h k e =
    let roles = roles-one r s (hex_of p.items) (hex_of q.items) (append_cancel_left (codes "raw ") _ _ e) in
    let bytes = hex-one p.items q.items h.1 k.1 roles.1 in
    (cc (roles.0, bytes), refl)
event-one x y h k e = absurd (numbers-apart _ _ (third (event_words x) (event_words y) e) refl)

pub events-one : (xs ys : List Event) (u v : List ℕ) → All IsEvent xs → All IsEvent ys → AfterEvents u → AfterEvents v
    → lines_of event_words xs u ≡ lines_of event_words ys v → (map event_of xs ≡ map event_of ys) × (map cuts_of xs ≡ map cuts_of ys) × (u ≡ v)
events-one xs ys u v h k hu hv e =
    let events = lines-same event_words IsEvent AfterEvents event_of event_words-line event-stands (λ x y hx hy s. (event-one x y hx hy s).0)
    xs ys u v h k hu hv e in
    let cuts = lines-same event_words IsEvent AfterEvents cuts_of event_words-line event-stands (λ x y hx hy s. (event-one x y hx hy s).1)
    xs ys u v h k hu hv e in
    (events.0, cuts.0, events.1)

-- ---- events of datagrams

datagram-one : (x y : DatagramEvent) → IsDatagramEvent x → IsDatagramEvent y → datagram_event_words x ≡ datagram_event_words y
    → datagram_event_of x ≡ datagram_event_of y
datagram-one (datagram.Seal r p) (datagram.Seal s q) h k e =
    let roles = roles-one r s (hex_of p.items) (hex_of q.items) (append_cancel_left (codes "seal ") _ _ e) in
    let payload = hex-one p.items q.items h.1 k.1 roles.1 in
    cc (roles.0, payload)
datagram-one (datagram.Open r m) (datagram.Open s n) h k e = search (rules, same-number)
datagram-one (datagram.Raw r p) (datagram.Raw s q) h k e =
    let roles = roles-one r s (hex_of p.items) (hex_of q.items) (append_cancel_left (codes "foreign ") _ _ e) in
    let bytes = hex-one p.items q.items h.1 k.1 roles.1 in
    cc (roles.0, bytes)
datagram-one x y h k e = absurd (numbers-apart _ _ (first-byte (datagram_event_words x) (datagram_event_words y) e) refl)

pub datagrams-one : (xs ys : List DatagramEvent) (u v : List ℕ) → All IsDatagramEvent xs → All IsDatagramEvent ys → AfterDatagrams u
    → AfterDatagrams v → lines_of datagram_event_words xs u ≡ lines_of datagram_event_words ys v
    → (map datagram_event_of xs ≡ map datagram_event_of ys) × (u ≡ v)
datagrams-one xs ys u v h k hu hv e =
    lines-same datagram_event_words IsDatagramEvent AfterDatagrams datagram_event_of datagram_event_words-line datagram_event-stands datagram-one xs ys u v h k hu hv e

-- ---- lines that are expected

abbrev pub IsExpectedLine : Vec ℕ Global → Type 0
IsExpectedLine words = IsExpected words.items

expect-one : (a b : Vec ℕ Global) → IsExpectedLine a → IsExpectedLine b → expect_words a ≡ expect_words b → a.items ≡ b.items
expect-one a b h k e = append_cancel_left (codes "expect ") a.items b.items e

pub expected-one : (xs bs : List (Vec ℕ Global)) → All (λ words. IsExpected words.items) xs → All (λ words. IsExpected words.items) bs
    → lines_of expect_words xs [] ≡ lines_of expect_words bs [] → map (λ l. l.items) xs ≡ map (λ l. l.items) bs
expected-one xs bs h k e =
    (lines-same expect_words IsExpectedLine (λ (rest : List ℕ). rest ≡ []) (λ l. l.items) (λ x g. expected-line x.items g) (λ x rest none. absurd (cc none))
    expect-one xs bs [] [] h k refl refl e).0
