-- What version 2 adds: how its lines begin, and that they have no line feed (10).
use Rattle.std.proofs.Common.{rules, arith, ◌≡◌, ◌<◌, ◌^◌, ◌==◌, ◌≤◌, inl, inr, lit<, ap, refl, true, false, ℕ, Vec, Option, Some, None, List, ◌∷◌, ◌++◌, codes, []}
use Rattle.std.specs.Global.{Global}
use Rattle.std.specs.Prelude.{decimal}
use Rattle.std.specs.Bool.{nat_eq}
use Rattle.noise_vectors.proofs.Common.{All, starts_with, nat_tests, All-head, All-tail, Role, Window, width_of, DatagramEvent, Event, hex_of, IsAllowedVersion, IsDatagramEvent, IsExpected, AfterDatagrams, AfterEvents, datagram_event_words, datagram_kind_word, event_words, expect_words, datagrams_text, is_second, line_then, lines_of, role_word, version_text, window_words, lacks, AllowedEvents, SayOnly, VersionOne, FileDatagrams, Version, One, Two}
use Rattle.noise_events.specs.declared.window.Window.TheVariants.{W64}
use Rattle.noise_events.specs.declared.datagram_event.DatagramEvent.TheVariants.{Open, Raw, Seal}
use Rattle.noise_vectors.specs.declared.vector.Additions.{Additions}
use Rattle.noise_vectors.specs.declared.words.DatagramKind.{DatagramKind}
use Rattle.noise_vectors.proofs.LackLemmas.{lacks-append, lacks-hex_of, role_word-plain}
use Rattle.noise_vectors.proofs.WordLemmas.{lacks-decimal}
use Rattle.noise_events.specs.declared.event.Event.TheVariants as event
use Rattle.noise_vectors.specs.declared.words.DatagramKind.TheVariants as kinds

-- ---- what comes next

-- the line of an event isn't after the events
pub event-stands : (e : Event) (after : List ℕ) → ¬ AfterEvents (line_then (event_words e) after)
event-stands (event.Say role payload cuts) after (inl none) = absurd (cc none)
event-stands (event.Say role payload cuts) after (inr (inl begun)) = absurd (cc begun)
event-stands (event.Say role payload cuts) after (inr (inr begun)) = absurd (cc begun)
event-stands (event.Write role payload) after (inl none) = absurd (cc none)
event-stands (event.Write role payload) after (inr (inl begun)) = absurd (cc begun)
event-stands (event.Write role payload) after (inr (inr begun)) = absurd (cc begun)
event-stands (event.Deliver role number cuts) after (inl none) = absurd (cc none)
event-stands (event.Deliver role number cuts) after (inr (inl begun)) = absurd (cc begun)
event-stands (event.Deliver role number cuts) after (inr (inr begun)) = absurd (cc begun)
event-stands (event.Raw role bytes) after (inl none) = absurd (cc none)
event-stands (event.Raw role bytes) after (inr (inl begun)) = absurd (cc begun)
event-stands (event.Raw role bytes) after (inr (inr begun)) = absurd (cc begun)

-- nor is that of one of the datagrams' after them
pub datagram_event-stands : (e : DatagramEvent) (after : List ℕ) → ¬ AfterDatagrams (line_then (datagram_event_words e) after)
datagram_event-stands (Seal role payload) after (inl none) = absurd (cc none)
datagram_event-stands (Seal role payload) after (inr begun) = absurd (cc begun)
datagram_event-stands (Open role number) after (inl none) = absurd (cc none)
datagram_event-stands (Open role number) after (inr begun) = absurd (cc begun)
datagram_event-stands (Raw role bytes) after (inl none) = absurd (cc none)
datagram_event-stands (Raw role bytes) after (inr begun) = absurd (cc begun)

-- ---- the parts of an event's words

abbrev pub datagram_kind_of : DatagramEvent → DatagramKind
datagram_kind_of (Seal role payload) = kinds.Seal
datagram_kind_of (Open role number) = kinds.Open
datagram_kind_of (Raw role bytes) = kinds.Foreign

abbrev pub datagram_role_of : DatagramEvent → Role
datagram_role_of (Seal role payload) = role
datagram_role_of (Open role number) = role
datagram_role_of (Raw role bytes) = role

-- what follows the role
abbrev pub datagram_operand_of : DatagramEvent → List ℕ
datagram_operand_of (Seal role payload) = hex_of payload.items
datagram_operand_of (Open role number) = decimal number
datagram_operand_of (Raw role bytes) = hex_of bytes.items

pub datagram_event_words-parts : (e : DatagramEvent)
    → datagram_event_words e ≡ datagram_kind_word (datagram_kind_of e) ++ 32 ∷ (role_word (datagram_role_of e) ++ 32 ∷ datagram_operand_of e)
datagram_event_words-parts (Seal role payload) = refl
datagram_event_words-parts _ = refl

-- ---- no line feed (10)

operand-line : (role : Role) (operand : List ℕ) → lacks 10 operand ≡ true → lacks 10 (role_word role ++ 32 ∷ operand) ≡ true
operand-line role operand h = lacks-append 10 (role_word role) (32 ∷ operand) (role_word-plain role).0 h

pub datagram_event_words-line : (e : DatagramEvent) → IsDatagramEvent e → lacks 10 (datagram_event_words e) ≡ true
datagram_event_words-line (Seal role payload) h = search (operand-line, lacks-hex_of, lit<)
datagram_event_words-line (Open role number) h = search (rules, lacks-decimal)
datagram_event_words-line (Raw role bytes) h = search (operand-line, lacks-hex_of, lit<)

pub width-small : (window : Window) → width_of window < 2 ^ 64
width-small W64 = omega arith
width-small _ = omega arith

pub window_words-line : (window : Window) → lacks 10 (window_words window) ≡ true
window_words-line window = search (lacks-append, lacks-decimal, lit<, width-small)

abbrev pub IsPrinted : ℕ → Type 0
IsPrinted b = (32 ≤ b) × (b ≤ 126)

printed-line : (words : List ℕ) → All IsPrinted words → lacks 10 words ≡ true
printed-line [] h = refl
printed-line (b ∷ bs) h =
    let here : IsPrinted b = All-head IsPrinted b bs h in
    let low : 32 ≤ b = here.0 in
    let other : (b == 10) ≡ false = grind (arith, nat_tests) in
    rw (other, (printed-line bs (All-tail IsPrinted b bs h))) refl

pub expected-line : (words : List ℕ) → IsExpected words → lacks 10 (codes "expect " ++ words) ≡ true
expected-line words h = lacks-append 10 (codes "expect ") words refl (printed-line words h.1)

-- ---- how what follows the events begins

other-byte : (x y : ℕ) (text front rest : List ℕ) → nat_eq x y ≡ false → starts_with nat_eq text (x ∷ front) ≡ true → starts_with nat_eq text (y ∷ rest) ≡ false
other-byte x y [] front rest differ h = absurd (cc h)
other-byte x y (b ∷ bs) front rest differ h = search rules

pub after_events-no_answer : (rest : List ℕ) → AfterEvents rest → starts_with nat_eq rest (codes "answer ") ≡ false
after_events-no_answer rest (inl none) = rw none refl
after_events-no_answer rest (inr (inl begun)) = other-byte 100 97 rest (codes "atagrams ") (codes "nswer ") refl begun
after_events-no_answer rest (inr (inr begun)) = other-byte 101 97 rest (codes "xpect ") (codes "nswer ") refl begun

-- ---- what a version may have

-- where their first line comes next, there are datagrams
pub over-stands : (over : Option FileDatagrams) (left rest : List ℕ) → starts_with nat_eq left (codes "datagrams ") ≡ true → AfterDatagrams rest
    → left ≡ datagrams_text over rest → (d : FileDatagrams) × (over ≡ Some d)
over-stands (Some d) left rest begun after e = (d, refl)
over-stands None left rest begun after e = search rules

pub second-has : (version : Version) → is_second version ≡ true → (a : Additions) × (version ≡ Two a)
second-has One e = absurd (cc e)
second-has (Two a) e = (a, refl)

pub no-datagrams : (allowed : AllowedEvents) (a : Additions) → IsAllowedVersion allowed (Two a) → allowed ≡ SayOnly → a.datagrams ≡ None
no-datagrams SayOnly a h e = h
no-datagrams _ a h e = absurd (cc e)

pub no-second : (allowed : AllowedEvents) (version : Version) → IsAllowedVersion allowed version → allowed ≡ VersionOne → is_second version ≡ false
no-second VersionOne version h e = ap is_second h
no-second _ version h e = absurd (cc e)

pub expected-after : (expected : List (Vec ℕ Global)) → AfterDatagrams (lines_of expect_words expected [])
expected-after [] = inl refl
expected-after (w ∷ ws) = inr refl

expected-end : (expected : List (Vec ℕ Global)) → AfterEvents (lines_of expect_words expected [])
expected-end [] = inl refl
expected-end (w ∷ ws) = inr (inr refl)

additions-end : (over : Option FileDatagrams) (expected : List (Vec ℕ Global)) → AfterEvents (datagrams_text over (lines_of expect_words expected []))
additions-end None expected = expected-end expected
additions-end (Some d) expected = inr (inl refl)

pub version-after : (version : Version) → AfterEvents (version_text version)
version-after One = inl refl
version-after (Two a) = additions-end a.datagrams a.expected.items
