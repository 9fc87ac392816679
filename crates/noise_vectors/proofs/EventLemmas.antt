-- The words of an event.
use Rattle.std.proofs.Common.{rules, arith, ◌≡◌, ◌<◌, ◌^◌, lit<, refl, true, ℕ, List, ◌∷◌, ◌++◌, codes, []}
use Rattle.std.specs.Prelude.{decimal}
use Rattle.noise_vectors.proofs.Common.{All, All-nil, Role, Event, Write, Say, Deliver, hex_of, IsAllowed, IsEvent, IsShort, event_words, kind_word, lengths_word, role_word, lacks, AllowedEvents}
use Rattle.noise_events.specs.declared.event.Event.TheVariants.{Raw}
use Rattle.noise_vectors.specs.declared.words.EventKind.{EventKind}
use Rattle.noise_vectors.proofs.LackLemmas.{lacks-append, lacks-hex_of, lacks-lengths_word}
use Rattle.noise_vectors.proofs.WordLemmas.{lacks-decimal}
use Rattle.noise_vectors.specs.declared.words.EventKind.TheVariants as kinds

-- ---- its parts

abbrev pub kind_of : Event → EventKind
kind_of (Say role payload cuts) = kinds.Say
kind_of (Write role payload) = kinds.Write
kind_of (Deliver role number cuts) = kinds.Deliver
kind_of (Raw role bytes) = kinds.Raw

abbrev pub role_of : Event → Role
role_of (Say role payload cuts) = role
role_of (Write role payload) = role
role_of (Deliver role number cuts) = role
role_of (Raw role bytes) = role

-- what follows the role
abbrev pub operands_of : Event → List ℕ
operands_of (Say role payload cuts) = hex_of payload.items ++ 32 ∷ lengths_word cuts
operands_of (Write role payload) = hex_of payload.items
operands_of (Deliver role number cuts) = decimal number ++ 32 ∷ lengths_word cuts
operands_of (Raw role bytes) = hex_of bytes.items

pub event_words-parts : (event : Event) → event_words event ≡ kind_word (kind_of event) ++ 32 ∷ (role_word (role_of event) ++ 32 ∷ operands_of event)
event_words-parts (Say role payload cuts) = refl
event_words-parts _ = refl

-- ---- its line

pub line-of : (front : List ℕ) (role : Role) (operands : List ℕ) → lacks 10 front ≡ true → lacks 10 operands ≡ true
    → lacks 10 (front ++ (role_word role ++ 32 ∷ operands)) ≡ true
line-of front role operands f o = search (rules, lacks-append)

-- they have no line feed (10)
pub event_words-line : (event : Event) → IsEvent event → lacks 10 (event_words event) ≡ true
event_words-line (Say role payload cuts) h = search (rules, lacks-append, lacks-hex_of, lacks-lengths_word)
event_words-line (Write role payload) h = line-of (codes "write ") role (hex_of payload.items) refl (lacks-hex_of 10 payload.items (lit< tt) h.1)
event_words-line (Deliver role number cuts) h = search (rules, lacks-append, lacks-decimal, lacks-lengths_word)
event_words-line (Raw role bytes) h = line-of (codes "raw ") role (hex_of bytes.items) refl (lacks-hex_of 10 bytes.items (lit< tt) h.1)

-- ---- its words

pub payload-word : (payload : List ℕ) → IsShort payload → lacks 32 (hex_of payload) ≡ true
payload-word payload h = lacks-hex_of 32 payload (lit< tt) h.1

pub number-word : (number : ℕ) → number < 2 ^ 32 → lacks 32 (decimal number) ≡ true
number-word number h = lacks-decimal 32 number (lit< tt) (omega (arith, h))

-- ---- all of a file's events

-- an event that is allowed
abbrev pub IsRight : AllowedEvents → Event → Type 0
IsRight allowed event = IsEvent event × IsAllowed allowed event

pub right-plain : (allowed : AllowedEvents) (event : Event) → IsRight allowed event → lacks 10 (event_words event) ≡ true
right-plain allowed event h = event_words-line event h.0

pub all-right : (allowed : AllowedEvents) (events : List Event) → All IsEvent events → All (IsAllowed allowed) events → All (IsRight allowed) events
all-right allowed [] h g = All-nil (IsRight allowed)
all-right allowed (e ∷ es) h g = search
