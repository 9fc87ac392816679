-- A file whose lines fit is refused only where it is too long or memory runs out.
use Rattle.std.proofs.Common.{◌≡◌, ◌∙◌, refl, ap, ap₂, sym, subst, ◌⊎◌, inl, inr, ◌<◌, ℕ, List, [], ◌∷◌, length, Option, Some, None}
use Rattle.std.specs.List.{All}
use Rattle.std.proofs.lemmas.List.Elements.{All-cons, All-nil}
use Rattle.noise_transcript.proofs.Common.{Role, Initiator, Responder, Plan, other, IsFirstFault, IsValid, setup_fault, Say, event_of, events_of, say_events, public_of, SaySame, VectorTextsAreUnique, held_datagrams, IsAllowed, IsAllowedFile, IsAllowedVersion, IsVectorFile, file_text, FileKeys, SayOnly, VectorFile, Version, One, Two, shown_before, HasSetupFault, IsFilePatternFault, IsFilePattern, IsStartFault, setup_of, datagrams_of_version, HasFittingMessages, IsXor}
use Rattle.noise_names.specs.Names.{Section}
use Rattle.noise_keys.specs.declared.faults.SetupFault.{SetupFault}
use Rattle.noise_events.specs.declared.event.Event.{Event as Given}
use Rattle.noise_events.specs.DatagramEvents.{DatagramEvent, datagram_events_of}
use Rattle.noise_events.specs.declared.window.Window.{Window}
use Rattle.noise_vectors.specs.declared.vector.FileDatagrams.{FileDatagrams}
use Rattle.noise_lines.specs.declared.faults.Fault.{Fault}
use Rattle.noise_tool.specs.Performing.{IsRunFault}
use Rattle.noise_transcript.proofs.Names.{no-name-without, no-place-beyond, no-rule-broken}
use Rattle.noise_transcript.proofs.Same.{datagrams-are}
use Rattle.noise_names.specs.Lists.{heads, tails}
use Rattle.noise_run.specs.OnePattern.{pattern-once}
use Rattle.noise_events.specs.declared.event.Event.TheVariants as given
use Rattle.noise_vectors.specs.declared.faults.VectorFault.TheVariants as vector
use Rattle.noise_lines.specs.declared.faults.Fault.TheVariants as fault

-- ---- the file is one that `talk` takes

is-said : (event : Given) (role : Role) (payload : List ℕ) → event_of event ≡ Say role payload → IsAllowed SayOnly event
is-said (given.Say role payload cuts) r bytes e = tt
is-said _ r bytes e = absurd (cc)

only-said : (events : List Given) (lines : List (Role × List ℕ)) → events_of events ≡ say_events lines → All (IsAllowed SayOnly) events
only-said [] lines e = All-nil (IsAllowed SayOnly)
only-said (x ∷ events) [] e = absurd (cc)
only-said (x ∷ events) (l ∷ lines) e =
    All-cons (IsAllowed SayOnly) x events (is-said x l.0 l.1 (heads (event_of x) (Say l.0 l.1) (events_of events) (say_events lines) e))
    (only-said events lines (tails (event_of x) (Say l.0 l.1) (events_of events) (say_events lines) e))

version-said : (version : Version) → datagrams_of_version version ≡ None → IsAllowedVersion SayOnly version
version-said One e = tt
version-said (Two additions) e = e

allowed : (f : VectorFile) (p : Plan) (lines : List (Role × List ℕ)) → HasFittingMessages f p lines → IsAllowedFile SayOnly f
allowed f p lines fits = (only-said f.events.items lines fits.said, version-said f.version fits.alone)

-- ---- both ends can be made

none-some : (why : SetupFault) → ◌≡◌ {A = Option SetupFault} None (Some why) → ⊥
none-some why e = cc

no-setup-fault : (f : VectorFile) (p : Plan) (lines : List (Role × List ℕ)) (role : Role) (why : SetupFault) → HasFittingMessages f p lines
    → HasSetupFault f role why p → ⊥
no-setup-fault f p lines Initiator why fits h = none-some why (sym (fits.set_up Initiator) ∙ h)
no-setup-fault f p lines Responder why fits h = none-some why (sym (fits.set_up Responder) ∙ h.1)

no-pattern-fault : (block : Option Plan) (name : Section) (p : Plan) (why : Fault) → IsFilePattern block name p → IsValid p → IsFilePatternFault block name why → ⊥
no-pattern-fault block name p (fault.Rule x) named valid h =
    no-rule-broken p x valid (subst (λ (q : Plan). IsFirstFault q x) (pattern-once block name h.0 p h.1 named) h.2)
no-pattern-fault None name p (fault.Place x) named valid h = no-place-beyond name p h.0 x.place named h.1 h.2
no-pattern-fault None name p fault.UnknownPattern named valid h = no-name-without name p named h
no-pattern-fault None name p _ named valid h = h
no-pattern-fault (Some block) name p _ named valid h = h

no-start-fault : (f : VectorFile) (p : Plan) (lines : List (Role × List ℕ)) (why : Fault) → HasFittingMessages f p lines → IsStartFault f why
    → why ≡ fault.Memory
no-start-fault f p lines (fault.Setup role x) fits h =
    absurd (no-setup-fault f p lines role x fits
    (subst (λ (q : Plan). HasSetupFault f role x q) (pattern-once f.block f.protocol h.0 p h.1 fits.named) h.3))
no-start-fault f p lines fault.Memory fits h = refl
no-start-fault f p lines why fits h = absurd (no-pattern-fault f.block f.protocol p why fits.named fits.valid h)

-- ---- of each file that says the same

abbrev setup_from : Plan → Role → FileKeys → FileKeys → ℕ → Option SetupFault
setup_from p role own theirs n = setup_fault p role (public_of own) (shown_before p (other role) (public_of theirs)) n

setup-same : (f g : VectorFile) (p : Plan) → SaySame f g → (role : Role) → setup_of f p role ≡ setup_of g p role
setup-same f g p same Initiator =
    ap₂ (λ (own theirs : FileKeys). setup_from p Initiator own theirs (length f.psks.items)) same.initiator same.responder
    ∙ ap (λ (psks : List (List ℕ)). setup_from p Initiator g.initiator g.responder (length psks)) same.psks
setup-same f g p same Responder =
    ap₂ (λ (own theirs : FileKeys). setup_from p Responder own theirs (length f.psks.items)) same.responder same.initiator
    ∙ ap (λ (psks : List (List ℕ)). setup_from p Responder g.responder g.initiator (length psks)) same.psks

none-also : (o u : Option FileDatagrams) → held_datagrams o ≡ held_datagrams u → o ≡ None → u ≡ None
none-also o None e none = refl
none-also o (Some x) e none =
    let bad : ◌≡◌ {A = Option (Window × List DatagramEvent)} None (Some (x.window, datagram_events_of x.events.items)) =
    sym (ap held_datagrams none) ∙ e in
    absurd (cc bad)

fits-too : (f g : VectorFile) (p : Plan) (lines : List (Role × List ℕ)) → SaySame f g → IsVectorFile g → HasFittingMessages f p lines
    → HasFittingMessages g p lines
fits-too f g p lines same right fits = record {
  right = right;
  initiator = subst IsXor same.initiator fits.initiator;
  responder = subst IsXor same.responder fits.responder;
  named =
      subst (λ (z : Option Plan). IsFilePattern z g.protocol p) same.block
      (subst (λ (z : Section). IsFilePattern f.block z p) same.protocol fits.named);
  pattern = fits.pattern;
  valid = fits.valid;
  set_up = λ role. sym (setup-same f g p same role) ∙ fits.set_up role;
  said = sym same.events ∙ fits.said;
  alone = none-also (datagrams_of_version f.version) (datagrams_of_version g.version)
      (sym (datagrams-are f.version) ∙ same.datagrams ∙ datagrams-are g.version) fits.alone;
  fit = fits.fit;
}

-- ---- why there is no run

-- memory, or a text that is too long
abbrev pub IsLeft : VectorFile → Fault → Type 0
IsLeft f why = (why ≡ fault.Memory) ⊎ ((why ≡ fault.TooLong) × (4194304 < length (file_text f)))

pub left-why : VectorTextsAreUnique → (f : VectorFile) (p : Plan) (lines : List (Role × List ℕ)) (why : Fault)
    → HasFittingMessages f p lines → IsRunFault SayOnly (file_text f) why → IsLeft f why
left-why unique f p lines why fits (inl long) = inr long
left-why unique f p lines why fits (inr (inl (vector.Memory, e, h, reported))) = inl e
left-why unique f p lines why fits (inr (inl (vector.Line n k, e, h, reported))) = absurd (h f fits.right (allowed f p lines fits) refl)
left-why unique f p lines why fits (inr (inr (g, right, same, start))) =
    inl (no-start-fault g p lines why (fits-too f g p lines (unique f g fits.right right same) right fits) start)
