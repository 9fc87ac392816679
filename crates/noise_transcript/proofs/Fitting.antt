-- What the calls of a test say of a file, in one: its lines fit.
use Rattle.std.proofs.Common.{◌≡◌, ◌∙◌, refl, ap, ap₂, sym, subst, ℕ, Vec, List, [], ◌∷◌, length, map, Option, Some, None}
use Rattle.std.specs.Global.{Global}
use Rattle.std.specs.Prelude.{true}
use Rattle.noise_names.specs.declared.token.Role.{Role}
use Rattle.noise_names.specs.declared.token.Role.TheVariants.{Initiator, Responder}
use Rattle.noise_names.specs.Plan.{Plan}
use Rattle.noise_names.specs.Tokens.{other}
use Rattle.noise_names.specs.Validity.{IsValid}
use Rattle.noise_handshake.specs.Setup.{setup_fault}
use Rattle.noise_events.specs.Events.{Event, Say, events_of}
use Rattle.noise_duel.specs.Conversation.{say_events}
use Rattle.noise_vectors.specs.FileKeys.{public_of}
use Rattle.noise_vectors.specs.VectorFile.{IsAllowedFile, IsAllowedVersion, IsVectorFile, say_of}
use Rattle.noise_vectors.specs.declared.file_keys.FileKeys.{FileKeys}
use Rattle.noise_vectors.specs.declared.vector.AllowedEvents.TheVariants.{SayOnly}
use Rattle.noise_vectors.specs.declared.vector.VectorFile.{VectorFile}
use Rattle.noise_vectors.specs.declared.vector.Version.{Version}
use Rattle.noise_vectors.specs.declared.vector.Version.TheVariants.{One, Two}
use Rattle.noise_handshake.specs.Counterparts.{shown_before}
use Rattle.noise_run.specs.Ends.{IsFilePattern, setup_of}
use Rattle.noise_run.specs.Running.{datagrams_of_version}
use Rattle.noise_transcript.specs.Fitting.{HasFittingMessages, IsXor}
use Rattle.noise_names.specs.Limits.{IsPattern}
use Rattle.noise_keys.specs.declared.faults.SetupFault.{SetupFault}
use Rattle.noise_keys.specs.declared.xor_keys.XorKeys.{XorKeys}
use Rattle.noise_keys.specs.Keys.{key_of, xor_dh_result}
use Rattle.noise_duel.specs.Acts.{roles_and_payloads}
use Rattle.noise_theorems.specs.FittingMessages.{messages_fit_from}
use Rattle.noise_theorems.specs.Setup.{BothStarts, fault_of, or_next, starts}
use Rattle.noise_vectors.specs.declared.file_keys.FileKeys.TheVariants.{Xor}

said-lines : (lines : List (Role × Vec ℕ Global × List ℕ)) → events_of (map say_of lines) ≡ say_events (roles_and_payloads lines)
said-lines [] = refl
said-lines (l ∷ lines) = ap (λ (es : List Event). Say l.0 l.1.items ∷ es) (said-lines lines)

none-also : (version : Version) → IsAllowedVersion SayOnly version → datagrams_of_version version ≡ None
none-also One h = refl
none-also (Two additions) h = h

neither : (o u : Option SetupFault) → or_next o u ≡ None → (o ≡ None) × (u ≡ None)
neither None u e = (refl, e)
neither (Some why) u e = absurd (cc e)

-- what both parties of two values of these keys start from
abbrev pub xor_starts : Plan → List ℕ → List (List ℕ) → XorKeys → XorKeys → BothStarts
xor_starts p prologue psks a b =
    starts
    (λ keys. record {
      public = λ own. key_of own keys.e keys.s;
      agree = λ own remote. xor_dh_result (key_of own keys.e keys.s) remote;
    })
    p prologue psks a b

abbrev setup_from : Plan → Role → FileKeys → FileKeys → ℕ → Option SetupFault
setup_from p role own theirs n = setup_fault p role (public_of own) (shown_before p (other role) (public_of theirs)) n

by-role : (P : Role → Type 0) → P Initiator → P Responder → (role : Role) → P role
by-role P i r Initiator = i
by-role P i r Responder = r

pub fit-file : (file : VectorFile) (p : Plan) (a b : XorKeys) (lines : List (Role × Vec ℕ Global × List ℕ)) → IsVectorFile file
    → IsAllowedFile SayOnly file → file.initiator ≡ Xor a → file.responder ≡ Xor b → IsFilePattern file.block file.protocol p → IsPattern p → IsValid p
    → file.events.items ≡ map say_of lines → messages_fit_from p 0 (roles_and_payloads lines) ≡ true
    → fault_of p (xor_starts p file.prologue.items file.psks.items a b) ≡ None → HasFittingMessages file p (roles_and_payloads lines)
fit-file file p a b lines right allowed first second named pattern valid said fit none =
    let n : ℕ = length file.psks.items in
    let both = neither (setup_from p Initiator (Xor a) (Xor b) n) (setup_from p Responder (Xor b) (Xor a) n) none in
    let initiator : setup_of file p Initiator ≡ None = ap₂ (λ (own theirs : FileKeys). setup_from p Initiator own theirs n) first second ∙ both.0 in
    let responder : setup_of file p Responder ≡ None = ap₂ (λ (own theirs : FileKeys). setup_from p Responder own theirs n) second first ∙ both.1 in
    record {
      right = right;
      initiator = subst IsXor (sym first) tt;
      responder = subst IsXor (sym second) tt;
      named = named;
      pattern = pattern;
      valid = valid;
      set_up = by-role (λ role. setup_of file p role ≡ None) initiator responder;
      said = ap events_of said ∙ said-lines lines;
      alone = none-also file.version allowed.1;
      fit = fit;
    }
