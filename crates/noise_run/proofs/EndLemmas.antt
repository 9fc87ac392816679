-- What two ends of a file start from, and what is reported where a setup is wrong.
use Rattle.std.proofs.Common.{rules, ◌≡◌, ◌∙◌, ◌++◌, ap, sym, refl, ℕ, List, length, Option, Some, None}
use Rattle.std.specs.Option.{option_map}
use Rattle.noise_run.proofs.Common.{Role, Initiator, Responder, Plan, IsValid, party_at_start, setup_fault, EndState, EndValue, IsReportedBy, progress, role_of, Fault, Setup, FileKeys, VectorFile, public_of, agreement_of, SaySame, shown_before, IsFilePattern, IsStartFault, setup_of, heading_lines, start_lines_of, start_traces, Selection}
use Rattle.noise_handshake.specs.declared.remote.Remote.{Remote}
use Rattle.noise_keys.specs.declared.faults.SetupFault.{SetupFault}

-- the same start in other words
pub begun-same : (role : Role) (keys : FileKeys) (plan other : Plan) (prologue text : List ℕ) (remote known : Remote) (psks same_psks : List (List ℕ))
    → plan ≡ other → prologue ≡ text → remote ≡ known → psks ≡ same_psks
    → party_at_start plan role prologue (public_of keys) (agreement_of keys) remote psks ≡ party_at_start other role text (public_of keys) (agreement_of keys) known same_psks
begun-same role keys plan other prologue text remote known psks same_psks a b c d = rw (a, b, c, d) refl

pub setup-same : (role : Role) (keys : FileKeys) (plan other : Plan) (remote known : Remote) (psks same_psks : List (List ℕ))
    → plan ≡ other → remote ≡ known → psks ≡ same_psks
    → setup_fault plan role (public_of keys) remote (length psks) ≡ setup_fault other role (public_of keys) known (length same_psks)
setup-same role keys plan other remote known psks same_psks a c d = rw (a, c, d) refl

-- no fault is reported where nothing is wrong
pub none-reported : (role : Role) (found : Option SetupFault) → None ≡ option_map (λ (why : SetupFault). Setup role why) found → found ≡ None
none-reported role None e = refl
none-reported role (Some why) e = absurd (cc)

-- the initiator's fault
pub reported-first : (file : VectorFile) (plan : Plan) (fault : Fault) (found : Option SetupFault) → IsFilePattern file.block file.protocol plan → IsValid plan
    → found ≡ setup_of file plan Initiator → Some fault ≡ option_map (λ (why : SetupFault). Setup Initiator why) found → IsStartFault file fault
reported-first file plan fault None named valid e f = absurd (cc)
reported-first file plan fault (Some why) named valid e f = search rules

-- the responder's, where nothing is wrong with the initiator's setup
pub reported-second : (file : VectorFile) (plan : Plan) (fault : Fault) (found : Option SetupFault) → IsFilePattern file.block file.protocol plan → IsValid plan
    → setup_of file plan Initiator ≡ None → found ≡ setup_of file plan Responder
    → Some fault ≡ option_map (λ (why : SetupFault). Setup Responder why) found → IsStartFault file fault
reported-second file plan fault None named valid none e f = absurd (cc)
reported-second file plan fault (Some why) named valid none e f = search rules

-- where nothing is wrong with either setup
pub both-set-up : (file : VectorFile) (plan : Plan) → setup_of file plan Initiator ≡ None → setup_of file plan Responder ≡ None
    → (role : Role) → setup_of file plan role ≡ None
both-set-up file plan first second Initiator = first
both-set-up file plan first second Responder = second

-- ---- files that say the same start from the same

pub same-setup : (f g : VectorFile) (plan : Plan) (role : Role) → SaySame f g → setup_of g plan role ≡ setup_of f plan role
same-setup f g plan Initiator s = rw (s.initiator, s.responder, s.psks) refl
same-setup f g plan Responder s = rw (s.initiator, s.responder, s.psks) refl

pub same-start : (selection : Selection) (f g : VectorFile) (plan : Plan) → SaySame f g → start_traces selection g plan ≡ start_traces selection f plan
same-start selection f g plan s =
    ap (λ (t : List ℕ). lines t g.initiator g.responder) (sym s.prologue) ∙ ap (λ (k : FileKeys). lines f.prologue.items k g.responder) (sym s.initiator)
    ∙ ap (λ (k : FileKeys). lines f.prologue.items f.initiator k) (sym s.responder) where
      lines : List ℕ → FileKeys → FileKeys → List (List ℕ)
      lines text first second =
          heading_lines selection ++ start_lines_of selection Initiator plan text first (shown_before plan Responder (public_of second))
          ++ start_lines_of selection Responder plan text second (shown_before plan Initiator (public_of first))

-- ---- the role of an end

-- an end that reports what a state says is of its party's role
pub role-reported : (e : EndValue FileKeys) (v : EndState) → IsReportedBy v e → role_of (progress e) ≡ v.party.role
role-reported e v reported = search rules
