-- Which lines of a key schedule are printed.
use Rattle.std.specs.Prelude.{ℕ, Bool, true, false, ◌&&◌, List, [], ◌∷◌, Option, Some, codes}
use Rattle.noise_names.specs.declared.token.Role.{Role}
use Rattle.noise_names.specs.declared.token.Role.TheVariants.{Initiator, Responder}
use Rattle.noise_words.specs.declared.orders.Traced.{Traced}
use Rattle.noise_words.specs.declared.orders.TracedPart.{TracedPart}
use Rattle.noise_words.specs.declared.orders.TracedPart.TheVariants.{Handshake, Transport}
use Rattle.noise_words.specs.declared.orders.TracedRole.{TracedRole}
use Rattle.noise_words.specs.declared.orders.TracedRole.TheVariants.{Initiator as OfInitiator, Responder as OfResponder}
use Rattle.noise_run.specs.declared.key_use_lines.Selection.{Selection}

-- all lines, of both parts and both roles, and no heading
abbrev pub all_lines : Selection
all_lines = record { heading = false; handshake = true; transport = true; initiator = true; responder = true }

abbrev pub selects_role : Selection → Role → Bool
selects_role selection Initiator = selection.initiator
selects_role selection Responder = selection.responder

-- the lines of this role's start and handshake messages, and those of its transport and datagrams
abbrev pub selects_handshake : Selection → Role → Bool
selects_handshake selection role = selection.handshake && selects_role selection role

abbrev pub selects_transport : Selection → Role → Bool
selects_transport selection role = selection.transport && selects_role selection role

-- lines that are printed only then
abbrev pub if_selected : Bool → List (List ℕ) → List (List ℕ)
if_selected true lines = lines
if_selected false lines = []

-- the first line, where it is wanted: it names the twelve words of the others
abbrev pub heading_lines : Selection → List (List ℕ)
heading_lines selection = if_selected selection.heading
    (codes "trace ROLE PART NUMBER NAME CALL FROM BYTES HASH CHAINING-KEY KEY NONCE" ∷ [])

-- ---- what a command asks for

-- the lines of both parts, but where one alone is wanted; and of both roles; the heading where it is wanted
abbrev pub wants_handshake : Option TracedPart → Bool
wants_handshake (Some Transport) = false
wants_handshake _ = true

abbrev pub wants_transport : Option TracedPart → Bool
wants_transport (Some Handshake) = false
wants_transport _ = true

abbrev pub wants_initiator : Option TracedRole → Bool
wants_initiator (Some OfResponder) = false
wants_initiator _ = true

abbrev pub wants_responder : Option TracedRole → Bool
wants_responder (Some OfInitiator) = false
wants_responder _ = true

abbrev pub selection_of : Traced → Selection
selection_of t = record {
  heading = t.heading;
  handshake = wants_handshake t.only;
  transport = wants_transport t.only;
  initiator = wants_initiator t.role;
  responder = wants_responder t.role;
}
