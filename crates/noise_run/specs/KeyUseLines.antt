-- The lines of what is shown of one message.
use Rattle.std.specs.Prelude.{⊤, ◌≢◌, ℕ, ◌+◌, List, [], ◌∷◌, ◌++◌, codes, Option, Some, None}
use Rattle.noise_names.specs.declared.token.Role.{Role}
use Rattle.noise_session.specs.Transport.{last_nonce}
use Rattle.noise_trace.specs.KeyUses.{KeyUseValue}
use Rattle.noise_trace.specs.KeyUses.KeyUseValue.{Nothing, Message, Transport}
use Rattle.noise_trace.specs.declared.opening.Opening.{Opening}
use Rattle.noise_run.specs.Selection.{selects_handshake, selects_transport, if_selected}
use Rattle.noise_run.specs.PrintedTrace.{act_word, opening_lines, step_lines_from, transport_call_word, transport_line}
use Rattle.noise_run.specs.declared.key_use_lines.Selection.{Selection}
use Rattle.noise_run.specs.declared.trace_lines.About.{About}

-- the transport keys, where a message is the handshake's last
abbrev pub selected_opening : Selection → Role → Option Opening → List (List ℕ)
selected_opening selection role None = []
selected_opening selection role (Some o) =
    if_selected (selects_transport selection role) (opening_lines role o.state o.initiator o.responder)

-- the new key with the next nonce, where a key is rekeyed after a message
abbrev pub rekeyed_lines : Role → ℕ → Option (List ℕ) → List (List ℕ)
rekeyed_lines role nonce None = []
rekeyed_lines role nonce (Some key) = transport_line role (codes "renewed") (codes "Rekey") key (nonce + 1) ∷ []

-- a transport message: the nonce and the key that it passes with, and then the new key
abbrev pub transport_lines : Selection → About → ℕ → List ℕ → Option (List ℕ) → List (List ℕ)
transport_lines selection about nonce key renewed = if_selected (selects_transport selection about.role)
    (transport_line about.role (act_word about.act) (transport_call_word about.act) key nonce
    ∷ rekeyed_lines about.role nonce renewed)

abbrev pub key_use_lines : Selection → About → List ℕ → KeyUseValue → List (List ℕ)
key_use_lines selection about message Nothing = []
key_use_lines selection about message (Message steps opening) =
    if_selected (selects_handshake selection about.role) (step_lines_from about message 0 steps)
    ++ selected_opening selection about.role opening
key_use_lines selection about message (Transport nonce key renewed) = transport_lines selection about nonce key renewed

-- A key is renewed only after a message whose nonce isn't the last one: it is shown with the next nonce.
abbrev pub RenewsBeforeLastNonce : KeyUseValue → Type 0
RenewsBeforeLastNonce (Transport nonce key (Some next)) = nonce ≢ last_nonce
RenewsBeforeLastNonce _ = ⊤
