-- The history that follows from a party's start and its messages (Noise 5.3): the steps of its key schedule, which lead
-- to its state.
use Rattle.std.specs.Prelude.{◌≡◌, ℕ, ◌+◌, List, [], ◌∷◌, Bool, if◌then◌else◌, unwrap_or}
use Rattle.noise_names.specs.declared.token.Role.{Role}
use Rattle.noise_names.specs.declared.token.Role.TheVariants.{Initiator, Responder}
use Rattle.noise_names.specs.declared.token.Token.{Token}
use Rattle.noise_names.specs.declared.token.Token.TheVariants.{E, S, Psk}
use Rattle.noise_names.specs.Names.{name_bytes}
use Rattle.noise_names.specs.Plan.{Plan, pre_of, has_psk}
use Rattle.noise_state.specs.History.{History, MixHash, Ciphertext, MixKey, MixKeyAndHash, and_then, state_of_history}
use Rattle.noise_state.specs.Symmetric.{ciphertext}
use Rattle.noise_handshake.specs.declared.remote.Remote.{Remote}
use Rattle.noise_handshake.specs.Party.{Party, tokens_at}
use Rattle.noise_handshake.specs.Setup.{keys_of, public_keys}
use Rattle.noise_duel.specs.HashedTexts.{ClashAt}
use Rattle.noise_duel.specs.Messages.{HandshakeMessage, Exchanged, Start, begun_as}

-- after a public key in the clear
abbrev pub history_with_ephemeral : Bool → History → List ℕ → History
history_with_ephemeral has_psks r key =
    if has_psks then and_then (and_then r (MixHash key)) (MixKey key) else and_then r (MixHash key)

-- after a token that carries this text
abbrev pub history_after_token : Bool → History → Token → List ℕ → History
history_after_token has_psks r E x = history_with_ephemeral has_psks r x
history_after_token has_psks r S x = and_then r (Ciphertext (ciphertext (state_of_history r) x))
history_after_token has_psks r Psk x = and_then r (MixKeyAndHash x)
history_after_token has_psks r _ x = and_then r (MixKey x)

abbrev pub history_after_tokens : Bool → History → List Token → List (List ℕ) → History
history_after_tokens has_psks r [] xs = r
history_after_tokens has_psks r (t ∷ ts) [] = r
history_after_tokens has_psks r (t ∷ ts) (x ∷ xs) =
    history_after_tokens has_psks (history_after_token has_psks r t x) ts xs

-- after a message whose tokens carry these texts
abbrev pub history_after_payload : Bool → History → List Token → List (List ℕ) → List ℕ → History
history_after_payload has_psks r ts xs payload =
    let before : History = history_after_tokens has_psks r ts xs in
    and_then before (Ciphertext (ciphertext (state_of_history before) payload))

abbrev pub history_with_premessage : Bool → Remote → List Token → History → History
history_with_premessage has_psks p [] r = r
history_with_premessage has_psks p (E ∷ ts) r =
    history_with_premessage has_psks p ts (history_with_ephemeral has_psks r (unwrap_or p.e []))
history_with_premessage has_psks p (S ∷ ts) r =
    history_with_premessage has_psks p ts (and_then r (MixHash (unwrap_or p.s [])))
history_with_premessage has_psks p (_ ∷ ts) r = history_with_premessage has_psks p ts r

-- the name, the prologue, and the pre-message keys, the initiator's first
abbrev pub history_at_start : List ℕ → Plan → List ℕ → Remote → Remote → History
history_at_start name p prologue initiator responder =
    history_with_premessage (has_psk p) responder (pre_of Responder p) (history_with_premessage (has_psk p) initiator
    (pre_of Initiator p)
    (and_then (record { name = name; entries = [] }) (MixHash prologue)))

-- after these messages, from number n on, counted from 0
abbrev pub history_after : Plan → ℕ → History → List HandshakeMessage → History
history_after p n r [] = r
history_after p n r (m ∷ ms) =
    history_after p (n + 1) (history_after_payload (has_psk p) r (tokens_at p.messages n) m.carried m.payload) ms

-- the history of a party of this role that began so and exchanged these messages
abbrev pub history_of : Plan → Role → Start → List HandshakeMessage → History
history_of p role s ms =
    history_after p 0 (history_at_start (name_bytes (record { base = p.base; places = p.places })) p s.prologue
    (keys_of Initiator role (public_keys s.own) s.remote) (keys_of Responder role (public_keys s.own) s.remote)) ms

-- The state of a party that wrote and accepted these messages is the one to which this history leads.
abbrev pub ExchangedHasHistory : Type 0
ExchangedHasHistory = (p : Plan) (role : Role) (s : Start) (ms : List HandshakeMessage) (v : Party)
    → Exchanged (begun_as p role s) ms v → v.state ≡ state_of_history (history_of p role s ms)

-- At some position two texts clash that the parties hashed: an initiator and a responder that began so, each with the
-- messages that it exchanged.
abbrev pub PartiesClash : Plan → Start → Start → List HandshakeMessage → List HandshakeMessage → Type 0
PartiesClash p a b ps qs = (i : ℕ) × ClashAt (history_of p Initiator a ps) (history_of p Responder b qs) i
