-- The states that the histories of a party's steps lead to are the states after those steps.
use Rattle.std.specs.Prelude.{◌≡◌, ℕ, List, [], ◌∷◌, Bool, true, false, unwrap_or, refl}
use Rattle.std.proofs.Common.{ap, ◌∙◌}
use Rattle.noise_names.specs.declared.token.Token.{Token}
use Rattle.noise_names.specs.declared.token.Token.TheVariants.{E, S}
use Rattle.noise_names.specs.declared.token.Role.TheVariants.{Initiator, Responder}
use Rattle.noise_names.specs.Plan.{Plan, pre_of, has_psk}
use Rattle.noise_state.specs.declared.symmetric.SymmetricState.{SymmetricState}
use Rattle.noise_state.specs.History.{History, MixHash, and_then, state_of_history}
use Rattle.noise_state.specs.Symmetric.{after_ciphertext, ciphertext}
use Rattle.noise_handshake.specs.declared.remote.Remote.{Remote}
use Rattle.noise_handshake.specs.Message.{with_ephemeral, after_token, after_tokens, after_payload}
use Rattle.noise_handshake.specs.Party.{with_premessage, start}
use Rattle.noise_duel.specs.Histories.{history_with_ephemeral, history_after_token, history_after_tokens, history_after_payload, history_with_premessage, history_at_start}

ephemeral-state : (psks : Bool) (r : History) (x : List ℕ)
    → state_of_history (history_with_ephemeral psks r x) ≡ with_ephemeral psks (state_of_history r) x
ephemeral-state true r x = refl
ephemeral-state false r x = refl

pub token-state : (psks : Bool) (r : History) (t : Token) (x : List ℕ)
    → state_of_history (history_after_token psks r t x) ≡ after_token psks (state_of_history r) t x
token-state psks r E x = ephemeral-state psks r x
token-state psks r _ x = refl

pub front-state : (psks : Bool) (r : History) (ts : List Token) (xs : List (List ℕ))
    → state_of_history (history_after_tokens psks r ts xs) ≡ after_tokens psks (state_of_history r) ts xs
front-state psks r [] xs = refl
front-state psks r (t ∷ ts) [] = refl
front-state psks r (t ∷ ts) (x ∷ xs) =
    front-state psks (history_after_token psks r t x) ts xs
    ∙ ap (λ (s : SymmetricState). after_tokens psks s ts xs) (token-state psks r t x)

pub line-state : (psks : Bool) (r : History) (ts : List Token) (xs : List (List ℕ)) (payload : List ℕ)
    → state_of_history (history_after_payload psks r ts xs payload) ≡ after_payload psks (state_of_history r) ts xs
    payload
line-state psks r ts xs payload =
    ap (λ (s : SymmetricState). after_ciphertext s (ciphertext s payload)) (front-state psks r ts xs)

pre-state : (psks : Bool) (k : Remote) (ts : List Token) (r : History)
    → state_of_history (history_with_premessage psks k ts r) ≡ with_premessage psks k ts (state_of_history r)
pre-state psks k [] r = refl
pre-state psks k (E ∷ ts) r =
    pre-state psks k ts (history_with_ephemeral psks r (unwrap_or k.e []))
    ∙ ap (with_premessage psks k ts) (ephemeral-state psks r (unwrap_or k.e []))
pre-state psks k (S ∷ ts) r = pre-state psks k ts (and_then r (MixHash (unwrap_or k.s [])))
pre-state psks k (_ ∷ ts) r = pre-state psks k ts r

pub start-state : (name : List ℕ) (p : Plan) (prologue : List ℕ) (i j : Remote)
    → state_of_history (history_at_start name p prologue i j) ≡ start name p prologue i j
start-state name p prologue i j =
    let r : History = and_then (record { name = name; entries = [] }) (MixHash prologue) in
    pre-state (has_psk p) j (pre_of Responder p) (history_with_premessage (has_psk p) i (pre_of Initiator p) r)
    ∙ ap (with_premessage (has_psk p) j (pre_of Responder p)) (pre-state (has_psk p) i (pre_of Initiator p) r)
