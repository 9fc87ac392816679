-- Two parties that have finished have one history, or a message was forged or a text opens twice.
use Rattle.std.proofs.Common.{◌≡◌, ◌⊎◌, inl, inr, ℕ, ◌≤◌, List, [], ◌∷◌, ◌++◌, length, Option, Some, None, true, refl, sym, subst, ◌∙◌, ap, arith}
use Rattle.std.specs.Prelude.{is_some}
use Rattle.sha2.specs.Sha256.{sha256}
use Rattle.noise_names.specs.declared.token.Role.TheVariants.{Initiator, Responder}
use Rattle.noise_names.specs.Lists.{same-or, split-apart}
use Rattle.noise_names.specs.Names.{name_bytes}
use Rattle.noise_names.specs.Plan.{Plan}
use Rattle.noise_state.specs.declared.symmetric.SymmetricState.{SymmetricState}
use Rattle.noise_state.specs.History.{History, Ciphertext, and_then, state_of_history}
use Rattle.noise_state.specs.Symmetric.{ciphertext}
use Rattle.noise_state.specs.Cipher.{ciphertext_under}
use Rattle.noise_handshake.specs.Party.{Party}
use Rattle.noise_handshake.specs.Setup.{public_keys}
use Rattle.noise_duel.specs.Agreement.{KeysReport}
use Rattle.noise_duel.specs.Histories.{ExchangedHasHistory, history_after, history_at_start, history_of}
use Rattle.noise_duel.specs.HistoryStates.{start-state}
use Rattle.noise_duel.specs.Messages.{HandshakeMessage, Start, begun_as}
use Rattle.noise_channel.specs.Finished.{FinishedIsOne, ForgedOrTwice, HaveFinished, LastSealed}
use Rattle.noise_channel.proofs.Lasting.{AcceptedCarries, AreSpelled, KeyedAlike, LastTwo, WrittenCarries, has-spelled, keyed-same, last-two, start-alike}

some-of : (o : Option (List ℕ)) → is_some o ≡ true → (k : List ℕ) × (o ≡ Some k)
some-of (Some k) e = (k, refl)
some-of None e = cc

last-sealed : (r before : History) (text payload : List ℕ) → text ≡ ciphertext (state_of_history before) payload
    → r ≡ and_then before (Ciphertext text) → is_some (state_of_history before).cipher.key ≡ true → LastSealed r text
last-sealed r before text payload e last keyed =
    let s : SymmetricState = state_of_history before in
    let k = some-of s.cipher.key keyed in
    record {
      before = before;
      last = last;
      key = k.0;
      key_is = k.1;
      payload = payload;
      sealed_is = e ∙ ap (λ (o : Option (List ℕ)). ciphertext_under o s.cipher.nonce s.hash payload) k.1;
    }

last-of : (p : Plan) (n : ℕ) (r s : History) (ps qs : List HandshakeMessage) → length ps ≡ length qs → 1 ≤ length ps
    → AreSpelled p n (state_of_history r) ps → AreSpelled p n (state_of_history s) qs → KeyedAlike (state_of_history r) (state_of_history s)
    → LastTwo ps qs (history_after p n r ps) (history_after p n s qs)
last-of p n r s (m ∷ ms) (q ∷ qs) e some f g h = last-two p n r s m q ms qs (omega (arith, e)) f g h
last-of p n r s [] qs e some f g h = absurd (omega (arith, some))
last-of p n r s (m ∷ ms) [] e some f g h = absurd (omega (arith, e))

-- the parties' last messages are the same bytes
module _ (report : KeysReport) (p : Plan) (a b : Start) (ps qs : List HandshakeMessage) (v w : Party) (h : HaveFinished p a b ps qs v w)
    (there : v.state ≡ state_of_history (history_of p Initiator a ps)) (back : w.state ≡ state_of_history (history_of p Responder b qs))
    (l : LastTwo ps qs (history_of p Initiator a ps) (history_of p Responder b qs)) (same : l.left.message ≡ l.right.message) where
  abbrev first : SymmetricState
  first = state_of_history l.left_before

  abbrev second : SymmetricState
  second = state_of_history l.right_before

  one-text : ciphertext first l.left.payload ≡ ciphertext second l.right.payload
  one-text =
      let parts = split-apart l.left_front l.right_front (ciphertext first l.left.payload) (ciphertext second l.right.payload) l.long
      (sym l.left_is ∙ same ∙ l.right_is) in parts.1

  left-keyed : is_some first.cipher.key ≡ true
  left-keyed = sym (ap (λ (r : SymmetricState). is_some r.cipher.key) (there ∙ ap state_of_history l.left_after)) ∙ h.keyed

  one-hash : first.hash ≡ second.hash → v.state.hash ≡ w.state.hash
  one-hash e =
      ap (λ (s : SymmetricState). s.hash) (there ∙ ap state_of_history l.left_after)
      ∙ ap (λ (x : List ℕ). sha256 (x ++ ciphertext first l.left.payload)) e
      ∙ ap (λ (c : List ℕ). sha256 (second.hash ++ c)) one-text
      ∙ sym (ap (λ (s : SymmetricState). s.hash) (back ∙ ap state_of_history l.right_after))

  pub same-message : ((ps ≡ qs) × (history_of p Initiator a ps ≡ history_of p Responder b qs)) ⊎ ForgedOrTwice p a b ps qs
  unfolding last-sealed
  same-message = elim (same-or first.hash second.hash) [
    | inl e ↦
        elim (report p a b ps qs v w h.initiator h.responder h.wrote_and_took h.took_and_wrote (h.passed ∙ sym h.passed_too) (one-hash e) h.psks h.keys) [
          | inl one ↦ inl one
          | inr clash_there ↦ inr (inr (inr clash_there))
        ]
    | inr differ ↦
        let text : List ℕ = ciphertext first l.left.payload in
        inr (inr (inl (record {
          text = text;
          left = last-sealed (history_of p Initiator a ps) l.left_before text l.left.payload refl l.left_after left-keyed;
          right = last-sealed (history_of p Responder b qs) l.right_before text l.right.payload one-text
              (l.right_after ∙ ap (λ (c : List ℕ). and_then l.right_before (Ciphertext c)) (sym one-text)) (sym l.keyed ∙ left-keyed);
          differ = differ;
        })))
  ]

pub finished-is-one : WrittenCarries → AcceptedCarries → ExchangedHasHistory → KeysReport → FinishedIsOne
finished-is-one written accepted follows report p a b ps qs v w h =
    let left = has-spelled written accepted (begun_as p Initiator a) v ps h.wrote_and_took in
    let right = has-spelled written accepted (begun_as p Responder b) w qs h.took_and_wrote in
    let many : length ps ≡ length p.messages = omega (arith, left.count, h.passed) in
    let too : length qs ≡ length p.messages = omega (arith, right.count, h.passed_too) in
    let r0 : SymmetricState = (begun_as p Initiator a).state in
    let s0 : SymmetricState = (begun_as p Responder b).state in
    let name : List ℕ = name_bytes (record { base = p.base; places = p.places }) in
    let one : History = history_at_start name p a.prologue (public_keys a.own) a.remote in
    let two : History = history_at_start name p b.prologue b.remote (public_keys b.own) in
    let there : state_of_history one ≡ r0 = start-state name p a.prologue (public_keys a.own) a.remote in
    let back : state_of_history two ≡ s0 = start-state name p b.prologue b.remote (public_keys b.own) in
    let alike : KeyedAlike (state_of_history one) (state_of_history two) =
    keyed-same (state_of_history one) (state_of_history two) r0 s0 there back
    (start-alike name a.prologue b.prologue p (public_keys a.own) a.remote b.remote (public_keys b.own)) in
    go (follows p Initiator a ps v h.wrote_and_took) (follows p Responder b qs w h.took_and_wrote)
    (last-of p 0 one two ps qs (many ∙ sym too) (omega (arith, many, h.some))
    (subst (λ (z : SymmetricState). AreSpelled p 0 z ps) (sym there) left.spelled)
    (subst (λ (z : SymmetricState). AreSpelled p 0 z qs) (sym back) right.spelled) alike) many
  where
    go : v.state ≡ state_of_history (history_of p Initiator a ps) → w.state ≡ state_of_history (history_of p Responder b qs)
        → LastTwo ps qs (history_of p Initiator a ps) (history_of p Responder b qs) → length ps ≡ length p.messages
        → ((ps ≡ qs) × (history_of p Initiator a ps ≡ history_of p Responder b qs)) ⊎ ForgedOrTwice p a b ps qs
    go there back l many = elim (same-or l.left.message l.right.message) [
      | inl same ↦ same-message report p a b ps qs v w h there back l same
      | inr differ ↦
          inr (inl (
            l.place,
            l.end ∙ many,
            record {
              left = l.left.message;
              right = l.right.message;
              at_left = l.at_left;
              at_right = l.at_right;
              differ = differ;
            },
          ))
    ]
