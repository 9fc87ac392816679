-- The last messages of two parties: whether they are one, and what they were sealed under.
use Rattle.std.proofs.Common.{◌≡◌, ℕ, suc, ◌+◌, List, [], ◌∷◌, ◌++◌, length, slice_get, Some, Bool, true, false, refl, sym, subst, ◌∙◌, ap, arith, length-append}
use Rattle.std.specs.Prelude.{is_some}
use Rattle.noise_names.specs.declared.token.Role.TheVariants.{Initiator, Responder}
use Rattle.noise_names.specs.declared.token.Token.{Token}
use Rattle.noise_names.specs.declared.token.Token.TheVariants.{E, S, Ee, Es, Se, Ss, Psk}
use Rattle.noise_names.specs.Plan.{Plan, has_psk, pre_of}
use Rattle.noise_state.specs.Ciphertexts.{length-ciphertext}
use Rattle.noise_state.specs.Cipher.{sealed_len}
use Rattle.noise_state.specs.declared.symmetric.SymmetricState.{SymmetricState}
use Rattle.noise_state.specs.History.{History, Ciphertext, and_then, state_of_history}
use Rattle.noise_state.specs.Symmetric.{initialize, mix_hash, after_ciphertext, ciphertext}
use Rattle.noise_handshake.specs.declared.remote.Remote.{Remote}
use Rattle.noise_handshake.specs.Length.{Carry}
use Rattle.noise_handshake.specs.Message.{with_ephemeral, after_token, after_tokens, before_payload, message_bytes, after_payload}
use Rattle.noise_handshake.specs.Party.{Party, Accepts, tokens_at, tokens_now, start, with_premessage}
use Rattle.noise_handshake.specs.Writing.{Writes}
use Rattle.noise_handshake.specs.Matching.{after_message, after_own}
use Rattle.noise_duel.specs.Histories.{history_after, history_after_payload, history_after_tokens}
use Rattle.noise_duel.specs.HistoryStates.{front-state, line-state}
use Rattle.noise_duel.specs.Messages.{HandshakeMessage, Exchanged, messages_of}
use Rattle.noise_duel.specs.Messages.Exchanged.{none, wrote, took}

-- ---- where there is a key

-- one state has a key where the other has
abbrev pub KeyedAlike : SymmetricState → SymmetricState → Type 0
KeyedAlike r s = is_some r.cipher.key ≡ is_some s.cipher.key

ephemeral-alike : (psks : Bool) (r s : SymmetricState) (x y : List ℕ) → KeyedAlike r s → KeyedAlike (with_ephemeral psks r x) (with_ephemeral psks s y)
ephemeral-alike true r s x y h = refl
ephemeral-alike false r s x y h = h

premessage-alike : (psks : Bool) (k l : Remote) (ts : List Token) (r s : SymmetricState) → KeyedAlike r s
    → KeyedAlike (with_premessage psks k ts r) (with_premessage psks l ts s)
premessage-alike psks k l [] r s h = h
premessage-alike psks k l (E ∷ ts) r s h = premessage-alike psks k l ts _ _ (ephemeral-alike psks r s _ _ h)
premessage-alike psks k l (S ∷ ts) r s h = premessage-alike psks k l ts _ _ h
premessage-alike psks k l (Ee ∷ ts) r s h = premessage-alike psks k l ts r s h
premessage-alike psks k l (Es ∷ ts) r s h = premessage-alike psks k l ts r s h
premessage-alike psks k l (Se ∷ ts) r s h = premessage-alike psks k l ts r s h
premessage-alike psks k l (Ss ∷ ts) r s h = premessage-alike psks k l ts r s h
premessage-alike psks k l (Psk ∷ ts) r s h = premessage-alike psks k l ts r s h

pub start-alike : (name prologue other : List ℕ) (p : Plan) (i j k l : Remote) → KeyedAlike (start name p prologue i j) (start name p other k l)
start-alike name prologue other p i j k l =
    let r : SymmetricState = mix_hash (initialize name) prologue in
    let s : SymmetricState = mix_hash (initialize name) other in
    premessage-alike (has_psk p) j l (pre_of Responder p) (with_premessage (has_psk p) i (pre_of Initiator p) r)
    (with_premessage (has_psk p) k (pre_of Initiator p) s) (premessage-alike (has_psk p) i k (pre_of Initiator p) r s refl)

-- what stands before the payload, by its length
record FrontAlike (psks : Bool) (r s : SymmetricState) (ts : List Token) (xs ys : List (List ℕ)) : Type 0 where
  pub long : length (before_payload psks r ts xs) ≡ length (before_payload psks s ts ys)
  pub keyed : KeyedAlike (after_tokens psks r ts xs) (after_tokens psks s ts ys)

joined-long : (a b c d : List ℕ) → length a ≡ length b → length c ≡ length d → length (a ++ c) ≡ length (b ++ d)
joined-long a b c d e f = omega (arith, length-append a c, length-append b d)

static-long : (r s : SymmetricState) (x y : List ℕ) → length x ≡ 32 → length y ≡ 32 → KeyedAlike r s → length (ciphertext r x) ≡ length (ciphertext s y)
static-long r s x y e f h =
    length-ciphertext r x ∙ ap (λ (b : Bool). sealed_len b (length x)) h ∙ ap (sealed_len (is_some s.cipher.key)) (e ∙ sym f) ∙ sym (length-ciphertext s y)

front-alike : (psks : Bool) (r s : SymmetricState) (ts : List Token) (xs ys : List (List ℕ)) → Carry ts xs → Carry ts ys → KeyedAlike r s
    → FrontAlike psks r s ts xs ys
front-alike psks r s [] [] [] f g h = record { long = refl; keyed = h }
front-alike psks r s (E ∷ ts) (x ∷ xs) (y ∷ ys) f g h =
    let on = front-alike psks (with_ephemeral psks r x) (with_ephemeral psks s y) ts xs ys f.1 g.1 (ephemeral-alike psks r s x y h) in
    record { long = joined-long x y _ _ (f.0 ∙ sym g.0) on.long; keyed = on.keyed }
front-alike psks r s (S ∷ ts) (x ∷ xs) (y ∷ ys) f g h =
    let on = front-alike psks (after_ciphertext r (ciphertext r x)) (after_ciphertext s (ciphertext s y)) ts xs ys f.1 g.1 h in
    record { long = joined-long (ciphertext r x) (ciphertext s y) _ _ (static-long r s x y f.0 g.0 h) on.long; keyed = on.keyed }
front-alike psks r s (Ee ∷ ts) (x ∷ xs) (y ∷ ys) f g h =
    let on = front-alike psks (after_token psks r Ee x) (after_token psks s Ee y) ts xs ys f.1 g.1 refl in record { long = on.long; keyed = on.keyed }
front-alike psks r s (Es ∷ ts) (x ∷ xs) (y ∷ ys) f g h =
    let on = front-alike psks (after_token psks r Es x) (after_token psks s Es y) ts xs ys f.1 g.1 refl in record { long = on.long; keyed = on.keyed }
front-alike psks r s (Se ∷ ts) (x ∷ xs) (y ∷ ys) f g h =
    let on = front-alike psks (after_token psks r Se x) (after_token psks s Se y) ts xs ys f.1 g.1 refl in record { long = on.long; keyed = on.keyed }
front-alike psks r s (Ss ∷ ts) (x ∷ xs) (y ∷ ys) f g h =
    let on = front-alike psks (after_token psks r Ss x) (after_token psks s Ss y) ts xs ys f.1 g.1 refl in record { long = on.long; keyed = on.keyed }
front-alike psks r s (Psk ∷ ts) (x ∷ xs) (y ∷ ys) f g h =
    let on = front-alike psks (after_token psks r Psk x) (after_token psks s Psk y) ts xs ys f.1 g.1 refl in record { long = on.long; keyed = on.keyed }
front-alike psks r s [] (x ∷ xs) ys f g h = absurd f
front-alike psks r s [] [] (y ∷ ys) f g h = absurd g
front-alike psks r s (t ∷ ts) [] ys f g h = absurd f
front-alike psks r s (t ∷ ts) (x ∷ xs) [] f g h = absurd g

-- ---- the messages without the party

abbrev pub AreSpelled : Plan → ℕ → SymmetricState → List HandshakeMessage → Type 0
AreSpelled p n r [] = Unit {0}
AreSpelled p n r (m ∷ ms) =
    (Carry (tokens_at p.messages n) m.carried × (m.message ≡ message_bytes (has_psk p) r (tokens_at p.messages n) m.carried m.payload))
    × AreSpelled p (n + 1) (after_payload (has_psk p) r (tokens_at p.messages n) m.carried m.payload) ms

pub record HasSpelled (v w : Party) (ps : List HandshakeMessage) : Type 0 where
  pub spelled : AreSpelled v.pattern v.passed v.state ps
  pub count : w.passed ≡ v.passed + length ps

abbrev pub WrittenCarries : Type 0
WrittenCarries = (v : Party) (payload message : List ℕ) (xs : List (List ℕ)) → Writes v payload xs message → Carry (tokens_now v) xs

abbrev pub AcceptedCarries : Type 0
AcceptedCarries = (v : Party) (payload message : List ℕ) (xs : List (List ℕ)) → Accepts v message xs payload → Carry (tokens_now v) xs

pub has-spelled : WrittenCarries → AcceptedCarries → (v w : Party) (ps : List HandshakeMessage) → Exchanged v ps w → HasSpelled v w ps
has-spelled written accepted v w [] (none _) = record { spelled = tt; count = omega arith }
has-spelled written accepted v w (p ∷ ps) (wrote _ _ _ _ here more) =
    let rest = has-spelled written accepted (after_own v p.carried p.payload) w ps more in
    record {
      spelled = ((written v p.payload p.message p.carried here, here.spelled), rest.spelled);
      count = omega (arith, rest.count);
    }
has-spelled written accepted v w (p ∷ ps) (took _ _ _ _ here more) =
    let rest = has-spelled written accepted (after_message v p.carried p.payload) w ps more in
    record {
      spelled = ((accepted v p.payload p.message p.carried here, here.reads.spelled), rest.spelled);
      count = omega (arith, rest.count);
    }

-- ---- the last of as many messages of two parties

pub record LastTwo (ps qs : List HandshakeMessage) (r s : History) : Type 0 where
  pub place : ℕ
  pub end : place + 1 ≡ length ps
  pub left : HandshakeMessage
  pub right : HandshakeMessage
  pub at_left : slice_get (messages_of ps) place ≡ Some left.message
  pub at_right : slice_get (messages_of qs) place ≡ Some right.message
  pub left_front : List ℕ
  pub right_front : List ℕ
  pub long : length left_front ≡ length right_front
  pub left_before : History
  pub right_before : History
  pub keyed : KeyedAlike (state_of_history left_before) (state_of_history right_before)
  pub left_is : left.message ≡ left_front ++ ciphertext (state_of_history left_before) left.payload
  pub right_is : right.message ≡ right_front ++ ciphertext (state_of_history right_before) right.payload
  pub left_after : r ≡ and_then left_before (Ciphertext (ciphertext (state_of_history left_before) left.payload))
  pub right_after : s ≡ and_then right_before (Ciphertext (ciphertext (state_of_history right_before) right.payload))

-- two states and those that are the same
pub keyed-same : (r s t u : SymmetricState) → r ≡ t → s ≡ u → KeyedAlike t u → KeyedAlike r s
keyed-same r s t u e f h =
    ap (λ (z : SymmetricState). is_some z.cipher.key) e ∙ h ∙ sym (ap (λ (z : SymmetricState). is_some z.cipher.key) f)

pub last-two : (p : Plan) (n : ℕ) (r s : History) (m q : HandshakeMessage) (ms qs : List HandshakeMessage) → length ms ≡ length qs
    → AreSpelled p n (state_of_history r) (m ∷ ms) → AreSpelled p n (state_of_history s) (q ∷ qs)
    → KeyedAlike (state_of_history r) (state_of_history s)
    → LastTwo (m ∷ ms) (q ∷ qs) (history_after p n r (m ∷ ms)) (history_after p n s (q ∷ qs))
last-two p n r s m q [] [] e f g h =
    let ts : List Token = tokens_at p.messages n in
    let front = front-alike (has_psk p) (state_of_history r) (state_of_history s) ts m.carried q.carried f.0.0 g.0.0 h in
    let left : List ℕ = before_payload (has_psk p) (state_of_history r) ts m.carried in
    let right : List ℕ = before_payload (has_psk p) (state_of_history s) ts q.carried in
    let there = front-state (has_psk p) r ts m.carried in
    let back = front-state (has_psk p) s ts q.carried in
    record {
      place = 0;
      end = refl;
      left = m;
      right = q;
      at_left = refl;
      at_right = refl;
      left_front = left;
      right_front = right;
      long = front.long;
      left_before = history_after_tokens (has_psk p) r ts m.carried;
      right_before = history_after_tokens (has_psk p) s ts q.carried;
      keyed = keyed-same _ _ _ _ there back front.keyed;
      left_is = f.0.1 ∙ ap (λ (z : SymmetricState). left ++ ciphertext z m.payload) (sym there);
      right_is = g.0.1 ∙ ap (λ (z : SymmetricState). right ++ ciphertext z q.payload) (sym back);
      left_after = refl;
      right_after = refl;
    }
last-two p n r s m q (i ∷ ms) (j ∷ qs) e f g h =
    let ts : List Token = tokens_at p.messages n in
    let front = front-alike (has_psk p) (state_of_history r) (state_of_history s) ts m.carried q.carried f.0.0 g.0.0 h in
    let one : History = history_after_payload (has_psk p) r ts m.carried m.payload in
    let two : History = history_after_payload (has_psk p) s ts q.carried q.payload in
    let there = line-state (has_psk p) r ts m.carried m.payload in
    let back = line-state (has_psk p) s ts q.carried q.payload in
    let l = last-two p (n + 1) one two i j ms qs (omega (arith, e))
    (subst (λ (z : SymmetricState). AreSpelled p (n + 1) z (i ∷ ms)) (sym there) f.1)
    (subst (λ (z : SymmetricState). AreSpelled p (n + 1) z (j ∷ qs)) (sym back) g.1)
    (keyed-same (state_of_history one) (state_of_history two) (after_payload (has_psk p) (state_of_history r) ts m.carried m.payload)
    (after_payload (has_psk p) (state_of_history s) ts q.carried q.payload) there back front.keyed) in
    record {
      place = suc l.place;
      end = let h = l.end in omega arith;
      left = l.left;
      right = l.right;
      at_left = l.at_left;
      at_right = l.at_right;
      left_front = l.left_front;
      right_front = l.right_front;
      long = l.long;
      left_before = l.left_before;
      right_before = l.right_before;
      keyed = l.keyed;
      left_is = l.left_is;
      right_is = l.right_is;
      left_after = l.left_after;
      right_after = l.right_after;
    }
last-two p n r s m q [] (j ∷ qs) e f g h = absurd (omega (arith, e))
last-two p n r s m q (i ∷ ms) [] e f g h = absurd (omega (arith, e))
