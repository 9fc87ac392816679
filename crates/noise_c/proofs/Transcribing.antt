-- What two parties write that have come equally far: the messages of the transcript.
use Rattle.std.proofs.Common.{◌≡◌, ℕ, ◌+◌, List, [], ◌∷◌, ◌++◌, map, refl, ap, sym, subst, ◌∙◌}
use Rattle.std.specs.Prelude.{true, if◌then◌else◌, unwrap_or}
use Rattle.noise_c.proofs.Common.{Bool, Option, Some, Token, E, S, Ee, Es, Se, Ss, Role, Plan, IsValid, Own, Party, Accepts, Writes, Writer, writer, Given, Remote, after_message, after_own, dh_result_of, own_at, remote_at, tokens_at, tokens_now, has_psk, occurs, is_dh, or_right}
use Rattle.noise_names.specs.declared.token.Token.TheVariants.{Psk}
use Rattle.noise_names.specs.declared.token.Role.TheVariants.{Initiator, Responder}
use Rattle.noise_names.specs.Tokens.{other, same_role, same_token, turn_from}
use Rattle.noise_names.specs.Plan.{places_of}
use Rattle.noise_names.specs.Validity.{is_among}
use Rattle.noise_handshake.specs.Passed.{passed_places}
use Rattle.noise_state.specs.declared.symmetric.SymmetricState.{SymmetricState}
use Rattle.noise_keys.specs.declared.keys.Own.TheVariants.{Ephemeral, Static}
use Rattle.noise_keys.specs.KeyTokens.{has_token}
use Rattle.noise_handshake.specs.Message.{message_bytes}
use Rattle.noise_handshake.specs.Party.{other_psks}
use Rattle.noise_handshake.specs.Setup.{public_keys}
use Rattle.noise_handshake.specs.Counterparts.{Counterparts, GivesDhResult, DhResultsAgree, keys_if, shown_after}
use Rattle.noise_duel.specs.Messages.{HandshakeMessage, Start}
use Rattle.noise_duel.specs.Conversation.{KeyMaterial, carried_by, carried_at, conversation}
use Rattle.noise_duel.specs.SetUpAlike.{material_of}
use Rattle.noise_c.specs.TwoPrograms.{Passed, IsFront, messages_in, those_by}
use Rattle.noise_c.proofs.Talking.{Talk, silent, speaks, hears, Laws, ahead, both-speak, both-listen, front-heads, no-front}

-- a party's keys and DH results are those of the key material
pub record Shares (m : KeyMaterial) (p : Plan) (role : Role) (own : Own → Option (List ℕ)) (agree : Own → List ℕ → Option (List ℕ))
    (theirs : Own → Option (List ℕ)) : Type 0 where
  pub keys : (x : Own) (y : List ℕ) → own x ≡ Some y → y ≡ m.public role x
  pub dh_results : (t : Token) → is_dh t ≡ true → occurs t (places_of p) ≡ true → (y : List ℕ)
      → dh_result_of agree (own_at role t) (remote_at role (public_keys theirs) t) ≡ Some y → y ≡ m.dh_result t

pub record Showing : Type 0 where
  pub known : (v w : Party) → Counterparts v w → v.remote ≡ shown_after v.pattern (other v.role) v.passed w.own
  pub dh_result : (agree : Own → List ℕ → Option (List ℕ)) (x : Own) (role : Role) (e s : Bool)
      (theirs : Own → Option (List ℕ)) (t : Token) (y : List ℕ)
      → GivesDhResult agree x role (keys_if e s theirs) t y → GivesDhResult agree x role (public_keys theirs) t y
  pub sent : (p : Plan) (n : ℕ) (t : Token) → has_token t (tokens_at p.messages n) ≡ true
      → is_among (turn_from Initiator n) t (places_of p) ≡ true
  pub there : (party : Role) (p : Plan) (t : Token) → is_among party t (places_of p) ≡ true → occurs t (places_of p) ≡ true

module _ (laws : Showing) (m : KeyMaterial) (p : Plan) (psks_there : Bool) (role : Role) (own theirs : Own → Option (List ℕ))
    (agree : Own → List ℕ → Option (List ℕ)) (shares : Shares m p role own agree theirs) (e s : Bool) where
  abbrev gives : Writer
  gives = record { role = role; has_psks = psks_there; own = own; agree = agree }

  abbrev Occur : List Token → Type 0
  Occur ts = (t : Token) → has_token t ts ≡ true → occurs t (places_of p) ≡ true

  on : (t : Token) (ts : List Token) → Occur (t ∷ ts) → Occur ts
  on t ts h u k = h u (or_right (same_token t u) (has_token u ts) k)

  dh : (t : Token) (x : List ℕ) → is_dh t ≡ true → occurs t (places_of p) ≡ true
      → dh_result_of agree (own_at role t) (remote_at role (keys_if e s theirs) t) ≡ Some x → x ≡ m.dh_result t
  dh t x d o g = shares.dh_results t d o x (laws.dh_result agree (own_at role t) role e s theirs t x g)

  pub given : (psks : List (List ℕ)) (ts : List Token) (xs : List (List ℕ)) → Occur ts → Given gives (keys_if e s theirs) psks ts xs
      → xs ≡ carried_by m role psks ts
  given psks [] [] h g = refl
  given psks (E ∷ ts) (x ∷ xs) h g =
      let a = shares.keys Ephemeral x g.0.0 in let i = given psks ts xs (on E ts h) g.1 in cc
  given psks (S ∷ ts) (x ∷ xs) h g =
      let a = shares.keys Static x g.0.0 in let i = given psks ts xs (on S ts h) g.1 in cc
  given psks (Psk ∷ ts) (x ∷ xs) h g =
      let a = g.0 in let i = given (other_psks psks) ts xs (on Psk ts h) g.1 in cc
  given psks (Ee ∷ ts) (x ∷ xs) h g =
      let a = dh Ee x refl (h Ee refl) g.0 in let i = given psks ts xs (on Ee ts h) g.1 in cc
  given psks (Es ∷ ts) (x ∷ xs) h g =
      let a = dh Es x refl (h Es refl) g.0 in let i = given psks ts xs (on Es ts h) g.1 in cc
  given psks (Se ∷ ts) (x ∷ xs) h g =
      let a = dh Se x refl (h Se refl) g.0 in let i = given psks ts xs (on Se ts h) g.1 in cc
  given psks (Ss ∷ ts) (x ∷ xs) h g =
      let a = dh Ss x refl (h Ss refl) g.0 in let i = given psks ts xs (on Ss ts h) g.1 in cc
  given psks _ _ h g = absurd g

-- ---- turns

mine-at : (t r : Role) (x : Passed) (rest : List Passed) → t ≡ r → (if same_role t r then x ∷ [] else []) ++ rest ≡ x ∷ rest
mine-at Initiator Initiator x rest e = refl
mine-at Responder Responder x rest e = refl
mine-at Initiator Responder x rest e = cc
mine-at Responder Initiator x rest e = cc

theirs-at : (t r : Role) (x : Passed) (rest : List Passed) → t ≡ other r → (if same_role t r then x ∷ [] else []) ++ rest ≡ rest
theirs-at Initiator Responder x rest e = refl
theirs-at Responder Initiator x rest e = refl
theirs-at Initiator Initiator x rest e = cc
theirs-at Responder Responder x rest e = cc

conversation-same : (m : KeyMaterial) (p q : Plan) (n k : ℕ) (s t : List (List ℕ)) (r u : SymmetricState) (ps : List (List ℕ))
    → p ≡ q → n ≡ k → s ≡ t → r ≡ u → conversation m p n s r ps ≡ conversation m q k t u ps
conversation-same m p q n k s t r u ps e f g h = cc

module _ (laws : Laws) (showing : Showing) (m : KeyMaterial) where
  -- the messages from a party's state on
  abbrev from : Party → List (List ℕ) → List Passed
  from v ps = map (λ (x : HandshakeMessage). record { message = x.message; payload = x.payload }) (conversation m v.pattern v.passed v.psks v.state ps)

  -- each has the keys of the key material, and the other's
  pub record Both (v w : Party) : Type 0 where
    pub left : Shares m v.pattern v.role v.own v.agree w.own
    pub right : Shares m w.pattern w.role w.own w.agree v.own

  pub record Told (v w : Party) (ws us : List Passed) : Type 0 where
    pub payloads : List (List ℕ)
    pub ours : ws ≡ those_by v.role v.passed (from v payloads)
    pub theirs : us ≡ those_by w.role v.passed (from v payloads)

  from-same : (v w : Party) (ps : List (List ℕ)) → Counterparts v w → from v ps ≡ from w ps
  from-same v w ps h =
      ap (map (λ (x : HandshakeMessage). record { message = x.message; payload = x.payload }))
      (conversation-same m v.pattern w.pattern v.passed w.passed v.psks w.psks v.state w.state ps
      (sym (ap (λ (z : Party). z.pattern) h.there)) (sym (ap (λ (z : Party). z.passed) h.there))
      (sym (ap (λ (z : Party). z.psks) h.there)) (sym (ap (λ (z : Party). z.state) h.there)))

  carried : (v w : Party) (payload message : List ℕ) (c : List (List ℕ)) → Counterparts v w → Shares m v.pattern v.role v.own v.agree w.own
      → Writes v payload c message → c ≡ carried_at m v.pattern v.passed v.psks
  carried v w payload message c h shares writes =
      let known = showing.known v w h in
      given showing m v.pattern (has_psk v.pattern) v.role v.own w.own v.agree shares
      (is_among (other v.role) E (passed_places v.pattern v.passed)) (is_among (other v.role) S (passed_places v.pattern v.passed))
      v.psks (tokens_now v) c
      (λ t k. showing.there (turn_from Initiator v.passed) v.pattern t (showing.sent v.pattern v.passed t k))
      (subst (λ (r : Remote). Given (writer v) r v.psks (tokens_now v) c) known writes.given)
      ∙ ap (λ (r : Role). carried_by m r v.psks (tokens_now v)) (sym writes.speaks.turn)

  head : (v w : Party) (k : Passed) (c ps : List (List ℕ)) → Counterparts v w → Shares m v.pattern v.role v.own v.agree w.own
      → Writes v k.payload c k.message → from v (k.payload ∷ ps) ≡ k ∷ from (after_own v c k.payload) ps
  head v w k c ps h shares writes =
      let is = carried v w k.payload k.message c h shares writes in
      let on : List (List ℕ) → List Passed =
      λ z. record { message = message_bytes (has_psk v.pattern) v.state (tokens_now v) z k.payload; payload = k.payload } ∷ from (after_own v z k.payload) ps in
      ap on (sym is) ∙ ap (λ (z : List ℕ). record { message = z; payload = k.payload } ∷ from (after_own v c k.payload) ps) (sym writes.spelled)

  -- one message more, of the first
  told-more : (v w u : Party) (k : Passed) (c : List (List ℕ)) (ws us : List Passed) → Counterparts v w → Shares m v.pattern v.role v.own v.agree w.own
      → Writes v k.payload c k.message → w.role ≡ u.role → Told (after_own v c k.payload) u ws us → Told v w (k ∷ ws) us
  told-more v w u k c ws us h shares writes role t = record {
    payloads = k.payload ∷ t.payloads;
    ours = ap (λ (z : List Passed). k ∷ z) t.ours
        ∙ sym (mine-at (turn_from Initiator v.passed) v.role k (those_by v.role (v.passed + 1) rest) turn)
        ∙ sym (ap (those_by v.role v.passed) all);
    theirs = t.theirs
        ∙ ap (λ (z : Role). those_by z (v.passed + 1) rest) (sym role)
        ∙ sym (theirs-at (turn_from Initiator v.passed) w.role k (those_by w.role (v.passed + 1) rest) (turn ∙ ap (λ (z : Party). z.role) h.back))
        ∙ sym (ap (those_by w.role v.passed) all);
  } where
    turn : turn_from Initiator v.passed ≡ v.role
    turn = writes.speaks.turn

    rest : List Passed
    rest = from (after_own v c k.payload) t.payloads

    all : from v (k.payload ∷ t.payloads) ≡ k ∷ rest
    all = head v w k c t.payloads h shares writes

  told-none : (v w : Party) → Told v w [] []
  told-none v w = record { payloads = []; ours = refl; theirs = refl }

  -- the same from the other side
  told-back : (v w : Party) (ws us : List Passed) → Counterparts v w → Told v w ws us → Told w v us ws
  told-back v w ws us h t = record {
    payloads = t.payloads;
    ours = t.theirs ∙ there w.role;
    theirs = t.ours ∙ there v.role;
  } where
    there : (r : Role) → those_by r v.passed (from v t.payloads) ≡ those_by r w.passed (from w t.payloads)
    there r = ap (those_by r v.passed) (from-same v w t.payloads h)
        ∙ ap (λ (n : ℕ). those_by r n (from w t.payloads)) (sym (ap (λ (z : Party). z.passed) h.there))

  pub told : (v w last end : Party) (ws rs us xs : List Passed) → IsValid v.pattern → Counterparts v w → Both v w
      → Talk v ws rs last → Talk w us xs end
      → IsFront (messages_in xs) (messages_in ws) → IsFront (messages_in rs) (messages_in us)
      → Told v w ws us
  told v w _ _ _ _ _ _ valid h b (silent _) (silent _) f g = told-none v w
  told v w _ end _ _ _ _ valid h b (silent _) (hears _ _ d k us xs accepts more) f g = absurd (no-front k xs f)
  told v w _ end _ _ _ _ valid h b (silent _) (speaks _ _ d k us xs writes more) f g =
      let a = ahead w d k end us xs writes.speaks more f in
      let back : Counterparts w v = laws.turned v w h in
      told-back w v (k ∷ us) [] back
      (subst (λ (z : List Passed). Told w v (k ∷ z) []) (sym a.no_more)
      (told-more w v v k d [] [] back b.right writes refl (told-none (after_own w d k.payload) v)))
  told v w last _ _ _ _ _ valid h b (speaks _ _ c k ws rs writes more) (silent _) f g =
      let a = ahead v c k last ws rs writes.speaks more g in
      subst (λ (z : List Passed). Told v w (k ∷ z) []) (sym a.no_more)
      (told-more v w w k c [] [] h b.left writes refl (told-none (after_own v c k.payload) w))
  told v w last end _ _ _ _ valid h b (speaks _ _ c k ws rs writes more) (speaks _ _ d j us xs other-writes more2) f g =
      absurd (both-speak v w h writes.speaks other-writes.speaks)
  told v w last end _ _ _ _ valid h b (speaks _ _ c k ws rs writes more) (hears _ _ d j us xs accepts more2) f g =
      let heads = front-heads j k xs ws f in
      let here = laws.accepts v w k.payload k.message c valid h writes in
      let one = laws.once w k.message d c j.payload k.payload (subst (λ (z : List ℕ). Accepts w z d j.payload) heads.0 accepts) here in
      let same : after_message w d j.payload ≡ after_message w c k.payload = ap (λ (z : List (List ℕ)). after_message w z j.payload) one.0 ∙ ap (after_message w c) one.1 in
      told-more v w (after_message w d j.payload) k c ws us h b.left writes refl
      (told (after_own v c k.payload) (after_message w d j.payload) last end ws rs us xs valid
      (subst (λ (z : Party). Counterparts (after_own v c k.payload) z) (sym same) (laws.next v w k.payload k.message c valid h writes))
      (record { left = b.left; right = b.right }) more more2 heads.1 g)
  told v w last _ _ _ _ _ valid h b (hears _ _ c k ws rs accepts more) (silent _) f g = absurd (no-front k rs g)
  told v w last end _ _ _ _ valid h b (hears _ _ c k ws rs accepts more) (hears _ _ d j us xs other-accepts more2) f g =
      absurd (both-listen v w h accepts.listens other-accepts.listens)
  told v w last end _ _ _ _ valid h b (hears _ _ c k ws rs accepts more) (speaks _ _ d j us xs writes more2) f g =
      let heads = front-heads k j rs us g in
      let back : Counterparts w v = laws.turned v w h in
      let valid-w : IsValid w.pattern = subst IsValid (sym (ap (λ (z : Party). z.pattern) h.there)) valid in
      let here = laws.accepts w v j.payload j.message d valid-w back writes in
      let one = laws.once v j.message c d k.payload j.payload (subst (λ (z : List ℕ). Accepts v z c k.payload) heads.0 accepts) here in
      let same : after_message v c k.payload ≡ after_message v d j.payload = ap (λ (z : List (List ℕ)). after_message v z k.payload) one.0 ∙ ap (after_message v d) one.1 in
      let next : Counterparts (after_message v c k.payload) (after_own w d j.payload) =
      subst (λ (z : Party). Counterparts z (after_own w d j.payload)) (sym same)
      (laws.turned (after_own w d j.payload) (after_message v d j.payload) (laws.next w v j.payload j.message d valid-w back writes)) in
      told-back w v (j ∷ us) ws back
      (told-more w v (after_message v c k.payload) j d us ws back b.right writes refl
      (told-back (after_message v c k.payload) (after_own w d j.payload) ws us next
      (told (after_message v c k.payload) (after_own w d j.payload) last end ws rs us xs valid next
      (record { left = b.left; right = b.right }) more more2 f heads.1)))

-- ---- the key material of two starts

or-some : (o : Option (List ℕ)) (d y : List ℕ) → o ≡ Some y → y ≡ unwrap_or o d
or-some o d y e = sym (ap (λ (z : Option (List ℕ)). unwrap_or z d) e)

pub shares-left : (p : Plan) (a b : Start) → Shares (material_of a b) p Initiator a.own a.agree b.own
shares-left p a b = record {
  keys = λ x y e. or-some (a.own x) _ y e;
  dh_results = λ t d o y e. or-some (dh_result_of a.agree (own_at Initiator t) (remote_at Initiator (public_keys b.own) t)) _ y e;
}

pub shares-right : (p : Plan) (a b : Start) → DhResultsAgree p Initiator a.own a.agree b.own b.agree → Shares (material_of a b) p Responder b.own b.agree a.own
shares-right p a b h = record {
  keys = λ x y e. or-some (b.own x) _ y e;
  dh_results = λ t d o y e. or-some (dh_result_of a.agree (own_at Initiator t) (remote_at Initiator (public_keys b.own) t)) _ y (h t d o ∙ e);
}
