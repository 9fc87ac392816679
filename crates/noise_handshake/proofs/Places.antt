-- Whether there is a key along the places of a pattern, and how much longer than its payload a message is.
use Rattle.std.proofs.Common.{rules, ◌≡◌, ℕ, ◌+◌, ◌<◌, List, [], ◌∷◌, ◌++◌, length, take, refl, ap, sym, ◌∙◌, arith, append_assoc, append-nil}
use Rattle.std.specs.Prelude.{Bool, false}
use Rattle.noise_handshake.proofs.Common.{◌||◌, ◌&&◌, take_more, list_any-append, Role, Initiator, Responder, Token, E, S, Ee, Es, Se, Ss, turn_from, Plan, does, payload, Place, place, token_places, message_places, has_psk, is_at, occurs, has_key, added_len, overhead_from, overhead_of, keyed_after, keyed_after_tokens, token_width, added_width, passed_places, tokens_at}
use Rattle.noise_names.specs.declared.token.Token.TheVariants.{Psk}
use Rattle.noise_names.specs.Facts.{message_places-append}
use Rattle.noise_handshake.proofs.Parties.{tokens_at-read}
use Rattle.noise_names.specs.Tests.{or-false, or-true, and-false}

-- one place more
occurs-more : (t : Token) (earlier : List Place) (p : Place) → occurs t (earlier ++ p ∷ []) ≡ (occurs t earlier || is_at t p.step)
occurs-more t earlier p = list_any-append (λ q. is_at t q.step) earlier (p ∷ []) ∙ ap (λ (b : Bool). occurs t earlier || b) (or-false (is_at t p.step))

module _ (plan : Plan) where
  -- the test over the places, with one more
  by_parts : (earlier : List Place) (p : Place) → has_key plan (earlier ++ p ∷ [])
      ≡ ((occurs Ee earlier || is_at Ee p.step) || (occurs Es earlier || is_at Es p.step) || (occurs Se earlier || is_at Se p.step)
      || (occurs Ss earlier || is_at Ss p.step) || (occurs Psk earlier || is_at Psk p.step) || (has_psk plan && (occurs E earlier || is_at E p.step)))
  by_parts earlier p = simp occurs-more

  has_key-token : (earlier : List Place) (party : Role) (t : Token) (m i : ℕ)
      → has_key plan (earlier ++ place party (does t) m i ∷ []) ≡ keyed_after (has_psk plan) (has_key plan earlier) t
  has_key-token earlier party E m i = search (rules, by_parts)
  has_key-token earlier party S m i = by_parts earlier (place party (does S) m i) ∙ simp or-false
  has_key-token earlier party Ee m i = by_parts earlier (place party (does Ee) m i) ∙ simp (or-false, or-true)
  has_key-token earlier party Es m i = by_parts earlier (place party (does Es) m i) ∙ simp (or-false, or-true)
  has_key-token earlier party Se m i = by_parts earlier (place party (does Se) m i) ∙ simp (or-false, or-true)
  has_key-token earlier party Ss m i = by_parts earlier (place party (does Ss) m i) ∙ simp (or-false, or-true)
  has_key-token earlier party Psk m i = by_parts earlier (place party (does Psk) m i) ∙ simp (or-false, or-true)

  has_key-payload : (earlier : List Place) (party : Role) (m i : ℕ) → has_key plan (earlier ++ place party payload m i ∷ []) ≡ has_key plan earlier
  has_key-payload earlier party m i = by_parts earlier (place party payload m i) ∙ simp or-false

  -- after the tokens of a message
  has_key-tokens : (earlier : List Place) (party : Role) (m i : ℕ) (ts : List Token)
      → has_key plan (earlier ++ token_places party m i ts) ≡ keyed_after_tokens (has_psk plan) (has_key plan earlier) ts
  has_key-tokens earlier party m i [] = ap (has_key plan) (append-nil earlier)
  has_key-tokens earlier party m i (t ∷ ts) =
      let here : List Place = earlier ++ place party (does t) m i ∷ [] in
      ap (has_key plan) (sym (append_assoc earlier (place party (does t) m i ∷ []) (token_places party m (i + 1) ts)))
      ∙ has_key-tokens here party m (i + 1) ts ∙ ap (λ (b : Bool). keyed_after_tokens (has_psk plan) b ts) (has_key-token earlier party t m i)

  -- after a message
  has_key-message : (earlier : List Place) (party : Role) (n : ℕ) (ts : List Token)
      → has_key plan (earlier ++ message_places party n (ts ∷ [])) ≡ keyed_after_tokens (has_psk plan) (has_key plan earlier) ts
  has_key-message earlier party n ts =
      ap (has_key plan) (sym (append_assoc earlier (token_places party n 0 ts) (place party payload n (length ts) ∷ [])))
      ∙ has_key-payload (earlier ++ token_places party n 0 ts) party n (length ts) ∙ has_key-tokens earlier party n 0 ts

  added-token : (earlier : List Place) (t : Token) → added_len plan earlier (does t) ≡ token_width (has_key plan earlier) t
  added-token earlier E = refl
  added-token earlier S = refl
  added-token earlier Ee = refl
  added-token earlier Es = refl
  added-token earlier Se = refl
  added-token earlier Ss = refl
  added-token earlier Psk = refl

  -- what the places of a message add
  overhead-message : (n : ℕ) (earlier : List Place) (party : Role) (i k : ℕ) (ts : List Token)
      → overhead_from plan earlier (token_places party n i ts ++ place party payload n k ∷ []) ≡ added_width (has_psk plan) (has_key plan earlier) ts
  overhead-message n earlier party i k [] = omega arith
  overhead-message n earlier party i k (t ∷ ts) =
      let p : Place = place party (does t) n i in
      let later : overhead_from plan (earlier ++ p ∷ []) (token_places party n (i + 1) ts ++ place party payload n k ∷ [])
      ≡ added_width (has_psk plan) (keyed_after (has_psk plan) (has_key plan earlier) t) ts =
      overhead-message n (earlier ++ p ∷ []) party (i + 1) k ts ∙ ap (λ (b : Bool). added_width (has_psk plan) b ts) (has_key-token earlier party t n i) in
      omega (arith, added-token earlier t, later)

  -- what the pre-messages make of it
  pub has_key-start : has_key plan (passed_places plan 0) ≡ keyed_after_tokens (has_psk plan)
      (keyed_after_tokens (has_psk plan) false plan.initiator) plan.responder
  has_key-start =
      let first : List Place = token_places Initiator 0 0 plan.initiator in
      ap (has_key plan) (append-nil (first ++ token_places Responder 0 0 plan.responder))
      ∙ has_key-tokens first Responder 0 0 plan.responder
      ∙ ap (λ (b : Bool). keyed_after_tokens (has_psk plan) b plan.responder)
      (has_key-tokens [] Initiator 0 0 plan.initiator ∙ ap (λ (b : Bool). keyed_after_tokens (has_psk plan) b plan.initiator) (and-false (has_psk plan)))

  -- what a message makes of it
  pub has_key-passed : (n : ℕ) → n < length plan.messages
      → has_key plan (passed_places plan (n + 1)) ≡ keyed_after_tokens (has_psk plan) (has_key plan (passed_places plan n)) (tokens_at plan.messages n)
  has_key-passed n h =
      let m : List Token = tokens_at plan.messages n in
      let before : List (List Token) = take n plan.messages in
      let pre : List Place = token_places Initiator 0 0 plan.initiator ++ token_places Responder 0 0 plan.responder in
      let party : Role = turn_from Initiator (length before) in
      let cut : take (n + 1) plan.messages ≡ before ++ m ∷ [] =
      take_more plan.messages n m h ∙ ap (λ (ts : List Token). before ++ ts ∷ []) (tokens_at-read plan.messages n m h) in
      ap (λ (ms : List (List Token)). has_key plan (pre ++ message_places Initiator 1 ms)) cut
      ∙ ap (λ (ps : List Place). has_key plan (pre ++ ps)) (message_places-append Initiator 1 before (m ∷ []))
      ∙ ap (has_key plan) (sym (append_assoc pre (message_places Initiator 1 before) (message_places party (1 + length before) (m ∷ []))))
      ∙ has_key-message (passed_places plan n) party (1 + length before) m

  -- the overhead of message n + 1 is what its tokens and tags add
  pub overhead-is : (n : ℕ) → n < length plan.messages
      → overhead_of plan (n + 1) ≡ added_width (has_psk plan) (has_key plan (passed_places plan n)) (tokens_at plan.messages n)
  overhead-is n h = search (rules, tokens_at-read, overhead-message)
