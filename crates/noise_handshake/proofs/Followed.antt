-- What following the tokens of a message leaves.
use Rattle.std.proofs.Common.{◌≡◌, ℕ, suc, ◌+◌, ◌*◌, ◌<◌, ◌≤◌, Bool, true, false, List, [], ◌∷◌, ◌++◌, length, take, drop, refl, ap, sym, subst, ◌∙◌, arith, take_all}
use Rattle.noise_handshake.proofs.Common.{Ok, Err, Some, drop_at, after_ciphertext, ciphertext, after_own, message_bytes, HasPsks, Matches, MessageLayout, LaysNext, Plan, has_key, passed_places, Token, E, S, Ee, Es, Se, Ss, Initiator, other, turn_from, has_psk, SymmetricState, keyed, nonce_now, Remote, Cause, before_payload, after_tokens, Reader, BeginsAs, remote_after, Writer, Given, tag_width, token_width, tokens_width, keyed_after, keyed_after_tokens, nonce_after_message, tokens_at, tokens_now, HandshakeValue, gone_on, tokens_due, IsSupplied, party_of, Party, held_in, IsKept, KnowsRemote, PlacedToken, tokens_of, Carry}
use Rattle.noise_names.specs.declared.token.Token.TheVariants.{Psk}
use Rattle.noise_keys.specs.Keys.{KeyPairs}
use Rattle.noise_handshake.specs.Steps.{after_steps}
use Rattle.noise_handshake.specs.declared.following.Front.{Front}
use Rattle.noise_handshake.specs.declared.handshake.Handshake.TheInside.{Inside}
use Rattle.noise_handshake.specs.inner.Following.{Fronts, IsFront, Leaves}
use Rattle.noise_handshake.specs.inner.Reading.{ReadsTokens}
use Rattle.noise_handshake.specs.inner.Stepping.{TellsRead, TellsWritten}
use Rattle.noise_handshake.specs.inner.Writing.{WritesTokens}
use Rattle.noise_handshake.proofs.Apart.{front-apart, reads-leads}
use Rattle.noise_handshake.proofs.Giving.{given-front, given-one}
use Rattle.noise_handshake.proofs.Knowing.{knows-read, knows-wrote}
use Rattle.noise_handshake.proofs.Layouts.{length-tokens_of}
use Rattle.noise_handshake.proofs.LateParties.{supplied-on}
use Rattle.noise_handshake.proofs.Next.{key-next, tokens-next, unchanged-next}
use Rattle.noise_handshake.proofs.Told.{width-read, width-written}
use Rattle.noise_handshake.proofs.Counting.{message-counted}
use Rattle.noise_handshake.proofs.Widths.{after_tokens-keyed}

abbrev pub front_of : ℕ → SymmetricState → Remote → Front
front_of n state remote = record { from = n; state = state; remote = remote }

module _ {S : Type 0} (after : S → Token → ℕ → ℕ → SymmetricState → S) (r : SymmetricState) (us ts : List Token) (e : us ≡ ts) (old new : S) where
  -- tokens of the other party
  module _ (v : Reader) (known here : Remote) (psks : List (List ℕ)) (m : List ℕ) (state : SymmetricState) where
    pub front-read : (n : ℕ) → n ≤ length m → ReadsTokens v r state known here psks us m 0 (Ok n) → TellsRead after v r known psks us m 0 (Ok n) old new
        → (xs : List (List ℕ)) (rest : List ℕ) → BeginsAs v known psks r ts xs m rest
        → Fronts after (Some (front_of n state here)) v.has_psks r ts xs (remote_after known ts xs) old new
    front-read n within q told xs rest l =
        let l1 : BeginsAs v known psks r us xs m rest = subst (λ (zs : List Token). BeginsAs v known psks r zs xs m rest) (sym e) l in
        let none : 0 + n ≡ n = omega arith in
        let piece : List ℕ = before_payload v.has_psks r us q.0 in
        let spelled : m ≡ piece ++ drop n m = q.1.spelled ∙ ap (λ (k : ℕ). piece ++ drop k m) none in
        let same = front-apart v known psks r us q.0 xs (drop n m) rest q.1.fit l1.fit (sym spelled ∙ l1.spelled) in (
          record {
            from = sym (width-read piece m n within spelled)
                ∙ ap (λ (ys : List (List ℕ)). length (before_payload v.has_psks r us ys)) same.0
                ∙ ap (λ (zs : List Token). length (before_payload v.has_psks r zs xs)) e;
            state = subst (λ (zs : List Token). state ≡ after_tokens v.has_psks r zs xs) e
                (subst (λ (ys : List (List ℕ)). state ≡ after_tokens v.has_psks r us ys) same.0 q.2);
            remote = q.3 ∙ ap (λ (ys : List (List ℕ)). remote_after known us ys) same.0 ∙ ap (λ (zs : List Token). remote_after known zs xs) e;
          },
          told xs rest l1 ∙ ap (λ (zs : List Token). after_steps after v.has_psks r 0 zs xs old) e,
        )

    pub front-unread : (stop : ℕ × Cause) → stop.0 < length us → ReadsTokens v r state known here psks us m 0 (Err stop)
        → (xs : List (List ℕ)) (rest : List ℕ) → BeginsAs v known psks r ts xs m rest → ⊥
    front-unread stop h q xs rest l =
        let l1 : BeginsAs v known psks r us xs m rest = subst (λ (zs : List Token). BeginsAs v known psks r zs xs m rest) (sym e) l in
        q.0.further h (reads-leads v known psks r us xs m rest (suc stop.0) l1)

  -- tokens of the party's own
  module _ (w : Writer) (known : Remote) (psks : List (List ℕ)) (out : List ℕ) (state : SymmetricState) where
    pub front-written : (n : ℕ) → n ≤ length out → WritesTokens w r state known psks us out (Ok n) → TellsWritten after w r known psks us 0 (Ok n) old new
        → (xs : List (List ℕ)) → Given w known psks ts xs
        → Fronts after (Some (front_of n state known)) w.has_psks r ts xs known old new
    front-written n within q told xs g =
        let g1 : Given w known psks us xs = subst (λ (zs : List Token). Given w known psks zs xs) (sym e) g in
        let same : q.0 ≡ xs = given-one w known psks us q.0 xs q.1 g1 in (
          record {
            from = sym (width-written (before_payload w.has_psks r us q.0) out n within q.2)
                ∙ ap (λ (ys : List (List ℕ)). length (before_payload w.has_psks r us ys)) same
                ∙ ap (λ (zs : List Token). length (before_payload w.has_psks r zs xs)) e;
            state = subst (λ (zs : List Token). state ≡ after_tokens w.has_psks r zs xs) e
                (subst (λ (ys : List (List ℕ)). state ≡ after_tokens w.has_psks r us ys) same q.3);
            remote = refl;
          },
          told xs g1 ∙ ap (λ (zs : List Token). after_steps after w.has_psks r 0 zs xs old) e,
        )

    pub front-unwritten : (k : ℕ) → WritesTokens w r state known psks us out (Err k) → (xs : List (List ℕ)) → Given w known psks ts xs → ⊥
    front-unwritten k q xs g =
        let g1 : Given w known psks us xs = subst (λ (zs : List Token). Given w known psks zs xs) (sym e) g in
        q.none (take (suc k) xs) (given-front w known psks us xs (suc k) g1)

-- tokens travel as at most 48 bytes each
tag-most : (key : Bool) → tag_width key ≤ 16
tag-most true = omega arith
tag-most false = omega arith

token-most : (key : Bool) (t : Token) → token_width key t ≤ 48
token-most key E = omega arith
token-most key S = omega (arith, tag-most key)
token-most key Ee = omega arith
token-most key Es = omega arith
token-most key Se = omega arith
token-most key Ss = omega arith
token-most key Psk = omega arith

pub widths-most : (has_psks key : Bool) (ts : List Token) → tokens_width has_psks key ts ≤ 48 * length ts
widths-most has_psks key [] = omega arith
widths-most has_psks key (t ∷ ts) = omega (arith, token-most key t, widths-most has_psks (keyed_after has_psks key t) ts)

-- the next message of a handshake
module _ {K : Type 0} (pairs : K → KeyPairs) (a : Inside K) (i : IsKept pairs a) (less : a.passed < length a.pattern.messages)
    (h : HandshakeValue K) (seen : held_in a ≡ h) where
  pub count-due : length a.next.tokens.items ≡ length (tokens_due h)
  count-due =
      sym (length-tokens_of a.next.tokens.items) ∙ ap length (tokens-next pairs a i less a.next.tokens.items refl)
      ∙ ap (λ (z : HandshakeValue K). length (tokens_due z)) seen

  -- all its tokens
  pub whole-due : (ds : List PlacedToken) → ds ≡ a.next.tokens.items → (count : ℕ) → count ≡ length (tokens_due h)
      → tokens_of (take count ds) ≡ tokens_at a.pattern.messages a.passed
  whole-due ds d count all =
      ap tokens_of (take_all count ds (omega (arith, all, count-due, ap length d))) ∙ tokens-next pairs a i less ds d

  module _ (us : List Token) (e : us ≡ tokens_at a.pattern.messages a.passed) (short : length us ≤ 10) where
    leaves-in : (state : SymmetricState) (remote : Remote) → keyed state ≡ keyed_after_tokens a.means.has_psks (keyed a.state) us
        → nonce_now state ≡ nonce_after_message a.means.has_psks (keyed a.state) (nonce_now a.state) us
        → KnowsRemote (record (held_in a) { remote = remote; passed = a.passed + 1 }) → Leaves h state remote
    leaves-in state remote k n knows =
        subst (λ (z : HandshakeValue K). Leaves z state remote) seen (record {
          key = k ∙ ap (λ (b : Bool). keyed_after_tokens b (keyed a.state) us) i.0 ∙ ap (keyed_after_tokens (has_psk a.pattern) (keyed a.state)) e;
          counted = n ∙ ap (λ (b : Bool). nonce_after_message b (keyed a.state) (nonce_now a.state) us) i.0
              ∙ ap (nonce_after_message (has_psk a.pattern) (keyed a.state) (nonce_now a.state)) e;
          knows = knows;
          few = omega (arith, short, ap length e);
        })

    module _ (xs : List (List ℕ)) (carry : Carry us xs) (bytes : List ℕ) (state : SymmetricState)
        (mixed : state ≡ after_ciphertext (after_tokens a.means.has_psks a.state us xs) bytes) where
      key-mixed : keyed state ≡ keyed_after_tokens a.means.has_psks (keyed a.state) us
      key-mixed = ap keyed mixed ∙ after_tokens-keyed a.means.has_psks a.state us xs carry

      nonce-mixed : nonce_now state ≡ nonce_after_message a.means.has_psks (keyed a.state) (nonce_now a.state) us
      nonce-mixed = ap nonce_now mixed ∙ message-counted a.means.has_psks a.state us xs bytes carry

      -- that were read
      pub leaves-read : turn_from Initiator a.passed ≡ other a.means.role → (remote : Remote) → remote ≡ remote_after a.remote us xs → Leaves h state remote
      leaves-read turn remote f =
          let k = knows-read (held_in a) i.3 less remote state [] us xs turn e carry f in
          leaves-in state remote key-mixed nonce-mixed (record { e = k.e; s = k.s })

      -- that were written
      pub leaves-wrote : turn_from Initiator a.passed ≡ a.means.role → Leaves h state a.remote
      leaves-wrote turn =
          let k = knows-wrote (held_in a) i.3 less state [] turn in
          leaves-in state a.remote key-mixed nonce-mixed (record { e = k.e; s = k.s })

  -- and what the handshake holds after it
  module _ (state : SymmetricState) (remote : Remote) (l : Leaves h state remote) (has : HasPsks h) where
    left : Leaves (held_in a) state remote
    left = subst (λ (z : HandshakeValue K). Leaves z state remote) (sym seen) l

    abbrev tokens : List Token
    tokens = tokens_of a.next.tokens.items

    tokens-are-due : tokens ≡ tokens_at a.pattern.messages a.passed
    tokens-are-due = tokens-next pairs a i less a.next.tokens.items refl

    key-left : keyed state ≡ keyed_after_tokens a.means.has_psks (keyed a.state) tokens
    key-left = left.key ∙ ap (keyed_after_tokens (has_psk a.pattern) (keyed a.state)) (sym tokens-are-due)
        ∙ ap (λ (b : Bool). keyed_after_tokens b (keyed a.state) tokens) (sym i.0)

    counted-left : nonce_now state ≡ nonce_after_message a.means.has_psks (keyed a.state) (nonce_now a.state) tokens
    counted-left = left.counted ∙ ap (nonce_after_message (has_psk a.pattern) (keyed a.state) (nonce_now a.state)) (sym tokens-are-due)
        ∙ ap (λ (b : Bool). nonce_after_message b (keyed a.state) (nonce_now a.state) tokens) (sym i.0)

    pub lays-left : (plan : Plan) → plan ≡ a.pattern → keyed state ≡ has_key plan (passed_places plan (a.passed + 1))
    lays-left plan same = key-next pairs a i less a.next.tokens.items refl a.state state refl key-left plan same

    pub kept-left : (plan : Plan) → plan ≡ a.pattern → (laid : MessageLayout) → LaysNext plan (a.passed + 1) laid → (used : ℕ) → used ≡ a.used + a.next.psks
        → IsKept pairs (record a { used = used; passed = a.passed + 1; next = laid; state = state; remote = remote })
    kept-left plan same laid lays used e =
        let short : length a.next.tokens.items ≤ 10 = omega (arith, count-due, l.few) in
        subst (λ (n : ℕ). IsKept pairs (record a { used = n; passed = a.passed + 1; next = laid; state = state; remote = remote })) (sym e)
        (unchanged-next pairs a i less a.next.tokens.items refl a.state state refl key-left counted-left short plan same laid lays h seen has remote
        (record { e = left.knows.e; s = left.knows.s }))

-- one message more has passed
module _ {K : Type 0} (h : HandshakeValue K) (state : SymmetricState) (remote : Remote) where
  pub gone-same : (r : SymmetricState) (known : Remote) → state ≡ r → remote ≡ known → gone_on h state remote ≡ gone_on h r known
  gone-same r known k e = ap (λ (z : SymmetricState). gone_on h z remote) k ∙ ap (λ (z : Remote). gone_on h r z) e

-- a handshake that has all psks goes past a message
module _ {K : Type 0} (pairs : K → KeyPairs) (h : HandshakeValue K) (all : IsSupplied h) where
  abbrev v : Party
  v = party_of pairs h

  pub gone-matches : (f : Front) (xs : List (List ℕ)) (payload message : List ℕ) (state : SymmetricState) (known : Remote)
      → IsFront f (has_psk v.pattern) v.state (tokens_now v) xs known
      → message ≡ message_bytes (has_psk v.pattern) v.state (tokens_now v) xs payload
      → state ≡ after_ciphertext f.state (drop f.from message)
      → Matches pairs (gone_on h state f.remote) (record (after_own v xs payload) { remote = known })
  gone-matches f xs payload message state known q spelled mixed =
      let has_psks : Bool = has_psk v.pattern in
      let piece : List ℕ = before_payload has_psks v.state (tokens_now v) xs in
      let after : SymmetricState = after_tokens has_psks v.state (tokens_now v) xs in
      let rest : drop f.from message ≡ ciphertext after payload =
      ap (drop f.from) spelled ∙ drop_at piece (ciphertext after payload) f.from (sym q.from) in
      record {
        is = ap (party_of pairs) (gone-same h state f.remote _ known
            (mixed ∙ ap (after_ciphertext f.state) rest ∙ ap (λ (z : SymmetricState). after_ciphertext z (ciphertext after payload)) q.state) q.remote);
        supplied = supplied-on h all state f.remote;
      }
