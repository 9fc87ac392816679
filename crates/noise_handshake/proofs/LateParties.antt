-- A handshake for the parties whose psks begin with those that were handed in.
use Rattle.std.proofs.Common.{rules, ◌≡◌, ℕ, zero, suc, ◌+◌, ◌-◌, ◌<◌, ◌≤◌, List, [], ◌∷◌, ◌++◌, length, take, drop, refl, ap, sym, subst, ◌∙◌, arith, take-take, length-take, length-append, length-drop}
use Rattle.std.specs.Prelude.{Bool, true, false, not, is_none, is_some, if◌then◌else◌}
use Rattle.noise_handshake.proofs.Common.{take-append-le, ◌&&◌, ◌==◌, Option, Some, None, MatchOption, count_by, Token, is_psk, Own, Cause, Agreement, HandshakeValue, HasPsks, IsAgreement, SymmetricState, Remote, gone_on, tokens_due, is_turn, read_fault, write_fault, WriteFault, E, S, Ephemeral, Static, IsLateWhole, IsSound, KnowsRemote, is_among, places_of, IsSupplied, party_of, party_with, psks_of, WantsPskToRead, WantsPskToWrite, Party, Accepts, BeginsAs, Listens, CanBegin, Refuses, Speaks, reader, tokens_at, tokens_now, LacksDhResultFor, WantsToRead, WantsToWrite, Writes, LacksDhResult, LacksDhResultAt, writer, IsPskAfter, BeginsBefore}
use Rattle.noise_handshake.proofs.Fronts.{lacks-all, lacks-first, lacks-for-all}
use Rattle.noise_handshake.proofs.Apart.{front-apart, reads-leads}
use Rattle.noise_handshake.specs.declared.stop.Stop.{Stop}
use Rattle.noise_handshake.proofs.Later.{count-take, count-less, given-same, leads-same, reads-same, stops-same, stops-for-same, lacks-same, lacks-for-same}
use Rattle.noise_handshake.proofs.Once.{refuses-one}
use Rattle.noise_handshake.proofs.PskPlaces.{no-place, no-psk, psk-place}
use Rattle.noise_handshake.specs.declared.faults.WriteFault.TheVariants as write
use Rattle.noise_keys.specs.Keys.{KeyPairs}

-- a party with other psks
abbrev pub holding : Party → List (List ℕ) → Party
holding v u = record v { psks = u }

listens-partial : (v : Party) (u : List (List ℕ)) → Listens (holding v u) → Listens v
listens-partial v u l = record { going = l.going; more = l.more; turn = l.turn }

speaks-partial : (v : Party) (u : List (List ℕ)) → Speaks (holding v u) → Speaks v
speaks-partial v u l = record { going = l.going; more = l.more; turn = l.turn }

-- ---- the first n psks are the same

module _ (v : Party) (u : List (List ℕ)) (n : ℕ) (e : take n u ≡ take n v.psks) where
  pub accepts-partial : (m : List ℕ) (xs : List (List ℕ)) (p : List ℕ) → count_by is_psk (tokens_now v) ≤ n → Accepts (holding v u) m xs p → Accepts v m xs p
  accepts-partial m xs p c a = search reads-same

  pub refuses-partial : (m : List ℕ) (k : ℕ) (cause : Cause) → count_by is_psk (take (suc k) (tokens_now v)) ≤ n → Refuses (holding v u) m k cause → Refuses v m k cause
  refuses-partial m k cause c a = search stops-same

  pub refuses-back : (m : List ℕ) (k : ℕ) (cause : Cause) → count_by is_psk (take (suc k) (tokens_now v)) ≤ n → Refuses v m k cause → Refuses (holding v u) m k cause
  refuses-back m k cause c a = search (rules, stops-same)

  pub wants-partial : (m : List ℕ) (own : Own) (key : List ℕ) (k : ℕ) → count_by is_psk (take k (tokens_now v)) ≤ n
      → (w : WantsToRead (holding v u) m own key) → suc (length w.stops.before) ≤ k → WantsToRead v m own key
  wants-partial m own key k c w h = record {
    listens = listens-partial v u w.listens;
    stops = stops-for-same (reader v) v.remote u v.psks v.state n e (tokens_now v) m own key w.stops
        (omega (arith, c, count-less (tokens_now v) (suc (length w.stops.before)) k h));
  }

  pub writes-partial : (p : List ℕ) (xs : List (List ℕ)) (m : List ℕ) → count_by is_psk (tokens_now v) ≤ n → Writes (holding v u) p xs m → Writes v p xs m
  writes-partial p xs m c a = search given-same

  pub lacks-back : (k : ℕ) → count_by is_psk (take (suc k) (tokens_now v)) ≤ n → LacksDhResult v k → LacksDhResult (holding v u) k
  lacks-back k c a = search (rules, lacks-same)

  pub wants-write-partial : (own : Own) (key : List ℕ) (k : ℕ) → count_by is_psk (take k (tokens_now v)) ≤ n
      → (w : WantsToWrite (holding v u) own key) → suc (length w.lacks.before) ≤ k → WantsToWrite v own key
  wants-write-partial own key k c w h = record {
    speaks = speaks-partial v u w.speaks;
    lacks = lacks-for-same (writer v) v.remote u v.psks n e (tokens_now v) own key w.lacks
        (omega (arith, c, count-less (tokens_now v) (suc (length w.lacks.before)) k h));
  }

-- ---- a psk token without a psk

-- where reading comes to it
pub wants-psk : (v : Party) (m : List ℕ) (n k : ℕ) (remote : Option (List ℕ)) → Listens v → IsPskAfter (tokens_now v) n k
    → BeginsBefore (reader v) v.remote v.psks v.state (tokens_now v) m k remote → WantsPskToRead v n m remote
wants-psk v m n k remote l a b = search

-- the key that it reports is determined
pub psk-one : (v : Party) (m : List ℕ) (n k : ℕ) (remote other : Option (List ℕ)) → IsPskAfter (tokens_now v) n k
    → BeginsBefore (reader v) v.remote v.psks v.state (tokens_now v) m k remote → WantsPskToRead v n m other → remote ≡ other
psk-one v m n k remote other a b w = search (rules, psk-place, front-apart)

-- what stops before it doesn't come to it
pub psk-not : (v : Party) (m : List ℕ) (n k j : ℕ) (cause : Cause) (remote : Option (List ℕ)) → IsPskAfter (tokens_now v) n k → j < k
    → Refuses v m j cause → WantsPskToRead v n m remote → ⊥
psk-not v m n k j cause remote a h r w =
    let same : w.before ≡ take k (tokens_now v) = psk-place (tokens_now v) w.before w.later n k a w.tokens w.count in
    let l = subst (λ (us : List Token). BeginsAs (reader v) v.remote v.psks v.state us w.carried m w.rest) same w.leads in
    let reaches = reads-leads (reader v) v.remote v.psks v.state (take k (tokens_now v)) w.carried m w.rest (suc j) l in
    r.stops.further (omega (arith, h, a.within))
    (subst (λ (us : List Token). CanBegin (reader v) v.remote v.psks v.state us m) (take-take (suc j) k (tokens_now v) (omega (arith, h))) reaches)

-- where there are psks enough
pub psk-none : (v : Party) (m : List ℕ) (n : ℕ) (remote : Option (List ℕ)) → count_by is_psk (tokens_now v) ≤ n → WantsPskToRead v n m remote → ⊥
psk-none v m n remote c w = no-psk (tokens_now v) w.before w.later n c w.tokens w.count

-- ---- a handshake that has all psks

psks-from : (ms : List (List Token)) (n : ℕ) → psks_of (drop n ms) ≡ count_by is_psk (tokens_at ms n) + psks_of (drop (suc n) ms)
psks-from [] zero = refl
psks-from [] (suc n) = refl
psks-from (ts ∷ ms) zero = refl
psks-from (ts ∷ ms) (suc n) = psks-from ms n

module _ {K : Type 0} (h : HandshakeValue K) (all : IsSupplied h) where
  next-count : length h.psks ≡ count_by is_psk (tokens_at h.pattern.messages h.passed) + psks_of (drop (h.passed + 1) h.pattern.messages)
  next-count =
      let next : suc h.passed ≡ h.passed + 1 = omega arith in
      all ∙ psks-from h.pattern.messages h.passed
      ∙ ap (λ (i : ℕ). count_by is_psk (tokens_at h.pattern.messages h.passed) + psks_of (drop i h.pattern.messages)) next

  -- none is lacking for the next message
  pub supplied-now : HasPsks h
  supplied-now = omega (arith, next-count)

  pub supplied-not : (k : ℕ) → IsPskAfter (tokens_at h.pattern.messages h.passed) (length h.psks) k → ⊥
  supplied-not k a = no-place (tokens_at h.pattern.messages h.passed) (length h.psks) k supplied-now a

  -- nor after it
  pub supplied-on : (state : SymmetricState) (remote : Remote) → IsSupplied (gone_on h state remote)
  supplied-on state remote = omega (arith, next-count, length-drop (count_by is_psk (tokens_due h)) h.psks)

-- ---- what a party wants

wants-all : (v : Party) (own : Own) (key : List ℕ) (w : WantsToWrite v own key) → suc (length w.lacks.before) ≤ length (tokens_now v)
wants-all v own key w = omega (arith, w.lacks.lacks.within)

wants-read-all : (v : Party) (m : List ℕ) (own : Own) (key : List ℕ) (w : WantsToRead v m own key) → suc (length w.stops.before) ≤ length (tokens_now v)
wants-read-all v m own key w = omega (arith, ap length w.stops.tokens, length-append w.stops.before (w.stops.token ∷ w.stops.later))

-- which DH result is reported to be lacking, or that none is
module _ (v : Party) (m : List ℕ) (o : Option (Own × List ℕ))
    (reported : MatchOption o ((token : ℕ) → Refuses v m token Agreement → ⊥) (λ want. WantsToRead v m want.0 want.1)) where
  pub wants-some : (want : Own × List ℕ) → o ≡ Some want → WantsToRead v m want.0 want.1
  wants-some want e = search rules

  pub wants-none : o ≡ None → (token : ℕ) → Refuses v m token Agreement → ⊥
  wants-none e = search rules

-- it isn't refused for one where none is
pub lacks-no-dh-result : (v : Party) (m : List ℕ) (token : ℕ) (cause : Cause) (o : Option (Own × List ℕ))
    → MatchOption o ((token : ℕ) → Refuses v m token Agreement → ⊥) (λ want. WantsToRead v m want.0 want.1)
    → Refuses v m token cause → o ≡ None → cause ≡ Agreement → ⊥
lacks-no-dh-result v m token cause o reported r e f =
    wants-none v m o reported e token (subst (λ (z : Cause). Refuses v m token z) f r)

-- ---- the psks that were handed in

module _ {K : Type 0} (pairs : K → KeyPairs) (h : HandshakeValue K) (later : List (List ℕ)) where
  abbrev v : Party
  v = party_with pairs later h

  abbrev n : ℕ
  n = length h.psks

  pub agrees : take (length h.psks) h.psks ≡ take (length h.psks) (h.psks ++ later)
  agrees = sym (take-append-le n h.psks later (omega arith))

  -- ---- writing

  pub write-none : HasPsks h → ((token : ℕ) → LacksDhResult (party_of pairs h) token → ⊥)
      → (token : ℕ) → LacksDhResult v token → ⊥
  write-none c f token l =
      f token (lacks-back v h.psks n agrees token
      (omega (arith, c, count-take (tokens_now v) (suc token))) l)

  pub write-dh-result : (own : Own) (key : List ℕ) → HasPsks h
      → WantsToWrite (party_of pairs h) own key → WantsToWrite v own key
  write-dh-result own key c a =
      wants-write-partial v h.psks n agrees own key (length (tokens_now v))
      (omega (arith, c, count-take (tokens_now v) (length (tokens_now v)))) a (wants-all (party_of pairs h) own key a)

  module _ (k : ℕ) (at : IsPskAfter (tokens_at h.pattern.messages h.passed) n k) where
    first-dh-result : (own : Own) (key : List ℕ) → LacksDhResultFor (writer v) v.remote h.psks (take k (tokens_now v)) own key
        → LacksDhResultFor (writer v) v.remote v.psks (take k (tokens_now v)) own key
    first-dh-result own key l =
        lacks-for-same (writer v) v.remote h.psks v.psks n agrees (take k (tokens_now v)) own key l
        (omega (arith, at.count, count-take (take k (tokens_now v)) (suc (length l.before))))

    pub write-before : (own : Own) (key : List ℕ) → Speaks (party_of pairs h) → LacksDhResultFor (writer v) v.remote h.psks (take k (tokens_now v)) own key
        → WantsToWrite v own key
    write-before own key sp l = search (lacks-for-all, first-dh-result)

    pub write-before-not : (own : Own) (key : List ℕ) → LacksDhResultFor (writer v) v.remote h.psks (take k (tokens_now v)) own key
        → WantsPskToWrite v n → ⊥
    write-before-not own key l x =
        let same : x.before ≡ take k (tokens_now v) = psk-place (tokens_now v) x.before x.later n k at x.tokens x.count in
        let mine = first-dh-result own key l in
        x.computed (length mine.before) (omega (arith, mine.lacks.within, ap length same))
        (record { speaks = x.speaks; lacks = lacks-all (writer v) v.remote v.psks (tokens_now v) k (length mine.before) mine.lacks })

    pub write-psk : Speaks (party_of pairs h)
        → ((token : ℕ) → LacksDhResultAt (writer v) v.remote h.psks (take k (tokens_now v)) token → ⊥) → WantsPskToWrite v n
    write-psk sp f = record {
      speaks = speaks-partial v h.psks sp;
      before = take k (tokens_now v);
      later = drop (suc k) (tokens_now v);
      tokens = at.tokens;
      count = at.count;
      computed = λ j less l.
          f j (lacks-same (writer v) v.remote v.psks h.psks n (sym agrees) (take k (tokens_now v)) j
          (omega (arith, at.count, count-take (take k (tokens_now v)) (suc j)))
          (lacks-first (writer v) v.remote v.psks (tokens_now v) k j (omega (arith, less, length-take k (tokens_now v))) l.lacks));
    }

  -- ---- reading

  module _ (m : List ℕ) where
    module _ (few : HasPsks h) where
      few-here : (k : ℕ) → count_by is_psk (take k (tokens_now v)) ≤ n
      few-here k = omega (arith, few, count-take (tokens_now v) k)

      pub read-accepts : (xs : List (List ℕ)) (p : List ℕ) → Accepts (party_of pairs h) m xs p → Accepts v m xs p
      read-accepts xs p a = accepts-partial v h.psks n agrees m xs p few a

      pub read-dh-result : (own : Own) (key : List ℕ) → WantsToRead (party_of pairs h) m own key → WantsToRead v m own key
      read-dh-result own key a =
          wants-partial v h.psks n agrees m own key (length (tokens_now v)) (few-here (length (tokens_now v))) a
          (wants-read-all (party_of pairs h) m own key a)

      -- where no DH result lacks
      pub read-lacks : ((token : ℕ) → Refuses (party_of pairs h) m token Agreement → ⊥) → (token : ℕ) → Refuses v m token Agreement → ⊥
      read-lacks none token r = none token (refuses-back v h.psks n agrees m token Agreement (few-here (suc token)) r)

      pub read-refuses : (token : ℕ) (cause : Cause) → Refuses (party_of pairs h) m token cause → Refuses v m token cause
      read-refuses token cause r = refuses-partial v h.psks n agrees m token cause (few-here (suc token)) r

      pub read-none : (remote : Option (List ℕ)) → WantsPskToRead v n m remote → ⊥
      read-none remote x = psk-none v m n remote few x

    module _ (k : ℕ) (at : IsPskAfter (tokens_at h.pattern.messages h.passed) n k) where
      few-before : (j : ℕ) → j ≤ k → count_by is_psk (take j (tokens_now v)) ≤ n
      few-before j less = omega (arith, at.count, count-less (tokens_now v) j k less)

      leads-here : (remote : Option (List ℕ)) → BeginsBefore (reader v) v.remote h.psks v.state (tokens_now v) m k remote
          → BeginsBefore (reader v) v.remote v.psks v.state (tokens_now v) m k remote
      leads-here remote l = record {
        carried = l.carried;
        rest = l.rest;
        leads = leads-same (reader v) v.remote h.psks v.psks v.state n agrees (take k (tokens_now v)) l.carried m l.rest
            (few-before k (omega arith)) l.leads;
        remote_is = l.remote_is;
      }

      pub before-psk : (remote : Option (List ℕ)) → h.passed ≤ length h.pattern.messages → read_fault h ≡ None
          → BeginsBefore (reader v) v.remote h.psks v.state (tokens_now v) m k remote → WantsPskToRead v n m remote
      before-psk remote within none b = search (rules, wants-psk, leads-here)

      pub before-one : (remote other : Option (List ℕ)) → BeginsBefore (reader v) v.remote h.psks v.state (tokens_now v) m k remote
          → WantsPskToRead v n m other → remote ≡ other
      before-one remote other b x = psk-one v m n k remote other at (leads-here remote b) x

      module _ (stop : Stop) (stops : (stop.token < k) × Refuses (party_of pairs h) m stop.token stop.cause
          × MatchOption stop.want ((j : ℕ) → Refuses (party_of pairs h) m j Agreement → ⊥)
          (λ want. WantsToRead (party_of pairs h) m want.0 want.1)) where
        few-to : count_by is_psk (take (suc stop.token) (tokens_now v)) ≤ n
        few-to = few-before (suc stop.token) stops.0

        pub before-refused : Refuses v m stop.token stop.cause
        before-refused = refuses-partial v h.psks n agrees m stop.token stop.cause few-to stops.1

        pub before-not : (remote : Option (List ℕ)) → WantsPskToRead v n m remote → ⊥
        before-not remote x = psk-not v m n k stop.token stop.cause remote at stops.0 before-refused x

        pub before-declined : stop.want ≡ None → stop.cause ≡ Agreement → ⊥
        before-declined e f = lacks-no-dh-result (party_of pairs h) m stop.token stop.cause stop.want stops.2 stops.1 e f

        pub before-dh-result : (want : Own × List ℕ) → stop.want ≡ Some want → WantsToRead v m want.0 want.1
        before-dh-result want e =
            let a = wants-some (party_of pairs h) m stop.want stops.2 want e in
            let one = refuses-one (party_of pairs h) m (length a.stops.before) stop.token Agreement stop.cause
            (record { listens = a.listens; stops = a.stops.stops }) stops.1 in
            wants-partial v h.psks n agrees m want.0 want.1 k (few-before k (omega arith)) a (omega (arith, one.0, stops.0))

-- ---- faults

-- why no message is written is no want of a DH result
no-agreement : (ended all ours long : Bool) (f : WriteFault)
    → (if ended then Some write.Ended else if all then Some write.Done else if not ours then Some write.NotYourTurn
    else if long then Some write.TooLong else None) ≡ Some f
    → IsAgreement f → ⊥
no-agreement ended all ours long write.Ended e x = x
no-agreement ended all ours long write.Done e x = x
no-agreement ended all ours long write.NotYourTurn e x = x
no-agreement ended all ours long write.TooLong e x = x
no-agreement true all ours long (write.Agreement token) e x = cc
no-agreement false true ours long (write.Agreement token) e x = cc
no-agreement false false false long (write.Agreement token) e x = cc
no-agreement false false true true (write.Agreement token) e x = cc
no-agreement false false true false (write.Agreement token) e x = cc

pub fault-no-agreement : {K : Type 0} (h : HandshakeValue K) (payload : ℕ) (f : WriteFault) → write_fault h payload ≡ Some f → IsAgreement f → ⊥
fault-no-agreement h payload f e = search no-agreement

pub lacks-partial : (v : Party) (u : List (List ℕ)) (n : ℕ) → take n u ≡ take n v.psks → (k : ℕ) → count_by is_psk (take (suc k) (tokens_now v)) ≤ n
    → LacksDhResult (holding v u) k → LacksDhResult v k
lacks-partial v u n e k c a = search lacks-same

-- ---- the psks that are missing

pub some-psks : (n : ℕ) → (xs : List (List ℕ)) × (length xs ≡ n)
some-psks zero = ([], refl)
some-psks (suc n) = ([] ∷ (some-psks n).0, ap suc (some-psks n).1)

not-lacked : (b : Bool) (o : Option (List ℕ)) → (b ≡ true → is_some o ≡ true) → (b && is_none o) ≡ false
not-lacked false o h = refl
not-lacked true (Some x) h = refl
not-lacked true None h = let e = h refl in absurd (cc)

pub whole-of : {K : Type 0} (pairs : K → KeyPairs) (h : HandshakeValue K) → IsSound pairs h → KnowsRemote h → IsLateWhole pairs h
whole-of pairs h s k =
    let missing = some-psks (psks_of (drop h.passed h.pattern.messages) - length h.psks) in (
      missing.0,
      record {
        within = s.within;
        psks = omega (arith, s.psks, missing.1, length-append h.psks missing.0);
        own_e = not-lacked (is_among h.role E (places_of h.pattern)) ((pairs h.keys).public Ephemeral) s.has_e;
        own_s = not-lacked (is_among h.role S (places_of h.pattern)) ((pairs h.keys).public Static) s.has_s;
        remote_e = k.e;
        remote_s = k.s;
        key = s.keyed;
        nonce = s.nonce;
      },
    )

-- ---- writing with all psks

due-of : (ended all ours long : Bool)
    → (if ended then Some write.Ended else if all then Some write.Done else if not ours then Some write.NotYourTurn
    else if long then Some write.TooLong else None) ≡ None
    → (not ended && not all && ours) ≡ true
due-of true all ours long e = absurd (cc)
due-of false true ours long e = absurd (cc)
due-of false false false long e = absurd (cc)
due-of false false true true e = absurd (cc)
due-of false false true false e = refl

-- where no fault is found before, a message of this party is due
pub speaks-due : {K : Type 0} (h : HandshakeValue K) (payload : ℕ) → write_fault h payload ≡ None
    → (not h.ended && not (h.passed == length h.pattern.messages) && is_turn h.role h.passed) ≡ true
speaks-due h payload e = search due-of
